-- `lens::both_finite` meets its contract. Assumes nothing.
use mathlib.Core.Path.{ap, ◌∙◌}
use mathlib.Core.Bool.{◌&&◌}
use lib.Ieee.{Float, eq}
use lib.Ieee.Scale.{finite}
use Rattle.exact.proofs.Marks.{marks_add, mark_itself}
use Rattle.lens.proofs.both_finite.Goals as goal

pub returns : goal.returns
returns c =
    let x = finite c.args.x in
    let y = finite c.args.y in
    ap (λ (d : Float). eq d d) (rw (c.mark.ensures, c.mark-2.ensures) (marks_add x y)) ∙ mark_itself (x && y)
