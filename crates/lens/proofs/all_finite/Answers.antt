-- `lens::all_finite` meets its contract. Assumes nothing.
use mathlib.Core.Path.{ap, ◌∙◌}
use lib.Ieee.{Float, eq}
use Rattle.exact.proofs.Marks.{mark_itself}
use Rattle.lens.specs.Finite.{all_finite}
use Rattle.lens.proofs.all_finite.Goals as goal

pub returns : goal.returns
returns c = ap (λ (d : Float). eq d d) c.marks-sum.ensures ∙ mark_itself (all_finite c.args.numbers.now)
