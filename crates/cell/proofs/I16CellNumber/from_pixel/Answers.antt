-- `cell::I16CellNumber::from_pixel` meets its contract: sixteen bits hold what was handed out, so that it comes back
-- as it was. Assumes nothing.
use mathlib.Core.Path.{refl, sym, ap₂, ◌∙◌}
use Rattle.std.proofs.Common.{rules}
use mir.Syntax.{w16}
use mir.ValLaws.{to_z-of_z}
use Rattle.plans.specs.Plan.{numbers}
use Rattle.cell.specs.Cell.{both_held, i16}
use Rattle.cell.proofs.Finite.{holds, of_held}
use Rattle.cell.proofs.I16CellNumber.from_pixel.Goals as goal

pub returns : goal.returns
returns c =
    let pixel = c.args.pixel in
    let both = c.in-Some-Some in
    let a = sym both.is-0 ∙ c.thirty_seconds.ensures in
    let b = sym both.is-1 ∙ c.thirty_seconds-2.ensures in
    holds i16 pixel
    (ap₂ numbers (to_z-of_z w16 both.i (record { sfits = search rules })) (to_z-of_z w16 both.j (record { sfits = search rules }))
    ∙ ap₂ both_held a b)
    (of_held pixel.0 a refl) (of_held pixel.1 b refl)
