-- `distortion_table::cells_due` meets its contract. Assumes nothing.
use mathlib.Core.Path.{◌≡◌, refl, sym, ap, ◌∙◌}
use mathlib.Core.Bool.{Bool, cond}
use Prim.Native.Nat.{ℕ, ◌+◌, ◌-◌, ◌*◌, ◌≤◌, min}
use native.Mathlib.Omega.{arith}
use borrow.Author.Tests.{lt-ltb, le-ltb}
use Rattle.region.proofs.Size.{bounded}
use Rattle.border.specs.Border.{samples, all_units}
use Rattle.turns.specs.Turns.{running}
use Rattle.plans.specs.declared.Progress.{Progress}
use Rattle.distortion_table.specs.Parts.{over, cells, behind_border}
use Rattle.distortion_table.proofs.cells_due.Goals as goal

behind :
    (width height left : ℕ) (at : Progress) (border count : ℕ) → border ≡ samples width height → border ≤ at.done
    → count ≡ min left (border + width * height - at.done) → cells at (border + width * height) (at.done - border) count ≡ behind_border width height left at
behind width height left at border count e h f =
    ap (cells at (border + width * height) (at.done - border)) f
    ∙ ap (λ (n : ℕ). cells at (n + width * height) (at.done - n) (min left (n + width * height - at.done))) e
    ∙ sym (ap (λ (b : Bool). cond b (over running at) (cells at (all_units width height) (at.done - samples width height) (min left (all_units width height - at.done)))) (le-ltb at.done (samples width height) (omega (arith, e, h))))

pub overflow_mul-all : goal.overflow_mul-all
overflow_mul-all c = omega (arith, bounded _ _ c.requires)

pub overflow_add-all : goal.overflow_add-all
overflow_add-all c = omega (arith, bounded _ _ c.requires, c.requires.not_wider, c.requires.not_higher, c.samples-border.ensures)

pub returns-then-done-border : goal.returns-then-done-border
returns-then-done-border c = let a = c.args in rw (lt-ltb a.at.done (samples a.width a.height) (omega (arith, c.if-done-border.true, c.samples-border.ensures))) refl

pub returns : goal.returns
returns c = let a = c.args in behind a.width a.height a.left a.at c.samples-border.result c.due-count.result c.samples-border.ensures c.if-done-border.false c.due-count.ensures
