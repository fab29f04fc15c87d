-- `lens::marks` meets its contract. The loop's invariant: both sums are marks, and they and the numbers from i on decide. Assumes nothing.
use mathlib.Core.Path.{◌≡◌}
use mathlib.Core.Bool.{Bool, ◌&&◌}
use mathlib.Core.List.{List}
use Prim.Native.Nat.{ℕ, ◌-◌, ◌≤◌}
use lib.Ieee.{Float}
use lib.ListN.{length, drop}
use Rattle.exact.specs.F64.{mark}
use Rattle.lens.specs.Finite.{all_finite}
use Rattle.lens.proofs.marks.Given as goal

pub record Sums (l : List Float) (i : ℕ) (left right : Float) : Type 0 where
  pub a : Bool
  pub b : Bool
  pub left_is : left ≡ mark a
  pub right_is : right ≡ mark b
  pub rest : ((a && b) && all_finite (drop i l)) ≡ all_finite l

abbrev pub invariant-loop-i : goal.invariant-loop-i
invariant-loop-i l = (l.i ≤ length l.numbers) × Sums l.numbers l.i l.left l.right

abbrev pub decreases-loop-i : goal.decreases-loop-i
decreases-loop-i l = length l.numbers - l.i
