-- `root::first_rest` meets its contract: the power's last digit says how many zeros the significand is given. Assumes nothing.
use mathlib.Core.Path.{◌≡◌, sym, ap, ◌∙◌}
use Prim.Native.Nat.{ℕ, ◌+◌, ◌*◌, ◌%◌, ◌^◌, ◌<◌}
use native.Mathlib.Omega.{arith}
use Rattle.root.specs.declared.Scaled.{Scaled}
use Rattle.root.specs.Digits.{Start}
use Rattle.root.proofs.first_rest.Goals as goal

lent : (s : Scaled) (r o : ℕ) → s.power % 2 ≡ o → r + 1 < 3 * 2 ^ 52 → r * 2 ^ 52 + 2 ^ 52 * 2 ^ 52 ≡ (2 ^ 52 + s.tail) * 2 ^ (52 + o) → Start s r
lent s r o p h e = record { small = h; lent = e ∙ ap (λ (x : ℕ). (2 ^ 52 + s.tail) * 2 ^ (52 + x)) (sym p) }

even : (x : ℕ) → (x % 2 ≡ 1 → ⊥) → x % 2 ≡ 0
even x n = omega arith

pub returns-then-s-eq1 : goal.returns-then-s-eq1
returns-then-s-eq1 c = let b = c in lent b.args.s _ 1 c.if-s-eq1.true (omega arith) (omega arith)

pub returns-else-s-eq1 : goal.returns-else-s-eq1
returns-else-s-eq1 c = let b = c in lent b.args.s _ 0 (even b.args.s.power c.if-s-eq1.false) (omega arith) (omega arith)
