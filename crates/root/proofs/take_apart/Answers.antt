-- `root::take_apart` meets its contract (proofs/Apart.antt). Assumes nothing.
use mathlib.Core.Path.{◌≡◌, refl, ap, ◌∙◌}
use Prim.Native.Nat.{ℕ, ◌-◌, ◌*◌, ◌%◌, ◌^◌, ◌<◌}
use native.Mathlib.Omega.{arith}
use lib.Count.{count_leading_zeros}
use Rattle.root.proofs.Apart.{up_of, low, mid}
use Rattle.root.proofs.take_apart.Goals as goal

pub overflow_cast-zeros : goal.overflow_cast-zeros
overflow_cast-zeros c = omega (arith, (up_of (c.args.bits % 2 ^ 52) (omega arith) (omega arith)).few)

pub overflow_sub-result : goal.overflow_sub-result
overflow_sub-result c = (up_of (c.args.bits % 2 ^ 52) (omega arith) (omega arith)).enough

pub overflow_shl-result : goal.overflow_shl-result
overflow_shl-result c = omega (arith, (up_of (c.args.bits % 2 ^ 52) (omega arith) (omega arith)).few)

pub overflow_sub-result-then-field-eq0 : goal.overflow_sub-result-then-field-eq0
overflow_sub-result-then-field-eq0 c = omega (arith, (up_of (c.args.bits % 2 ^ 52) (omega arith) (omega arith)).low, (up_of (c.args.bits % 2 ^ 52) (omega arith) (omega arith)).high)

pub overflow_sub-result-then-field-eq0-2 : goal.overflow_sub-result-then-field-eq0-2
overflow_sub-result-then-field-eq0-2 c = omega (arith, (up_of (c.args.bits % 2 ^ 52) (omega arith) (omega arith)).few)

pub returns-then-field-eq0 : goal.returns-then-field-eq0
returns-then-field-eq0 c =
    let b = c.args.bits in
    let U = up_of b (omega arith) (omega arith) in
    let whole : b % 2 ^ 52 ≡ b = omega arith in
    low b (omega arith) (omega arith) _
    (ap (λ (t : ℕ). t * 2 ^ (count_leading_zeros 64 t - 11) % 2 ^ 64 - 2 ^ 52) whole ∙ kept (b * 2 ^ (count_leading_zeros 64 b - 11)) U.high)
    (ap (λ (t : ℕ). 1033 - count_leading_zeros 64 t) whole)
  where
    kept : (n : ℕ) → n < 2 ^ 53 → n % 2 ^ 64 - 2 ^ 52 ≡ n - 2 ^ 52
    kept n h = omega arith

pub returns-else-field-eq0 : goal.returns-else-field-eq0
returns-else-field-eq0 c = mid c.args.bits (omega arith) (omega arith) _ refl refl
