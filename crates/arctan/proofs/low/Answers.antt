-- `arctan::low` meets its contract (proofs/Wide.antt). Assumes nothing.
use Rattle.std.proofs.Common.{ℕ, ◌*◌, ◌/◌, ◌%◌, ◌^◌, ◌≤◌, mul-le-mul, arith}
use Rattle.arctan.proofs.Wide.{fits, lower}
use Rattle.arctan.proofs.low.Goals as goal

-- in the middle: the factors' own bounds leave room for the sum
narrow : {x y : ℕ} → x ≤ 2 ^ 31 → y ≤ 2 ^ 32 → x * y ≤ 2 ^ 63
narrow p q = mul-le-mul p q

narrower : {x y : ℕ} → x ≤ 2 ^ 32 → y ≤ 2 ^ 28 → x * y ≤ 2 ^ 60
narrower p q = mul-le-mul p q

small : {a b : ℕ} → (a ≤ 2 ^ 63) × (b ≤ 2 ^ 60)
    → (a / 2 ^ 32 * (b % 2 ^ 32) ≤ 2 ^ 63) × (a % 2 ^ 32 * (b / 2 ^ 32) ≤ 2 ^ 60) × (a % 2 ^ 32 * (b % 2 ^ 32) ≤ 18446744065119617025)
small h = (narrow (omega arith) (omega arith), narrower (omega arith) (omega arith), fits (omega arith) (omega arith))

pub overflow_mul-middle : goal.overflow_mul-middle
overflow_mul-middle c = omega (arith, small c.requires)

pub overflow_mul-middle-2 : goal.overflow_mul-middle-2
overflow_mul-middle-2 c = omega (arith, small c.requires)

pub overflow_add-middle : goal.overflow_add-middle
overflow_add-middle c = omega (arith, small c.requires)

pub overflow_mul-result-2 : goal.overflow_mul-result-2
overflow_mul-result-2 c = omega (arith, small c.requires)

pub returns : goal.returns
returns c = lower c.args.a c.args.b
