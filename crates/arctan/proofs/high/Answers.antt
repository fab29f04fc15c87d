-- `arctan::high` meets its contract: each product of two halves fits, and so do the sums (proofs/Wide.antt). Assumes nothing.
use Rattle.std.proofs.Common.{ℕ, ◌*◌, ◌/◌, ◌%◌, ◌^◌, ◌<◌, ◌≤◌, arith}
use Rattle.arctan.proofs.Wide.{fits, upper}
use Rattle.arctan.proofs.high.Goals as goal

-- the products of halves
abbrev Small : ℕ → ℕ → Type 0
Small a b =
    (a / 2 ^ 32 * (b / 2 ^ 32) ≤ 18446744065119617025) × (a / 2 ^ 32 * (b % 2 ^ 32) ≤ 18446744065119617025)
    × (a % 2 ^ 32 * (b / 2 ^ 32) ≤ 18446744065119617025) × (a % 2 ^ 32 * (b % 2 ^ 32) ≤ 18446744065119617025)

small : (a b : ℕ) → a < 2 ^ 64 → b < 2 ^ 64 → Small a b
small a b h g = (fits (omega arith) (omega arith), fits (omega arith) (omega arith), fits (omega arith) (omega arith), fits (omega arith) (omega arith))

pub overflow_mul-left : goal.overflow_mul-left
overflow_mul-left c = omega (arith, small c.args.a c.args.b (omega arith) (omega arith))

pub overflow_mul-right : goal.overflow_mul-right
overflow_mul-right c = omega (arith, small c.args.a c.args.b (omega arith) (omega arith))

pub overflow_mul-middle : goal.overflow_mul-middle
overflow_mul-middle c = omega (arith, small c.args.a c.args.b (omega arith) (omega arith))

pub overflow_add-middle : goal.overflow_add-middle
overflow_add-middle c = omega (arith, small c.args.a c.args.b (omega arith) (omega arith))

pub overflow_add-middle-2 : goal.overflow_add-middle-2
overflow_add-middle-2 c = omega (arith, small c.args.a c.args.b (omega arith) (omega arith))

pub overflow_mul-result : goal.overflow_mul-result
overflow_mul-result c = omega (arith, small c.args.a c.args.b (omega arith) (omega arith))

pub overflow_add-result : goal.overflow_add-result
overflow_add-result c = omega (arith, small c.args.a c.args.b (omega arith) (omega arith))

pub overflow_add-result-2 : goal.overflow_add-result-2
overflow_add-result-2 c = omega (arith, small c.args.a c.args.b (omega arith) (omega arith))

pub overflow_add-result-3 : goal.overflow_add-result-3
overflow_add-result-3 c = omega (arith, small c.args.a c.args.b (omega arith) (omega arith))

pub returns : goal.returns
returns c = upper c.args.a c.args.b
