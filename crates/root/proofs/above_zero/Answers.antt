-- `root::above_zero` meets its contract: what its four callees promise, put together (proofs/Whole.antt). Assumes nothing.
use mathlib.Core.Path.{◌≡◌, ap, ◌∙◌}
use Prim.Native.Nat.{ℕ, ◌+◌, ◌*◌, ◌/◌, ◌%◌, ◌^◌, ◌<◌}
use native.Mathlib.Omega.{arith}
use lib.Ieee.{binary64, of_bits}
use Rattle.exact.proofs.Tests.{number_pattern}
use Rattle.root.proofs.Whole.{result, root_is}
use Rattle.root.proofs.above_zero.Goals as goal

-- the power has few digits, so none is shifted out
kept : (p : ℕ) → p < 3068 → p / 2 * 2 ^ 52 % 2 ^ 64 ≡ p / 2 * 2 ^ 52
kept p h = omega arith

pub overflow_add-result : goal.overflow_add-result
overflow_add-result c = omega (arith, (result c.first_rest.result c.nearer-q.result c.digits.result c.first_rest.ensures.small c.digits.ensures c.nearer-q.ensures).most, c.take_apart-s.ensures.greatest)

pub float_from_bits-result : goal.float_from_bits-result
float_from_bits-result c = number_pattern _ (omega (arith, (result c.first_rest.result c.nearer-q.result c.digits.result c.first_rest.ensures.small c.digits.ensures c.nearer-q.ensures).most, c.take_apart-s.ensures.greatest))

pub returns : goal.returns
returns c =
    let a = c.take_apart-s in
    let r = c.nearer-q.result in
    ap (λ (z : ℕ). of_bits binary64 (z + r)) (kept a.result.power a.ensures.greatest)
    ∙ root_is c.args.bits a.result c.first_rest.result r a.ensures c.first_rest.ensures (result c.first_rest.result c.nearer-q.result c.digits.result c.first_rest.ensures.small c.digits.ensures c.nearer-q.ensures)
