-- `arctan::product` meets its contract: the upper half of the whole product is its answer, or one more where the low halves reach over (proofs/Wide.antt). Assumes nothing.
use Rattle.std.proofs.Common.{◌≡◌, ℕ, ◌+◌, ◌*◌, ◌/◌, ◌%◌, ◌^◌, ◌<◌, ltb, arith}
use native.Mathlib.Decide.{dec_le}
use borrow.Author.Tests.{lt-ltb, le-ltb}
use mir.Val.{bool_byte}
use Rattle.arctan.specs.Whole.{product}
use Rattle.arctan.proofs.Wide.{corner, carried, kept}
use Rattle.arctan.proofs.product.Goals as goal

pub overflow_mul-corner-3 : goal.overflow_mul-corner-3
overflow_mul-corner-3 c = omega (arith, corner c.args.a c.args.b)

-- the upper half is the answer and what is borrowed
borrowed : (a b l h : ℕ) → l ≡ a * 16 * b % 2 ^ 64 → h ≡ a * 16 * b / 2 ^ 64 → h ≡ product a b + bool_byte (ltb l (a * 4 % 2 ^ 32 * (b * 4 % 2 ^ 32)))
borrowed a b l h e d =
    elim (dec_le (a * 4 % 2 ^ 32 * (b * 4 % 2 ^ 32)) l) [
      | yes m ↦ rw (le-ltb l (a * 4 % 2 ^ 32 * (b * 4 % 2 ^ 32)) m) (omega (arith, kept a b e d m))
      | no f ↦ let m : l < a * 4 % 2 ^ 32 * (b * 4 % 2 ^ 32) = omega arith in rw (lt-ltb l (a * 4 % 2 ^ 32 * (b * 4 % 2 ^ 32)) m) (carried a b e d m)
    ]

pub overflow_sub-result : goal.overflow_sub-result
overflow_sub-result c = omega (arith, c.from-borrow.ensures, borrowed c.args.a c.args.b _ _ c.low.ensures c.high.ensures)

pub returns : goal.returns
returns c = omega (arith, c.from-borrow.ensures, borrowed c.args.a c.args.b _ _ c.low.ensures c.high.ensures)
