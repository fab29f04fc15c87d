-- `arctan::stretched` meets its contract: w * w is at most 2 ^ 59, and a product at most its second factor (proofs/Bounds.antt). Assumes nothing.
use Rattle.std.proofs.Common.{ℕ, ◌+◌, ◌^◌, ◌≤◌, ap, ◌∙◌, le_trans, arith}
use Rattle.arctan.specs.Whole.{product}
use Rattle.arctan.specs.Tangent.{stretched}
use Rattle.arctan.proofs.Bounds.{product_left, product_right}
use Rattle.arctan.proofs.stretched.Goals as goal

square : (w : ℕ) → w ≤ 2 ^ 59 → product w w ≤ 2 ^ 59
square w h = omega (arith, product_left w w (omega arith))

few : (w e : ℕ) → w ≤ 2 ^ 59 → e ≤ 2 ^ 60 → product (product w w) e ≤ 2 ^ 60
few w e h g = le_trans (product_right (product w w) e (omega (arith, square w h))) g

pub product-requires-2 : goal.product-requires-2
product-requires-2 c = (rw c.product.ensures (square c.args.w c.requires.0), c.requires.1)

pub overflow_add-result : goal.overflow_add-result
overflow_add-result c = omega (arith, c.product-2.ensures ∙ ap (λ (y : ℕ). product y c.args.e) c.product.ensures, few c.args.w c.args.e c.requires.0 c.requires.1)

pub returns : goal.returns
unfolding stretched
returns c = (ap (λ (y : ℕ). c.args.e + y) (c.product-2.ensures ∙ ap (λ (y : ℕ). product y c.args.e) c.product.ensures), omega (arith, c.product-2.ensures ∙ ap (λ (y : ℕ). product y c.args.e) c.product.ensures, few c.args.w c.args.e c.requires.0 c.requires.1))
