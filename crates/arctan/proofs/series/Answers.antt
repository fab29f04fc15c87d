-- `arctan::series` meets its contract: s * s is at most s, and the nested sum at most 2 ^ 60 (proofs/Bounds.antt). Assumes nothing.
use Rattle.std.proofs.Common.{ℕ, ap, ◌∙◌, le_trans, arith}
use Rattle.arctan.specs.Whole.{product, nested, reciprocals, series}
use Rattle.arctan.proofs.Table.{table}
use Rattle.arctan.proofs.Bounds.{product_left, nested_one}
use Rattle.arctan.proofs.series.Goals as goal

pub product-requires : goal.product-requires
product-requires c = omega arith

pub nested-requires : goal.nested-requires
nested-requires c = rw c.product.ensures (le_trans (product_left c.args.s c.args.s (omega arith)) c.requires)

pub product-requires-2 : goal.product-requires-2
product-requires-2 c = (omega arith, rw c.nested.ensures (nested_one c.product.result table))

pub returns : goal.returns
unfolding series
returns c = c.product-2.ensures ∙ ap (product c.args.s) (c.nested.ensures ∙ ap (λ (y : ℕ). nested y reciprocals) c.product.ensures)
