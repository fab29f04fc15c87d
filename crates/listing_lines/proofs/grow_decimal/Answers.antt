-- `listing_lines::grow_decimal` meets its contract. Assumes nothing.
use mathlib.Core.Path.{◌∙◌}
use native.Mathlib.Omega.{arith}
use Rattle.decimal.proofs.Digits.{decimal_is, fewest_short}
use Rattle.listing_lines.proofs.Growing.{field_grown}
use Rattle.listing_lines.proofs.grow_decimal.Goals as goal

pub returns : goal.returns
returns c =
    field_grown _ _ _ _ _ _ _ _ _
    c.grow-next.ensures
    c.put.auto.out
    c.requires
    (fewest_short _ _ 20 (omega arith) (omega arith) c.decimal-k.ensures.len)
    (c.decimal-k.ensures.digits ∙ decimal_is _ _ c.decimal-k.ensures.len)
    c.put.ensures
