-- `listing_lines::grow_double` meets its contract. Assumes nothing.
use mathlib.Core.Path.{◌∙◌}
use native.Mathlib.Omega.{arith}
use Rattle.listing_lines.proofs.Numbers.{hex_is, hex_short}
use Rattle.listing_lines.proofs.Growing.{field_grown}
use Rattle.listing_lines.proofs.grow_double.Goals as goal

pub returns : goal.returns
returns c = field_grown _ _ _ _ _ _ _ _ _ c.grow-next.ensures c.put.auto.out c.requires (hex_short 16 _ _ (omega arith) (omega arith) c.hex-k.ensures.len) (c.hex-k.ensures.digits ∙ hex_is 16 _ _ (omega arith) c.hex-k.ensures.len) c.put.ensures
