-- `listing_lines::grow_single` meets its contract. Assumes nothing.
use mathlib.Core.Path.{◌∙◌}
use native.Mathlib.Omega.{arith}
use Rattle.listing_lines.proofs.Numbers.{hex_is, hex_short}
use Rattle.listing_lines.proofs.Growing.{field_grown}
use Rattle.listing_lines.proofs.Lines.{nine}
use Rattle.listing_lines.proofs.grow_single.Goals as goal

pub returns : goal.returns
returns c =
    let g = field_grown _ _ _ _ _ _ _ _ _ c.grow-next.ensures c.put.auto.out c.requires (hex_short 8 _ _ (omega arith) (omega arith) c.hex-k.ensures.len) (c.hex-k.ensures.digits ∙ hex_is 8 _ _ (omega arith) c.hex-k.ensures.len) c.put.ensures in
    record { grown = g; upper_bound = nine _ g }
