-- `listing_lines::region_line` meets its contract. Assumes nothing.
use Rattle.listing_lines.proofs.region_line.Goals as goal

pub returns : goal.returns
returns c =
    rw (c.to_bits-left.ensures, c.to_bits-top.ensures, c.to_bits-right.ensures, c.to_bits-bottom.ensures) at c.region_text.ensures
