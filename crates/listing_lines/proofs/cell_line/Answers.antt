-- `listing_lines::cell_line` meets its contract. Assumes nothing.
use Rattle.listing_lines.proofs.cell_line.Goals as goal

pub returns : goal.returns
returns c = rw (c.to_bits32.ensures, c.to_bits32-2.ensures) at c.cell_text.ensures
