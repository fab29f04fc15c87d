-- `listing_lines::filled_line` meets its contract. Assumes nothing.
use Rattle.listing_lines.specs.Line.{filled_line}
use Rattle.listing_lines.proofs.filled_line.Goals as goal

pub returns : goal.returns
unfolding filled_line
returns c = c.place_line.ensures
