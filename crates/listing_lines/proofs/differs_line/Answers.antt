-- `listing_lines::differs_line` meets its contract. Assumes nothing.
use Rattle.listing_lines.specs.Line.{differs_line}
use Rattle.listing_lines.proofs.differs_line.Goals as goal

pub returns : goal.returns
unfolding differs_line
returns c = c.place_line.ensures
