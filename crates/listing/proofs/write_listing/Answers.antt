-- `listing::write_listing` meets its contract. Assumes nothing.
use Rattle.listing.proofs.Rows.{no_header, no_region, all_lines}
use Rattle.listing.proofs.write_listing.Goals as goal

pub returns-then-first-at : goal.returns-then-first-at
returns-then-first-at c = no_header _ _ _ _ _ _ _ _ c.table_line-first.ensures c.if-first-at.true

pub returns-then-second-first : goal.returns-then-second-first
returns-then-second-first c = no_region _ _ _ _ _ _ _ _ c.table_line-first.ensures c.if-first-at.false _ _ c.region_line-second.ensures c.if-second-first.true

pub returns : goal.returns
returns c = all_lines _ _ _ _ _ _ _ _ c.table_line-first.ensures c.if-first-at.false _ _ c.region_line-second.ensures _ _ c.if-second-first.false c.cells.ensures
