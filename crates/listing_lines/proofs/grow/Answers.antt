-- `listing_lines::grow` meets its contract: what it asks leaves room in a line. Assumes nothing.
use borrow.Author.Rules.{rules}
use Rattle.listing_lines.proofs.Growing.{put_grown}
use Rattle.listing_lines.proofs.grow.Goals as goal

pub returns : goal.returns
returns c = put_grown _ _ _ _ _ (search rules) c.put.auto.out c.requires.0 c.requires.1 c.put.ensures
