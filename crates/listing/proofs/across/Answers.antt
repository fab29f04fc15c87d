-- `listing::across` meets its contract. Assumes nothing.
use borrow.Author.Tests.{eq-eqb, ne_eqb}
use Rattle.listing.specs.Listing.{across}
use Rattle.listing.proofs.across.Goals as goal

pub returns-then-u-width : goal.returns-then-u-width
unfolding across
returns-then-u-width c = simp (eq-eqb _ _ c.if-u-width.true)

pub returns-else-u-width : goal.returns-else-u-width
unfolding across
returns-else-u-width c = simp (ne_eqb _ _ c.if-u-width.false)
