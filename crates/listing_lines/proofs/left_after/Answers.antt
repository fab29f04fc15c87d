-- `listing_lines::left_after` meets its contract. Assumes nothing.
use borrow.Author.Tests.{eq-eqb, ne_eqb}
use Rattle.listing_lines.specs.Numeral.{left_after}
use Rattle.listing_lines.proofs.left_after.Goals as goal

pub returns-then-b-eq9 : goal.returns-then-b-eq9
unfolding left_after
returns-then-b-eq9 c = simp (eq-eqb _ _ c.if-b-eq9.true) c.saturating_sub.ensures

pub returns-else-b-eq9 : goal.returns-else-b-eq9
unfolding left_after
returns-else-b-eq9 c = simp (ne_eqb _ _ c.if-b-eq9.false)
