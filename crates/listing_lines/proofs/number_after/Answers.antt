-- `listing_lines::number_after` meets its contract. Assumes nothing.
use borrow.Author.Tests.{eq-eqb, ne_eqb}
use Rattle.listing_lines.specs.Numeral.{number_after}
use Rattle.listing_lines.proofs.number_after.Goals as goal

pub returns-then-left-eq1 : goal.returns-then-left-eq1
unfolding number_after
returns-then-left-eq1 c = simp (eq-eqb _ _ c.if-left-eq1.true) c.pushed.ensures

pub returns-else-left-eq1 : goal.returns-else-left-eq1
unfolding number_after
returns-else-left-eq1 c = simp (ne_eqb _ _ c.if-left-eq1.false)
