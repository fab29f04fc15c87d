-- `compare::counted` meets its contract. Assumes nothing.
use borrow.Author.Tests.{lt-ltb, le-ltb}
use Rattle.compare.specs.Told.{counted}
use Rattle.compare.proofs.counted.Goals as goal

pub returns-in-Same : goal.returns-in-Same
unfolding counted
returns-in-Same c = simp c.in-Same.is

pub returns-in-Lines : goal.returns-in-Lines
unfolding counted
returns-in-Lines c = simp c.in-Lines.is

pub returns-then-count-lt-MOST : goal.returns-then-count-lt-MOST
unfolding counted
returns-then-count-lt-MOST c = simp (c.in-Cells.is, lt-ltb _ _ c.if-count-lt-MOST.true)

pub returns-else-count-lt-MOST : goal.returns-else-count-lt-MOST
unfolding counted
returns-else-count-lt-MOST c = simp (c.in-Cells.is, le-ltb _ _ c.if-count-lt-MOST.false)
