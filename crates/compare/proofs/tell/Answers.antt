-- `compare::tell` meets its contract. Assumes nothing.
use Rattle.put_text.specs.Placed.{each_placed}
use Rattle.compare.proofs.Telling.{two_placed}
use Rattle.compare.proofs.tell.Goals as goal

pub returns-in-Same : goal.returns-in-Same
unfolding each_placed
returns-in-Same c = simp c.in-Same.is

pub returns-in-Lines : goal.returns-in-Lines
returns-in-Lines c = simp c.in-Lines.is (two_placed _ _ _ _ _ c.put-next.ensures c.put.ensures)

pub returns-in-Cells : goal.returns-in-Cells
unfolding each_placed
returns-in-Cells c = simp c.in-Cells.is c.difference_line.ensures
