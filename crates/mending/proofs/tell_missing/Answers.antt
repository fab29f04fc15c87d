-- `mending::tell_missing` meets its contract. Assumes nothing.
use Rattle.put_text.specs.Placed.{each_placed}
use Rattle.mending.proofs.tell_missing.Goals as goal

pub returns-in-Line : goal.returns-in-Line
unfolding each_placed
returns-in-Line c = simp c.in-Line.is c.cell_text.ensures

pub returns-in-Filled : goal.returns-in-Filled
unfolding each_placed
returns-in-Filled c = simp c.in-Filled.is c.filled_line.ensures

pub returns-in-Differs : goal.returns-in-Differs
unfolding each_placed
returns-in-Differs c = simp c.in-Differs.is
