-- `compare::line_end` meets its contract. Assumes nothing.
use Rattle.compare.proofs.Ahead.{Passed}
use Rattle.compare.proofs.line_end.Given as goal

abbrev pub invariant-loop-i : goal.invariant-loop-i
invariant-loop-i l = Passed l.room l.text l.i
