-- `decimal::read` meets its contract. The loop's invariant says of the bytes passed that they are digits, and what they are worth. Assumes nothing.
use Rattle.decimal.proofs.Numbers.{Passed}
use Rattle.decimal.proofs.read.Given as goal

abbrev pub invariant-loop-b : goal.invariant-loop-b
invariant-loop-b l = Passed l.field l.n l.b-index
