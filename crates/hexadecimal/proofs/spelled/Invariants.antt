-- `hexadecimal::spelled` meets its contract. The loop's invariant says of the bytes passed what they spell. Assumes nothing.
use Rattle.hexadecimal.proofs.Reading.{Passed}
use Rattle.hexadecimal.proofs.spelled.Given as goal

abbrev pub invariant-loop-b : goal.invariant-loop-b
invariant-loop-b l = Passed l.text l.number l.b-index
