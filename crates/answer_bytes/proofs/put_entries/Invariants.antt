-- `answer_bytes::put_entries` meets its contract. The measure is how many numbers are left. Assumes nothing.
use Rattle.answer_bytes.proofs.Entries.{Entered}
use Rattle.answer_bytes.proofs.put_entries.Given as goal

abbrev pub invariant-loop-i : goal.invariant-loop-i
invariant-loop-i l = Entered l.initial.answer l.numbers l.answer l.i
