-- `job_bytes::check_word` meets its contract. The loop's invariant: so many words are summed. Assumes nothing.
use Rattle.job_bytes.proofs.Summing.{Summed}
use Rattle.job_bytes.proofs.check_word.Given as goal

abbrev pub invariant-loop-i : goal.invariant-loop-i
invariant-loop-i l = Summed l.bytes l.sum l.i
