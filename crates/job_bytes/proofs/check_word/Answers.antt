-- `job_bytes::check_word` meets its contract. The loop's invariant: so many words are summed. Assumes nothing.
use Rattle.std.proofs.Common.{arith, refl}
use Rattle.job_bytes.proofs.Summing.{no_word, next_word, every_word}
use Rattle.job_bytes.proofs.check_word.Goals as goal

pub loop-i-init : goal.loop-i-init
loop-i-init c = no_word _

pub loop-i-preserved : goal.loop-i-preserved
loop-i-preserved c = next_word _ _ _ _ _ c.loop-i.invariant (omega (arith, c.loop-i-test.true)) c.word-sum.ensures refl

pub returns : goal.returns
returns c = every_word _ _ _ c.loop-i.invariant (omega (arith, c.loop-i-test.false))
