-- `little_endian::write` meets its contract. Assumes nothing.
use Rattle.little_endian.proofs.Writing.{no_byte, next_byte, every_byte}
use Rattle.little_endian.proofs.write.Goals as goal

pub loop-place-init : goal.loop-place-init
loop-place-init c = no_byte _ _

pub loop-place-preserved : goal.loop-place-preserved
loop-place-preserved c = next_byte _ _ _ _ _ c.loop-place.invariant c.loop-place-test.true

pub returns : goal.returns
returns c = every_byte _ _ _ _ _ c.loop-place.invariant c.loop-place-test.false
