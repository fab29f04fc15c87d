-- `answer_bytes::put_entries` meets its contract. The measure is how many numbers are left. Assumes nothing.
use Prim.Native.Nat.{◌-◌}
use native.Mathlib.Omega.{arith}
use lib.Ieee.{nan}
use Rattle.answer_bytes.proofs.Entries.{entry_number, none_entered, next_entered, all_entered}
use Rattle.answer_bytes.proofs.put_entries.Goals as goal

pub loop-i-init : goal.loop-i-init
loop-i-init c = none_entered _ _ c.requires

pub float_to_bits-numbers : goal.float_to_bits-numbers
float_to_bits-numbers c = entry_number _ _ nan c.loop-i.invariant.sound (omega (arith, c.loop-i-test.true, c.loop-i.invariant.count))

pub loop-i-preserved : goal.loop-i-preserved
loop-i-preserved c = next_entered _ _ _ _ nan _ c.loop-i.invariant c.loop-i-test.true c.put.ensures

pub shape_of-answer : goal.shape_of-answer
shape_of-answer c = c.loop-i.invariant.so_far.long

pub returns : goal.returns
returns c = all_entered _ _ _ _ c.loop-i.invariant c.loop-i-test.false
