-- `mending::feed` meets its contract. The loop's invariant: with the bytes that are left, what comes out is what the whole
-- piece gives. Assumes nothing.
use Rattle.mending.proofs.Passing.{none_passed, one_passed, all_passed}
use Rattle.mending.proofs.feed.Goals as goal

pub loop-b-init : goal.loop-b-init
loop-b-init c = none_passed _ _ _ _

pub loop-b-preserved : goal.loop-b-preserved
loop-b-preserved c =
    one_passed _ _ _ _ _ _ c.loop-b.invariant c.loop-b-test.true _ c.feed_byte-held.ensures c.feed_byte-held.auto.map c.feed_byte-held.auto.line

pub returns : goal.returns
returns c = all_passed _ _ _ _ _ _ c.loop-b.invariant c.loop-b-test.false
