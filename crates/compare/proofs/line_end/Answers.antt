-- `compare::line_end` meets its contract. Assumes nothing.
use Rattle.compare.proofs.Ahead.{none_passed, one_passed, full, ended, all_passed}
use Rattle.compare.proofs.line_end.Goals as goal

pub loop-i-init : goal.loop-i-init
loop-i-init c = none_passed _ _

pub returns-then-i-room : goal.returns-then-i-room
returns-then-i-room c = full _ _ _ c.loop-i.invariant c.if-i-room.true

pub returns-then-b-eq10 : goal.returns-then-b-eq10
returns-then-b-eq10 c = ended _ _ _ c.loop-i.invariant c.loop-i-test.true c.if-i-room.false c.if-b-eq10.true

pub loop-i-preserved : goal.loop-i-preserved
loop-i-preserved c = one_passed _ _ _ c.loop-i.invariant c.loop-i-test.true c.if-i-room.false c.if-b-eq10.false

pub returns : goal.returns
returns c = all_passed _ _ _ c.loop-i.invariant c.loop-i.auto.i-end c.loop-i-test.false
