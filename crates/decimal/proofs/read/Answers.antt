-- `decimal::read` meets its contract. Assumes nothing.
use mathlib.Core.Bool.{not}
use mathlib.Core.Path.{ap}
use Rattle.decimal.proofs.Numbers.{no_digit, one_passed, all_passed}
use Rattle.decimal.proofs.read.Goals as goal

pub returns-then-not-digit : goal.returns-then-not-digit
returns-then-not-digit c = no_digit _ _ _ c.loop-b.invariant c.loop-b-test.true _ c.digit.ensures (ap not c.if-not-digit.true)

pub loop-b-preserved : goal.loop-b-preserved
loop-b-preserved c = rw c.from.ensures (one_passed _ _ _ c.loop-b.invariant c.loop-b-test.true _ c.digit.ensures (ap not c.if-not-digit.false))

pub returns : goal.returns
returns c = all_passed _ _ _ c.loop-b.invariant c.loop-b-test.false
