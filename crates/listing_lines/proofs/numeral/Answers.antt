-- `listing_lines::numeral` meets its contract. Assumes nothing.
use Rattle.listing_lines.proofs.Passing.{none_passed, one_passed, all_passed}
use Rattle.listing_lines.proofs.numeral.Goals as goal

pub loop-b-init : goal.loop-b-init
loop-b-init c = none_passed _ _ _

pub loop-b-preserved : goal.loop-b-preserved
loop-b-preserved c =
    one_passed _ _ _ _ _ _ _ _
    c.loop-b.invariant
    c.loop-b-test.true
    c.number_after-n.ensures
    c.left_after-left.ensures

pub returns : goal.returns
returns c = all_passed _ _ _ _ _ _ c.loop-b.invariant c.loop-b-test.false
