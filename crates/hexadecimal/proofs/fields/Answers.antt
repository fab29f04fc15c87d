-- `hexadecimal::fields` meets its contract. Assumes nothing.
use Rattle.hexadecimal.proofs.Filling.{none_filled, one_filled, all_filled, all_judged}
use Rattle.hexadecimal.proofs.fields.Goals as goal

pub loop-i-init : goal.loop-i-init
loop-i-init c = none_filled _ _

pub loop-i-preserved : goal.loop-i-preserved
loop-i-preserved c =
    one_filled _ _ _ _ _ _ _ _ c.loop-i.invariant c.loop-i-test.true c.field-read.ensures c.unwrap_or.ensures c.is_some-all.ensures

pub returns-clause-is : goal.returns-clause-is
returns-clause-is c = all_judged _ _ _ _ _ c.loop-i.invariant c.loop-i-test.false

pub returns-clause-puts : goal.returns-clause-puts
returns-clause-puts c = all_filled _ _ _ _ _ c.loop-i.invariant c.loop-i-test.false
