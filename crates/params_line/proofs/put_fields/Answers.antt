-- `params_line::put_fields` meets its contract. The loop's invariant: what is left, put from here on, makes the whole. Assumes nothing.
use Rattle.params_line.proofs.Putting.{none_put, one_put, all_put}
use Rattle.params_line.proofs.put_fields.Goals as goal

pub loop-bits-init : goal.loop-bits-init
loop-bits-init c = none_put _ _ _ c.requires

pub loop-bits-preserved : goal.loop-bits-preserved
loop-bits-preserved c = one_put _ _ _ _ _ _ c.loop-bits.invariant c.loop-bits-test.true _ _ c.put_field-next.auto.out c.put_field-next.ensures

pub returns : goal.returns
returns c = all_put _ _ _ _ _ _ c.loop-bits.invariant _ _ c.loop-bits-test.false c.put.ensures
