-- `mending::tell_all` meets its contract. The loop's invariant: what is put of the cells that are left is what is put
-- of all. Assumes nothing.
use native.Mathlib.Omega.{arith}
use Rattle.mending.proofs.Telling.{none_passed, one_passed, all_passed}
use Rattle.mending.proofs.tell_all.Goals as goal

pub loop-k-init : goal.loop-k-init
loop-k-init c = none_passed _ _ _ _ _

pub loop-k-preserved : goal.loop-k-preserved
loop-k-preserved c =
    one_passed _ _ _ _ _ _ _ c.loop-k.invariant c.requires.some (omega (arith, c.loop-k-test.true)) _ _ _
    c.tell-next.ensures
    c.to_bits32-a.ensures
    c.to_bits32-b.ensures
    c.tell-next.auto.out

pub returns : goal.returns
returns c = all_passed _ _ _ _ _ _ _ c.loop-k.invariant (omega (arith, c.loop-k-test.false))
