-- `observation_bytes::see_each` meets its contract. Assumes nothing.
use Prim.Native.Nat.{◌-◌}
use native.Mathlib.Omega.{arith}
use Rattle.observation_bytes.proofs.Pass.{none, as_long, next, all}
use Rattle.observation_bytes.proofs.see_each.Goals as goal

pub loop-i-init : goal.loop-i-init
loop-i-init c = none _ _ _ c.requires

pub overflow_mul-i : goal.overflow_mul-i
overflow_mul-i c = omega (arith, c.loop-i.invariant.room, c.loop-i-test.true)

pub see-requires : goal.see-requires
see-requires c = omega (arith, c.loop-i.invariant.room, c.loop-i-test.true, as_long _ _ _ _ _ c.loop-i.invariant)

pub loop-i-preserved : goal.loop-i-preserved
loop-i-preserved c = next _ _ _ _ _ c.loop-i.invariant c.loop-i-test.true _ c.see.ensures

pub shape_of-list : goal.shape_of-list
shape_of-list c = as_long _ _ _ _ _ c.loop-i.invariant

pub returns : goal.returns
returns c = all _ _ _ _ _ c.loop-i.invariant c.loop-i-test.false
