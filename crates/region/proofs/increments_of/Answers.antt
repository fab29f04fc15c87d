-- `region::increments_of` meets its contract. Assumes nothing.
use Rattle.std.proofs.Common.{refl}
use Rattle.region.specs.Region.{increments}
use Rattle.region.proofs.increments_of.Goals as goal

pub returns : goal.returns
unfolding increments
returns c = rw (c.float-2.ensures, c.steps-2.ensures, c.float.ensures, c.steps.ensures) refl
