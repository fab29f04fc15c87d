-- `lookup::between` meets its contract. Assumes nothing.
use Rattle.std.proofs.Common.{refl}
use Rattle.lookup.specs.Lookup.{between}
use Rattle.lookup.proofs.between.Goals as goal

pub returns : goal.returns
unfolding between
returns c = refl
