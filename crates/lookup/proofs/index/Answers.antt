-- `lookup::index` meets its contract. Assumes nothing.
use Rattle.std.proofs.Common.{refl}
use Rattle.lookup.specs.Lookup.{index}
use Rattle.lookup.proofs.index.Goals as goal

pub returns : goal.returns
unfolding index
returns c = refl
