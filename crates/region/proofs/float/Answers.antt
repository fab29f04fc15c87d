-- `region::float` meets its contract: an f64 holds every number up to 4,096. Assumes nothing.
use Rattle.std.proofs.Common.{rules}
use Rattle.region.specs.Size.{float}
use Rattle.region.proofs.float.Goals as goal

pub returns-then-n-le-MOST : goal.returns-then-n-le-MOST
unfolding float
returns-then-n-le-MOST c = search rules

pub returns : goal.returns
unfolding float
returns c = c.nearest_u64_to_f64.ensures
