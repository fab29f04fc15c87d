-- `lookup::blended` meets its contract. Assumes nothing.
use Rattle.std.proofs.Common.{refl}
use Rattle.lookup.specs.Lookup.{blended}
use Rattle.lookup.proofs.blended.Goals as goal

pub returns : goal.returns
unfolding blended
returns c = rw (c.between-3.ensures, c.between-2.ensures, c.between.ensures) refl
