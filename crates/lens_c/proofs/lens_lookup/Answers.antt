-- `lens_c::lens_lookup` meets its contract. Assumes nothing.
use Rattle.lens_c.proofs.lens_lookup.Goals as goal

pub returns : goal.returns
returns c = c.lookup.ensures
