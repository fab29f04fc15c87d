-- `lens_c::lens_observe` meets its contract. Assumes nothing.
use Rattle.lens_c.proofs.lens_observe.Goals as goal

pub returns : goal.returns
returns c = c.observe.ensures
