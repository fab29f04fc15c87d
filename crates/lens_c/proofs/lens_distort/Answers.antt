-- `lens_c::lens_distort` meets its contract. Assumes nothing.
use Rattle.lens_c.proofs.lens_distort.Goals as goal

pub returns : goal.returns
returns c = c.distort.ensures
