-- `lens_c::lens_dx_distort_x` meets its contract. Assumes nothing.
use Rattle.lens_c.proofs.lens_dx_distort_x.Goals as goal

pub returns : goal.returns
returns c = c.dx_distort_x.ensures
