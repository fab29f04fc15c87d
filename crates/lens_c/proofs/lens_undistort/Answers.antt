-- `lens_c::lens_undistort` meets its contract. Assumes nothing.
use Rattle.lens_c.proofs.lens_undistort.Goals as goal

pub returns : goal.returns
returns c = c.undistort.ensures
