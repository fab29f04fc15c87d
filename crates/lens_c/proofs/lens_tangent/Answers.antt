-- `lens_c::lens_tangent` meets its contract. Assumes nothing.
use Rattle.lens_c.proofs.lens_tangent.Goals as goal

pub returns : goal.returns
returns c = c.tangent.ensures
