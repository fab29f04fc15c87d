-- `lens_c::lens_arctangent` meets its contract. Assumes nothing.
use Rattle.lens_c.proofs.lens_arctangent.Goals as goal

pub returns : goal.returns
returns c = c.arctangent.ensures
