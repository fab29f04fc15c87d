-- `lens_c::lens_root` meets its contract. Assumes nothing.
use Rattle.lens_c.proofs.lens_root.Goals as goal

pub returns : goal.returns
returns c = c.root.ensures
