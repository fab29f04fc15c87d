-- `lens_c::lens_turn16` meets its contract. Assumes nothing.
use Rattle.lens_c.proofs.lens_turn16.Goals as goal

pub returns : goal.returns
returns c = c.turn.ensures
