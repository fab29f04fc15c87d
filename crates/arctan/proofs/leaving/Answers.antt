-- `arctan::leaving` meets its contract. Assumes nothing.
use Rattle.arctan.specs.Tangent.{leaving}
use Rattle.arctan.proofs.leaving.Goals as goal

pub returns : goal.returns
unfolding leaving
returns c = c.ratio.ensures
