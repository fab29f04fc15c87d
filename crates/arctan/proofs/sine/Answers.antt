-- `arctan::sine` meets its contract: the same operations in the same order. Assumes nothing.
use Rattle.std.proofs.Common.{refl}
use Rattle.arctan.specs.Tangent.{sine}
use Rattle.arctan.proofs.sine.Goals as goal

pub returns : goal.returns
unfolding sine
returns c = refl
