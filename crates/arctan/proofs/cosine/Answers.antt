-- `arctan::cosine` meets its contract: the same operations in the same order. Assumes nothing.
use Rattle.std.proofs.Common.{refl}
use Rattle.arctan.specs.Tangent.{cosine}
use Rattle.arctan.proofs.cosine.Goals as goal

pub returns : goal.returns
unfolding cosine
returns c = refl
