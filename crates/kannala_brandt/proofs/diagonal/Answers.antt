-- `kannala_brandt::diagonal` meets its contract. Assumes nothing.
use mathlib.Core.Path.{refl}
use Rattle.kannala_brandt.specs.KannalaBrandt.{diagonal}
use Rattle.kannala_brandt.proofs.diagonal.Goals as goal

pub returns : goal.returns
unfolding diagonal
returns c = refl
