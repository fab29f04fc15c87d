-- `kannala_brandt::powers` meets its contract. Assumes nothing.
use mathlib.Core.Path.{refl}
use Rattle.kannala_brandt.specs.KannalaBrandt.{powers}
use Rattle.kannala_brandt.proofs.powers.Goals as goal

pub returns : goal.returns
unfolding powers
returns c = refl
