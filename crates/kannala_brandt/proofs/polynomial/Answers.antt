-- `kannala_brandt::polynomial` meets its contract. Assumes nothing.
use mathlib.Core.Path.{refl}
use Rattle.kannala_brandt.specs.KannalaBrandt.{polynomial}
use Rattle.kannala_brandt.proofs.polynomial.Goals as goal

pub returns : goal.returns
unfolding polynomial
returns c = refl
