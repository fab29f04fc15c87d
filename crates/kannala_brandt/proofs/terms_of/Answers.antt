-- `kannala_brandt::terms_of` meets its contract. Assumes nothing.
use mathlib.Core.Path.{refl}
use Rattle.kannala_brandt.specs.KannalaBrandt.{terms_of}
use Rattle.kannala_brandt.proofs.terms_of.Goals as goal

pub returns : goal.returns
unfolding terms_of
returns c = refl
