-- `kannala_brandt::c13_of` meets its contract. Assumes nothing.
use mathlib.Core.Path.{refl}
use Rattle.kannala_brandt.specs.KannalaBrandt.{c13_of}
use Rattle.kannala_brandt.proofs.c13_of.Goals as goal

pub returns : goal.returns
unfolding c13_of
returns c = refl
