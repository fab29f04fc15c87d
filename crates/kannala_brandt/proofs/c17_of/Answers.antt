-- `kannala_brandt::c17_of` meets its contract. Assumes nothing.
use mathlib.Core.Path.{refl}
use lib.Ieee.{of_bits, of_int}
use Rattle.kannala_brandt.specs.KannalaBrandt.{c17_of}
use Rattle.kannala_brandt.proofs.c17_of.Goals as goal

pub returns : goal.returns
unfolding c17_of of_bits of_int
returns c = refl
