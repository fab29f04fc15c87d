-- `kannala_brandt::rows` meets its contract. Assumes nothing.
use mathlib.Core.Path.{refl}
use lib.Ieee.{of_bits, of_int}
use Rattle.kannala_brandt.specs.KannalaBrandt.{rows}
use Rattle.kannala_brandt.proofs.rows.Goals as goal

pub returns : goal.returns
unfolding rows of_bits of_int
returns c = refl
