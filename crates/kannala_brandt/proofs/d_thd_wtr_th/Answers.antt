-- `kannala_brandt::d_thd_wtr_th` meets its contract. Assumes nothing.
use mathlib.Core.Path.{refl}
use lib.Ieee.{of_bits, of_int}
use Rattle.kannala_brandt.specs.KannalaBrandt.{d_thd_wtr_th}
use Rattle.kannala_brandt.proofs.d_thd_wtr_th.Goals as goal

pub returns : goal.returns
unfolding d_thd_wtr_th of_bits of_int
returns c = refl
