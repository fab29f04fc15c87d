-- `kannala_brandt::step_from` meets its contract. Assumes nothing.
use mathlib.Core.Path.{refl}
use Rattle.kannala_brandt.specs.KannalaBrandt.{step_from}
use Rattle.kannala_brandt.proofs.step_from.Goals as goal

pub returns : goal.returns
unfolding step_from
returns c = rw (c.d_thd_wtr_th.ensures, c.polynomial.ensures, c.powers-t.ensures) refl
