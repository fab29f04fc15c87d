-- `kannala_brandt::pass` meets its contract. Assumes nothing.
use mathlib.Core.Path.{refl}
use Rattle.kannala_brandt.specs.KannalaBrandt.{pass}
use Rattle.kannala_brandt.proofs.pass.Goals as goal

pub returns : goal.returns
unfolding pass
returns c = rw (c.magnitude.ensures, c.step_from-step.ensures) refl
