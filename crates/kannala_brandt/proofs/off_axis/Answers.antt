-- `kannala_brandt::off_axis` meets its contract. Assumes nothing.
use mathlib.Core.Path.{refl}
use Rattle.kannala_brandt.specs.KannalaBrandt.{off_axis}
use Rattle.kannala_brandt.proofs.off_axis.Goals as goal

pub returns : goal.returns
unfolding off_axis
returns c = rw (c.two_columns.ensures, c.diagonal-2.ensures, c.diagonal.ensures) refl
