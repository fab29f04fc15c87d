-- `kannala_brandt::alpha_of` meets its contract. Assumes nothing.
use mathlib.Core.Path.{refl}
use Rattle.kannala_brandt.specs.KannalaBrandt.{alpha_of}
use Rattle.kannala_brandt.proofs.alpha_of.Goals as goal

pub returns-then-radius_sq : goal.returns-then-radius_sq
unfolding alpha_of
returns-then-radius_sq c = rw c.if-radius_sq.true refl

pub returns-else-radius_sq : goal.returns-else-radius_sq
unfolding alpha_of
returns-else-radius_sq c = rw c.if-radius_sq.false refl
