-- `thin_prism::prism_slopes_at` meets its contract: each call gives its definition's number. Assumes nothing.
use mathlib.Core.Path.{refl}
use lib.Ieee.{of_bits, of_int}
use Rattle.thin_prism.specs.ThinPrism.{prism_slopes_at}
use Rattle.thin_prism.proofs.prism_slopes_at.Goals as goal

pub returns : goal.returns
unfolding prism_slopes_at of_bits of_int
returns c = rw c.squared_radius-r2.ensures refl
