-- `thin_prism::distortion` meets its contract: each call gives its definition's number. Assumes nothing.
use mathlib.Core.Path.{refl}
use lib.Ieee.{of_bits, of_int}
use Rattle.thin_prism.specs.ThinPrism.{distortion}
use Rattle.thin_prism.proofs.distortion.Goals as goal

pub returns : goal.returns
unfolding distortion of_bits of_int
returns c = rw (c.distortion-d.ensures, c.squared_radius-r2.ensures) refl
