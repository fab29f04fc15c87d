-- `thin_prism::dx_distort_params` meets its contract: its numbers are the f64 readings of the terms, bc's among them. Assumes nothing.
use mathlib.Core.Path.{refl}
use lib.Ieee.{of_bits, of_int}
use Rattle.formula.specs.Term.{rounded}
use Rattle.brown_conrady.specs.BrownConrady as bc
use Rattle.brown_conrady.specs.Formula as bc-formula
use Rattle.thin_prism.specs.ThinPrism.{distortion, dx_distort_params}
use Rattle.thin_prism.proofs.dx_distort_params.Goals as goal

pub returns : goal.returns
unfolding dx_distort_params bc-formula.dx_distort_params distortion bc.distortion rounded of_bits of_int
returns c = rw (c.dx_distort_params.ensures, c.distortion-d.ensures, c.squared_radius-r2.ensures) refl
