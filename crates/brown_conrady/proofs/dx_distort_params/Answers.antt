-- `brown_conrady::dx_distort_params` meets its contract: its numbers are the f64 readings of the terms. Assumes nothing.
use mathlib.Core.Path.{refl}
use lib.Ieee.{of_bits, of_int}
use Rattle.formula.specs.Term.{rounded}
use Rattle.brown_conrady.specs.BrownConrady.{distortion}
use Rattle.brown_conrady.specs.Formula.{parts_at, dx_distort_params}
use Rattle.brown_conrady.proofs.dx_distort_params.Goals as goal

pub returns : goal.returns
unfolding parts_at distortion dx_distort_params rounded of_bits of_int
returns c = rw (c.parts_at-s.ensures, c.distortion-d.ensures) refl
