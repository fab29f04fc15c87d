-- `short_brown_conrady::distortion` meets its contract: its numbers are the f64 readings of the terms. Assumes nothing.
use mathlib.Core.Path.{refl}
use lib.Ieee.{of_bits, of_int}
use Rattle.formula.specs.Term.{rounded}
use Rattle.short_brown_conrady.specs.ShortBrownConrady.{distortion}
use Rattle.short_brown_conrady.proofs.distortion.Goals as goal

pub returns : goal.returns
unfolding distortion rounded of_bits of_int
returns c = rw c.squared_radius-r2.ensures refl
