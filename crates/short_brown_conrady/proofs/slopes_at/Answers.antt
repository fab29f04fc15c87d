-- `short_brown_conrady::slopes_at` meets its contract: its numbers are the f64 readings of the terms. Assumes nothing.
use mathlib.Core.Path.{refl}
use lib.Ieee.{of_bits, of_int}
use Rattle.formula.specs.Term.{rounded}
use Rattle.short_brown_conrady.specs.ShortBrownConrady.{slopes_at}
use Rattle.short_brown_conrady.proofs.slopes_at.Goals as goal

pub returns : goal.returns
unfolding slopes_at rounded of_bits of_int
returns c = refl
