-- `brown_conrady::parts_at` meets its contract: its numbers are the f64 readings of the terms. Assumes nothing.
use mathlib.Core.Path.{refl}
use lib.Ieee.{of_bits, of_int}
use Rattle.formula.specs.Term.{rounded}
use Rattle.brown_conrady.specs.Formula.{parts_at}
use Rattle.brown_conrady.proofs.parts_at.Goals as goal

pub returns : goal.returns
unfolding parts_at rounded of_bits of_int
returns c = rw c.squared_radius-r2.ensures refl
