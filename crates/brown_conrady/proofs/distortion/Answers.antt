-- `brown_conrady::distortion` meets its contract: each call gives its definition's number. Assumes nothing.
use mathlib.Core.Path.{refl}
use lib.Ieee.{of_bits, of_int}
use Rattle.formula.specs.Term.{rounded}
use Rattle.brown_conrady.specs.BrownConrady.{distortion}
use Rattle.brown_conrady.specs.Formula.{parts_at}
use Rattle.brown_conrady.proofs.distortion.Goals as goal

pub returns : goal.returns
unfolding distortion parts_at rounded of_bits of_int
returns c = rw c.parts_at-s.ensures refl
