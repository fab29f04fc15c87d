-- `brown_conrady::slopes_at` meets its contract: each call gives its definition's number. Assumes nothing.
use mathlib.Core.Path.{refl}
use lib.Ieee.{of_bits, of_int}
use Rattle.brown_conrady.specs.BrownConrady.{slopes_at}
use Rattle.brown_conrady.proofs.slopes_at.Goals as goal

pub returns : goal.returns
unfolding slopes_at of_bits of_int
returns c = rw c.shared_at-s.ensures refl
