-- `brown_conrady::shared_at` meets its contract: each call gives its definition's number. Assumes nothing.
use mathlib.Core.Path.{refl}
use lib.Ieee.{of_bits, of_int}
use Rattle.brown_conrady.specs.BrownConrady.{shared_at}
use Rattle.brown_conrady.proofs.shared_at.Goals as goal

pub returns : goal.returns
unfolding shared_at of_bits of_int
returns c = rw c.squared_radius-c2.ensures refl
