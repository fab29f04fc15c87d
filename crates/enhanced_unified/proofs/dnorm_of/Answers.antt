-- `enhanced_unified::dnorm_of` meets its contract. Assumes nothing.
use mathlib.Core.Path.{refl}
use lib.Ieee.{of_bits, of_int}
use Rattle.enhanced_unified.proofs.dnorm_of.Goals as goal

pub returns : goal.returns
unfolding of_bits of_int
returns c = refl
