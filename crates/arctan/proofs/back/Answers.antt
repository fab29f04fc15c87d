-- `arctan::back` meets its contract. Assumes nothing.
use Rattle.std.proofs.Common.{ap}
use lib.Ieee.{Float}
use Rattle.exact.specs.F64.{◌⊗◌}
use Rattle.arctan.specs.Arctangent.{back, unit}
use Rattle.arctan.proofs.back.Goals as goal

pub returns : goal.returns
unfolding back
returns c = ap (λ (w : Float). w ⊗ unit) c.nearest_u64_to_f64.ensures
