-- `params_line::at` meets its contract. Assumes nothing.
use mathlib.Core.Path.{ap, ◌∙◌}
use Rattle.exact.specs.F64.{f64}
use Rattle.params_line.proofs.at.Goals as goal

pub returns : goal.returns
returns c = c.of_bits.ensures ∙ ap f64 c.bits_at.ensures
