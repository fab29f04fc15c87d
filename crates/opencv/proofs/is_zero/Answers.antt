-- `opencv::is_zero` meets its contract. Assumes nothing.
use mathlib.Core.Path.{ap, ◌∙◌}
use Rattle.exact.specs.F64.{is_zero}
use Rattle.opencv.proofs.is_zero.Goals as goal

pub returns : goal.returns
returns c = c.is_zero.ensures ∙ ap is_zero c.of_bits.ensures
