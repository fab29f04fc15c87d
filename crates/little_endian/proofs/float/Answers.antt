-- `little_endian::float` meets its contract. Assumes nothing.
use mathlib.Core.Path.{ap, ◌∙◌}
use Rattle.exact.specs.F64.{f64}
use Rattle.little_endian.proofs.float.Goals as goal

pub returns : goal.returns
returns c = c.of_bits.ensures ∙ ap f64 c.word.ensures
