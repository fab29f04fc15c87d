-- `opencv::is_finite` meets its contract. Assumes nothing.
use mathlib.Core.Path.{ap, ◌∙◌}
use lib.Ieee.Scale.{finite}
use Rattle.opencv.proofs.is_finite.Goals as goal

pub returns : goal.returns
returns c = c.is_finite.ensures ∙ ap finite c.of_bits.ensures
