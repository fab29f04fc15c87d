-- `observations::seen` meets its contract. Assumes nothing.
use mathlib.Core.Path.{ap, ◌∙◌}
use Rattle.lens.specs.Undistorted.{Undistorted, told}
use Rattle.observations.specs.Observations.{beside, seen}
use Rattle.observations.proofs.seen.Goals as goal

pub returns : goal.returns
unfolding seen
returns c = c.beside.ensures ∙ ap (λ (u : Undistorted). beside c.args.before.pixel (told u)) c.found.ensures
