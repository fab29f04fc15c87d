-- `border::widened` meets its contract. Assumes nothing.
use mathlib.Core.Path.{refl}
use Rattle.border.specs.Edges.{widened}
use Rattle.border.proofs.widened.Goals as goal

pub returns : goal.returns
unfolding widened
returns c = rw (c.raised-2.ensures, c.raised.ensures, c.lowered-2.ensures, c.lowered.ensures) refl
