-- `border::doubled` meets its contract. Assumes nothing.
use mathlib.Core.Path.{refl}
use Rattle.border.specs.Edges.{doubled}
use Rattle.border.proofs.doubled.Goals as goal

pub returns : goal.returns
unfolding doubled
returns c = refl
