-- `arctan::nested` meets its contract: past the last coefficient the sum is 0. Assumes nothing.
use Rattle.std.proofs.Common.{refl, lit≤}
use Rattle.arctan.specs.Whole.{nested, reciprocals}
use Rattle.arctan.proofs.nested.Goals as goal

pub levels-h-requires : goal.levels-h-requires
unfolding nested reciprocals
levels-h-requires c = (c.requires, lit≤ tt, lit≤ tt, refl)

pub levels-requires : goal.levels-requires
levels-requires c = (c.requires, lit≤ tt, lit≤ tt, c.levels-h.ensures)

pub returns : goal.returns
returns c = c.levels.ensures
