-- `arctan::solution` meets its contract. Assumes nothing.
use Rattle.std.proofs.Common.{rules}
use Rattle.arctan.specs.Tangent.{solution}
use Rattle.arctan.proofs.solution.Goals as goal

pub returns : goal.returns
unfolding solution
returns c = search rules
