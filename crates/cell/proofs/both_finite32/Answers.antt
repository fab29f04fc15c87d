-- `cell::both_finite32` meets its contract. Assumes nothing.
use Rattle.cell.proofs.Finite.{both_marked}
use Rattle.cell.proofs.both_finite32.Goals as goal

pub returns : goal.returns
returns c = both_marked _ _
