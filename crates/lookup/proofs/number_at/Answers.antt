-- `lookup::number_at` meets its contract. Assumes nothing.
use Rattle.std.proofs.Common.{refl}
use Rattle.lookup.specs.Lookup.{number_at}
use Rattle.lookup.proofs.number_at.Goals as goal

pub returns : goal.returns
unfolding number_at
returns c = rw (c.blended.ensures, c.cell-4.ensures, c.cell-3.ensures, c.cell-2.ensures, c.cell.ensures) refl
