-- `lookup::cell` meets its contract. Assumes nothing.
use Rattle.lookup.specs.Lookup.{cell}
use Rattle.lookup.proofs.cell.Goals as goal

pub returns : goal.returns
unfolding cell
returns c = c.f32_to_f64_with_nan.ensures
