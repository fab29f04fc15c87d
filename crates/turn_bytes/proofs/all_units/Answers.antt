-- `turn_bytes::all_units` meets its contract. Assumes nothing.
use native.Mathlib.Omega.{arith}
use Rattle.region.proofs.Size.{bounded}
use Rattle.turn_bytes.proofs.all_units.Goals as goal

pub overflow_mul-result : goal.overflow_mul-result
overflow_mul-result c = omega (arith, bounded _ _ c.requires)

pub overflow_add-result : goal.overflow_add-result
overflow_add-result c = omega (arith, c.samples.ensures, bounded _ _ c.requires)
