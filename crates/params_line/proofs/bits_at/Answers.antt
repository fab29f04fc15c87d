-- `params_line::bits_at` meets its contract. Assumes nothing.
use native.Mathlib.Omega.{arith}
use Rattle.params_line.proofs.Params.{param_past}
use Rattle.params_line.proofs.bits_at.Goals as goal

pub returns-then-k-many : goal.returns-then-k-many
returns-then-k-many c = c.field_at.ensures

pub returns-else-k-many : goal.returns-else-k-many
returns-else-k-many c = param_past _ _ (omega (arith, c.many.ensures, c.if-k-many.false))
