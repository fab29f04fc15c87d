-- `brown_conrady::small` meets its contract: the call gives its definition's number, and the law says why no root is needed. Assumes nothing.
use mathlib.Core.Path.{sym, ap, ◌∙◌}
use lib.Ieee.{Float, le}
use Rattle.exact.specs.F64.{f64}
use Rattle.brown_conrady.proofs.NoRoot.{last_bits, no_root}
use Rattle.brown_conrady.proofs.small.Goals as goal

pub returns : goal.returns
returns c = ap (λ (q : Float). le q (f64 last_bits)) c.squared_radius.ensures ∙ sym (no_root _ _)
