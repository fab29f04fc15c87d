-- `arctan::solved` meets its contract: the angle that `lower` is asked for lies between 0 and a quarter of pi (proofs/Solving.antt). Assumes nothing.
use Rattle.std.proofs.Common.{T, sym, ap, ◌∙◌, subst}
use lib.Ieee.{Float}
use Rattle.exact.specs.F64.{◌⊘◌}
use Rattle.arctan.specs.Arctangent.{one}
use Rattle.arctan.proofs.Choice.{so, so_not, solved_first, solved_second}
use Rattle.arctan.proofs.Solving.{acute_low, acute_high}
use Rattle.arctan.proofs.solved.Goals as goal

pub lower-requires : goal.lower-requires
lower-requires c = let s = c in acute_low s.args.theta (subst T (sym s.well_formed.0.1) tt) s.requires (so c.if-theta.true)

pub returns-then-theta : goal.returns-then-theta
returns-then-theta c = c.lower.ensures ∙ solved_first c.args.theta c.if-theta.true

pub lower-requires-2 : goal.lower-requires-2
lower-requires-2 c = let s = c in acute_high s.args.theta (subst T (sym s.well_formed.0.1) tt) s.requires (so_not c.if-theta.false)

pub returns : goal.returns
returns c = ap (λ (t : Float). one ⊘ t) c.lower-2.ensures ∙ solved_second c.args.theta c.if-theta.false
