-- `observations::refusal_of` meets its contract. Assumes nothing.
use mathlib.Core.Path.{refl}
use Rattle.observations.specs.Observations.{refusal_of}
use Rattle.observations.proofs.refusal_of.Goals as goal

pub returns-then-zero_focal : goal.returns-then-zero_focal
unfolding refusal_of
returns-then-zero_focal c = rw (← c.finite_parameters.ensures, c.if-finite_parameters.true, ← c.zero_focal.ensures, c.if-zero_focal.true) c.number.ensures

pub returns-else-zero_focal : goal.returns-else-zero_focal
unfolding refusal_of
returns-else-zero_focal c = rw (← c.finite_parameters.ensures, c.if-finite_parameters.true, ← c.zero_focal.ensures, c.if-zero_focal.false) refl

pub returns-else-finite_parameters : goal.returns-else-finite_parameters
unfolding refusal_of
returns-else-finite_parameters c = rw (← c.finite_parameters.ensures, c.if-finite_parameters.false) c.number-else-finite_parameters.ensures
