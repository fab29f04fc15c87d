-- `short_brown_conrady::step_from` meets its contract: each call gives its definition's number. Assumes nothing.
use mathlib.Core.Path.{refl}
use Rattle.short_brown_conrady.specs.ShortBrownConrady.{step_from}
use Rattle.short_brown_conrady.proofs.step_from.Goals as goal

pub returns : goal.returns
unfolding step_from
returns c = rw (c.slopes_at-s.ensures, c.f_xy-f.ensures) refl
