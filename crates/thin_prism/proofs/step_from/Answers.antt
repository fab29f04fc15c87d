-- `thin_prism::step_from` meets its contract: each call gives its definition's number. Assumes nothing.
use mathlib.Core.Path.{refl}
use Rattle.thin_prism.specs.ThinPrism.{step_from}
use Rattle.thin_prism.proofs.step_from.Goals as goal

pub returns : goal.returns
unfolding step_from
returns c = rw (c.solve.ensures, c.prism_slopes_at-t.ensures, c.slopes_at-s.ensures, c.f_xy-f.ensures) refl
