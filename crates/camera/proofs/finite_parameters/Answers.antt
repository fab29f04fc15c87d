-- `camera::finite_parameters` meets its contract. Assumes nothing.
use mathlib.Core.Path.{ap, ◌∙◌}
use lib.Ieee.{Float, eq}
use Rattle.exact.proofs.Marks.{mark_itself}
use Rattle.camera.proofs.Given.{zeros_given}
use Rattle.camera.proofs.finite_parameters.Goals as goal

pub returns : goal.returns
returns c = ap (λ (d : Float). eq d d) c.mark_of-sum.ensures ∙ mark_itself _ ∙ zeros_given _
