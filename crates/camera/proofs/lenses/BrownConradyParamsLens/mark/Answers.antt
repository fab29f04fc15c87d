-- The `mark` of `BrownConradyParams` meets its contract. Assumes nothing.
use mathlib.Core.Path.{ap, ◌∙◌}
use Rattle.exact.specs.F64.{mark}
use Rattle.camera.proofs.Given.{behind}
use Rattle.camera.proofs.lenses.BrownConradyParamsLens.mark.Goals as goal

pub returns : goal.returns
returns c = c.marks.ensures ∙ ap mark (behind _ _ _)
