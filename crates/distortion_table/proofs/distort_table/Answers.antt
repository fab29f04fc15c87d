-- `distortion_table::distort_table` meets its contract. Assumes nothing.
use mathlib.Core.Path.{ap, ◌∙◌}
use Rattle.table_plans.specs.Tables.{f32s}
use Rattle.job.specs.declared.Job.{Job}
use Rattle.distortion_table.specs.Answer.{turn_of, enough}
use Rattle.distortion_table.proofs.distort_table.Goals as goal

pub returns : goal.returns
returns c = c.turn.ensures ∙ ap (λ (job : Job). turn_of f32s job c.args.table.now enough) c.begun.ensures
