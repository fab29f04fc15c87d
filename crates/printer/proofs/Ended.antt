-- A table that is begun over two numbers for each cell ends with as many, and its updates have seven digits at most.
-- Assumes nothing.
use mathlib.Core.Path.{◌≡◌, ap, ◌∙◌}
use mathlib.Core.Bool.{false}
use mathlib.Core.List.{List}
use Prim.Native.Nat.{ℕ, ◌*◌, ◌≤◌, ◌<◌, min}
use native.Mathlib.Nat.{mul-le-mul_right, min-le_right}
use native.Mathlib.Omega.{arith}
use lib.Ieee.{Float}
use lib.ListN.{length}
use Rattle.std.proofs.Common.{Result, Ok, Err}
use Rattle.region.specs.Size.{Sized}
use Rattle.camera.specs.Camera.{limit}
use Rattle.camera.specs.declared.Camera.{Camera}
use Rattle.camera.proofs.Laws.{limit_most}
use Rattle.border.specs.Border.{samples}
use Rattle.turns.specs.Turns.{Turn, turn}
use Rattle.plans.specs.Plan.{Plan, State, nowhere, next}
use Rattle.plans.specs.Plan as plan
use Rattle.plans.proofs.Laws.{start_good}
use Rattle.plans.proofs.Reaching.{turn_keeps}
use Rattle.table_plans.specs.Tables.{opens_for, f32s, f32_table}
use Rattle.table_plans.proofs.Sound.{opened, f32_fit, f32_sound}
use Rattle.job.specs.Job.{fresh_job, fresh}
use Rattle.job.specs.declared.Job.{Job}
use Rattle.distortion_table.specs.Answer.{Answer, answer, whole_table, enough}
use Rattle.distortion_table.proofs.Calls.{fresh_opens, answer_is}

module _ (camera : Camera) (width height : ℕ) (job : Job) (begin : fresh camera width height false ≡ Ok job) where
  abbrev pub the_plan : Plan Float
  the_plan = f32_table camera width height false

  opens : opens_for camera width height nowhere ≡ Ok tt
  opens = (fresh_opens camera width height false job begin).0

  pub size : Sized width height
  size = (opened camera width height nowhere opens).size

  few : (updates done : ℕ) → updates ≤ limit camera * min done (samples width height) → updates < 10000000
  few updates done h =
      omega (arith, h, mul-le-mul_right (min done (samples width height)) (limit_most camera), min-le_right done (samples width height), size.not_wider, size.not_higher)

  module _ (start : List Float) (long : length start ≡ 2 * (width * height)) where
    abbrev pub last : Turn (State Float)
    last = turn (next the_plan) enough (plan.fresh start)

    pub built_is : whole_table camera width height start ≡ answer (fresh_job camera width height false) last
    built_is = answer_is camera width height false f32s f32_fit opens start long enough

    pub at_end : (length last.state.cells ≡ 2 * (width * height)) × (last.state.at.updates < 10000000)
    at_end =
        let sound = f32_sound camera width height false in
        let after = turn_keeps the_plan sound enough (plan.fresh start) (start_good the_plan sound opens start long) in
        (after.long, few _ last.state.at.done after.record_of.updates)

    pub built_long : length (whole_table camera width height start).cells ≡ 2 * (width * height)
    built_long = ap (λ (a : Answer Float). length a.cells) built_is ∙ at_end.0
