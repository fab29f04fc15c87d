-- What a caller holds from call to call, the record and the table, and what a build owes of them. Definitions only.
use Rattle.std.specs.Prelude.{◌≡◌, Bool, List, ℕ}
use Rattle.camera.specs.declared.Camera.{Camera}
use Rattle.plans.specs.Plan.{Plan, State}
use Rattle.alike_plans.specs.AlikePlans.{BuiltAlike}
use Rattle.table_plans.specs.Tables.{Kind, full_table}
use Rattle.job.specs.declared.Job.{Job}
use Rattle.distortion_table.specs.Answer.{Answer, plan_of, state_of}

pub record Held (X : Type 0) : Type 0 where
  pub job : Job
  pub cells : List X

-- what an answer hands back
abbrev pub handed_back : {X : Type 0} → Answer X → Held X
handed_back answer = record { job = answer.job; cells = answer.cells }

-- the plan of its table, and the state of the build
abbrev pub held_plan : {X : Type 0} → Kind X → Held X → Plan X
held_plan kind held = plan_of kind held.job

abbrev pub held_state : {X : Type 0} → Held X → State X
held_state held = state_of held.job held.cells

-- ---- what a build owes: camera, size and mark are kept, and the rest as the full engine's plan of their table has it,
-- but that the sign of a zero may differ among the edges that the record keeps

pub record BuiltJob
    {X : Type 0} (kind : Kind X) (camera : Camera) (width height : ℕ) (strict : Bool)
    (table : List X) (A : ℕ) (last : Held X)
    : Type 0 where
  pub same_camera : last.job.camera ≡ camera
  pub same_width : last.job.width ≡ width
  pub same_height : last.job.height ≡ height
  pub same_strict : last.job.strict ≡ strict
  pub built : BuiltAlike (full_table kind camera width height strict) table A (held_state last)
