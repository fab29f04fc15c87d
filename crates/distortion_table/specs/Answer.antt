-- What a turn answers: what it says, the record, and the table, as the plan of the record's table has it. Definitions
-- only.
use Rattle.std.specs.Prelude.{false, List, ℕ, Float}
use Rattle.lens.specs.Refusal.{number}
use Rattle.region.specs.Size.{most}
use Rattle.camera.specs.declared.Camera.{Camera}
use Rattle.border.specs.Border.{all_units}
use Rattle.turns.specs.Turns.{Said, finished, refused, running, Turn}
use Rattle.plans.specs.Plan.{Plan, State}
use Rattle.plans.specs.Calls as plan
use Rattle.table_plans.specs.Tables.{Kind, f32s, table_of}
use Rattle.job.specs.Job.{fresh_job}
use Rattle.job.specs.declared.Job.{Job}
use Rattle.distortion_table.specs.declared.Status.{Status}
use Rattle.distortion_table.specs.declared.Status.TheVariants as status
use Rattle.distortion_table.specs.declared.Turned.{Turned}

-- the plan of a record's table, of some kind of cell, and the state of its build
abbrev pub plan_of : {X : Type 0} → Kind X → Job → Plan X
plan_of kind job = table_of kind job.camera job.width job.height job.strict

abbrev pub state_of : {X : Type 0} → Job → List X → State X
state_of job cells = record { at = job.at; cells = cells }

-- ---- a call

pub record Answer (X : Type 0) : Type 0 where
  pub said : Said
  pub job : Job
  pub cells : List X

-- the record keeps its camera, its size and its mark
abbrev pub answer : {X : Type 0} → Job → Turn (State X) → Answer X
answer job t = record {
  said = t.said;
  job = record {
    camera = job.camera;
    width = job.width;
    height = job.height;
    strict = job.strict;
    at = t.state.at;
  };
  cells = t.state.cells;
}

abbrev pub turn_of : {X : Type 0} → Kind X → Job → List X → ℕ → Answer X
turn_of kind job cells allowance = answer job (plan.turn_of (plan_of kind job) allowance (state_of job cells))

-- what the code's answer says
abbrev pub told_status : Status → Said
told_status status.Finished = finished
told_status (status.Refused r) = refused (number r)
told_status status.Running = running

abbrev pub told_turned : {X : Type 0} → Turned → List X → Answer X
told_turned t cells = record { said = told_status t.status; job = t.job; cells = cells }

-- ---- the whole table at once: a turn that may do as many units as the largest table has, and isn't strict

abbrev pub enough : ℕ
enough = all_units most most

abbrev pub whole_table : Camera → ℕ → ℕ → List Float → Answer Float
whole_table camera width height cells = turn_of f32s (fresh_job camera width height false) cells enough
