-- The record that a build hands from turn to turn: a fresh one, and which records are refused. Definitions only.
use Rattle.std.specs.Prelude.{Bool, ℕ, Result, Ok, Err}
use Rattle.lens.specs.declared.Refusal.{Refusal}
use Rattle.lens.specs.Judgement.{decided}
use Rattle.lens.specs.Refusal.{number}
use Rattle.lens.specs.Judgement.{Judgement}
use Rattle.camera.specs.declared.Camera.{Camera}
use Rattle.plans.specs.Plan.{Sweep, nowhere, begun}
use Rattle.plans.specs.Calls as plan
use Rattle.table_plans.specs.Tables.{opens_for, sweep_of}
use Rattle.job.specs.declared.Job.{Job}

-- ---- a fresh record: zeros but for its camera, its size and the strict mark

abbrev pub fresh_job : Camera → ℕ → ℕ → Bool → Job
fresh_job camera width height strict = record {
  camera = camera;
  width = width;
  height = height;
  strict = strict;
  at = begun;
}

-- 4, 5, 6: by what refuses every record of this camera and size
unfoldable pub fresh : Camera → ℕ → ℕ → Bool → Result Job Refusal
fresh camera width height strict =
    decided (opens_for camera width height nowhere) Err (Ok (fresh_job camera width height strict))

-- what the code's answer says: a record, or a refusal's number
pub data Begun : Type 0 where
  a_job : Job → Begun
  no_job : ℕ → Begun

abbrev pub told_started : Result Job Refusal → Begun
told_started (Ok job) = a_job job
told_started (Err r) = no_job (number r)

-- its number: 0 stands for a record
abbrev pub begun_number : Begun → ℕ
begun_number (a_job job) = 0
begun_number (no_job n) = n

-- ---- which records a turn takes: 4, 5, 6, 7, 13; `places` is the length of the table

abbrev pub sweep_for : Job → Sweep
sweep_for job = sweep_of job.camera job.width job.height job.strict

abbrev pub admitted : Job → ℕ → Judgement
admitted job places = plan.admitted (sweep_for job) job.at places
