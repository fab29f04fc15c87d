-- A run of border units, and what the code's answers say. Definitions only.
use Rattle.std.specs.Prelude.{Bool, cond, ◌&&◌, ℕ, ◌-◌, ◌^◌, min, ltb, Result, Ok, Err}
use Rattle.lens.specs.declared.Refusal.{Refusal}
use Rattle.lens.specs.Refusal.{number}
use Rattle.lens.specs.Judgement.{Judgement}
use Rattle.region.specs.Size.{sized}
use Rattle.camera.specs.declared.Camera.{Camera}
use Rattle.border.specs.Border.{samples}
use Rattle.turns.specs.Turns.{Next, refuses, does, Said, refused, running, Turn, turn, met}
use Rattle.plans.specs.Plan.{Sweep, swept}
use Rattle.plans.specs.declared.Progress.{Progress}
use Rattle.table_plans.specs.Tables.{engine_by, sweep_with, sweep_of}
use Rattle.sweep.specs.declared.Stop.{Stop}

-- a size that is taken, and counts that have room for more; every record that is admitted is so
abbrev pub roomy : ℕ → ℕ → Progress → Bool
roomy width height from = sized width height && (ltb from.updates (2 ^ 31) && ltb from.unsettled (2 ^ 31))

-- the sweep by an engine's mark
abbrev pub by_mark : Camera → Bool → ℕ → ℕ → Bool → Sweep
by_mark camera mark = sweep_with (engine_by mark camera) camera

-- the units of an allowance, as far as the border goes; 13 for a progress that isn't roomy
unfoldable pub run : Camera → ℕ → ℕ → Bool → ℕ → Progress → Turn Progress
run camera width height strict allowance from =
    cond (roomy width height from)
    (met (turn (swept (sweep_of camera width height strict)) (min allowance (samples width height - from.done)) from))
    record { state = from; said = refused 13 }

-- ---- what the code's answers say

abbrev pub told_swept : Result Progress Refusal → Next Progress
told_swept (Ok at) = does at
told_swept (Err r) = refuses (number r)

abbrev pub told_refusal : Judgement → Said
told_refusal (Ok _) = running
told_refusal (Err r) = refused (number r)

abbrev pub told_stop : Stop → Turn Progress
told_stop s = record { state = s.at; said = told_refusal s.refusal }
