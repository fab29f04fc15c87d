-- A run of border units, of a record that a build can have. Assumes nothing.
use mathlib.Core.Path.{◌≡◌, refl}
use mathlib.Core.Bool.{Bool, true}
use Prim.Native.Nat.{ℕ, ◌-◌, ◌^◌, ◌<◌, min}
use borrow.Author.Tests.{lt-ltb}
use Rattle.region.specs.Size.{sized}
use Rattle.camera.specs.declared.Camera.{Camera}
use Rattle.border.specs.Border.{samples}
use Rattle.turns.specs.Turns.{turn, met}
use Rattle.plans.specs.Plan.{swept}
use Rattle.plans.specs.declared.Progress.{Progress}
use Rattle.table_plans.specs.Tables.{sweep_of}
use Rattle.sweep.specs.Sweep.{run}

-- With a size that is taken, and fewer than 2^31 updates and unsettled samples, a run does the border units of its allowance, as
-- far as the border goes.
pub run_is :
    (camera : Camera) (width height : ℕ) (strict : Bool) (allowance : ℕ) (from : Progress)
    → sized width height ≡ true → from.updates < 2 ^ 31 → from.unsettled < 2 ^ 31
    → run camera width height strict allowance from
    ≡ met (turn (swept (sweep_of camera width height strict)) (min allowance (samples width height - from.done)) from)
unfolding run
run_is camera width height strict allowance from s u n = rw (s, lt-ltb from.updates (2 ^ 31) u, lt-ltb from.unsettled (2 ^ 31) n) refl
