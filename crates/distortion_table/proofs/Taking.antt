-- What the code may rely on in a record that is admitted: a size that is taken, and room for every count. Assumes nothing.
use mathlib.Core.Path.{◌≡◌}
use Rattle.std.specs.declared.result.Result.TheVariants.{Ok}
use mathlib.Core.Bool.{true}
use Prim.Native.Nat.{ℕ, ◌*◌, ◌^◌, ◌≤◌, ◌<◌, min}
use native.Mathlib.Nat.{le_trans, mul-le-mul, min-le_right}
use native.Mathlib.Omega.{arith}
use Rattle.region.specs.Size.{sized, Sized}
use Rattle.camera.specs.Camera.{limit}
use Rattle.camera.proofs.Laws.{limit_most}
use Rattle.border.specs.Border.{samples, all_units}
use Rattle.plans.proofs.Reaching.{is_admitted}
use Rattle.table_plans.proofs.Sound.{opened}
use Rattle.job.specs.Job.{sweep_for, admitted}
use Rattle.job.specs.declared.Job.{Job}

pub record Taking (job : Job) (places : ℕ) : Type 0 where
  pub taken_size : sized job.width job.height ≡ true
  pub size : Sized job.width job.height
  pub long : places ≡ 2 * (job.width * job.height)
  pub not_past : job.at.done ≤ all_units job.width job.height
  pub few : job.at.updates < 2 ^ 31
  pub few_unsettled : job.at.unsettled < 2 ^ 31

pub taking : (job : Job) (places : ℕ) → admitted job places ≡ Ok tt → Taking job places
taking job places h =
    let k = is_admitted (sweep_for job) job.at places h in
    let o = opened job.camera job.width job.height job.at.region k.opens in
    let size = o.size in
    let most : min job.at.done (samples job.width job.height) ≤ 16384 = le_trans (min-le_right job.at.done (samples job.width job.height)) (omega (arith, size.not_wider, size.not_higher)) in
    record { taken_size = o.taken_size; size = size; long = k.long; not_past = k.record_of.not_past; few = omega (arith, le_trans k.record_of.updates (mul-le-mul {n₂ = 50} {m₂ = 16384} (limit_most job.camera) most)); few_unsettled = omega (arith, k.record_of.tallies.count, most) }
