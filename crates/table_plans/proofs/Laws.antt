-- What a caller may rely on, of the plans of our tables. Assumes nothing.
use mathlib.Core.Path.{◌≡◌, refl, ap}
use mathlib.Core.Bool.{Bool, true, false}
use mathlib.Core.List.{List}
use Prim.Native.Nat.{ℕ, ◌+◌, ◌*◌, ◌≤◌}
use native.Mathlib.Nat.{le_trans, le_refl, mul-le-mul, min-le_right}
use Rattle.region.specs.Region.{increments}
use Rattle.region.specs.Size.{sized}
use Rattle.region.specs.declared.Region.{Region}
use Rattle.region.proofs.Size.{is_sized}
use Rattle.camera.specs.Camera.{limit}
use Rattle.camera.specs.declared.Camera.{Camera}
use Rattle.engine.specs.Engine.{short_for}
use Rattle.border.specs.Border.{samples}
use Rattle.plans.specs.Built.{doable, says_at, Built}
use Rattle.plans.specs.Calls.{possible, admitted, judged}
use Rattle.plans.specs.Plan.{Plan, State}
use Rattle.plans.specs.Thinned.{SameTable}
use Rattle.plans.proofs.Laws.{built_limit}
use Rattle.alike_plans.specs.AlikePlans.{BuiltAlike}
use Rattle.alike_plans.proofs.Laws.{table_same, says_same}
use Rattle.table_plans.specs.Tables.{full, engine_by, picked, sweep_with, table_by, Kind, full_table, table_of, table_before}
use Rattle.table_plans.proofs.Corners.{once_as_twice}
use Rattle.table_plans.proofs.Picked.{points_alike, cells_same}
use Rattle.table_plans.proofs.Sound.{full_sure, Fit, kind_sound}

module _ {X : Type 0} (kind : Kind X) (fit : Fit kind) (camera : Camera) (width height : ℕ) (strict : Bool) where
  -- P11, corners once. For every camera and every size that is taken, strict or not, f32s or sixteen-bit cells: wherever the sweep
  -- with each corner twice is finished, so is the one with each corner once, with the same region and the same cells, bit for bit;
  -- and wherever the one is refused, at a sample or a cell or at the increments, the other is refused with the same number.
  pub corners_once :
      sized width height ≡ true → SameTable (table_before kind camera width height strict) (full_table kind camera width height strict)
  corners_once size =
      once_as_twice camera (full camera) width height strict kind (full_sure camera) fit (is_sized width height size)

  -- The updates of a sweep are at most the model's limit times 2w + 2h.
  pub updates_once :
      (table : List X) (A : ℕ) (s : State X)
      → Built (table_of kind camera width height strict) table A s → s.at.updates ≤ limit camera * (2 * width + 2 * height)
  updates_once table A s b =
      le_trans (built_limit (table_of kind camera width height strict) table A s b (kind_sound camera width height kind fit strict))
      (mul-le-mul (le_refl (limit camera)) (min-le_right s.at.done (samples width height)))

-- P14, the short path. A table as it is built, by what is picked for its camera, beside the table as it is said, by the full engine.
module _ {X : Type 0} (kind : Kind X) (camera : Camera) (width height : ℕ) (strict : Bool) where
  abbrev said : Plan X
  said = full_table kind camera width height strict

  abbrev made : Plan X
  made = table_of kind camera width height strict

  cells_so : (region : Region) (u v : ℕ) → made.cell region u v ≡ said.cell region u v
  cells_so region u v = cells_same kind.holds camera region (increments region width height) u v

  -- What a build owes by the one it owes by the other, bit by bit, finished or not: as many units, the region, every cell, the
  -- updates and the tallies; the sign of a zero may differ in an edge that the record keeps, and nowhere else.
  pub built_full : (table : List X) (A : ℕ) (s : State X) → Built made table A s → BuiltAlike said table A s
  built_full = table_same said (picked camera).undistort made.cell (points_alike camera) cells_so

  -- For any other camera than a bc whose k4, k5 and k6 are zeros the two plans are one.
  pub own_plan : short_for camera ≡ false → made ≡ said
  own_plan e =
      ap
      (λ (mark : Bool). table_by (sweep_with (engine_by mark camera) camera width height strict) (engine_by mark camera) kind.holds)
      e

  -- Both can do as many units, and are refused with the same number there: a turn says the same.
  pub says_full : (from allowance n : ℕ) → n ≤ doable said → says_at made from allowance n ≡ says_at said from allowance n
  says_full = says_same said (picked camera).undistort made.cell (points_alike camera) cells_so

  -- The same records are admitted.
  pub judged_full : (s : State X) → judged made s ≡ judged said s
  unfolding admitted possible
  judged_full s = refl
