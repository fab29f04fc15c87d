-- What is picked for a camera's table answers as the camera does: the pixels are the same bit by bit, the points but for the signs of zeros, and the refusals are the same. Assumes nothing.
use mathlib.Core.Path.{◌≡◌, refl, ap, ap₂}
use Rattle.std.specs.declared.result.Result.TheVariants.{Ok, Err}
use mathlib.Core.Bool.{Bool, true, false, cond, ◌&&◌, true≢false, false≢true}
use Prim.Native.Nat.{ℕ}
use lib.Ieee.Scale.{finite}
use Rattle.exact.proofs.Alike.{≐-refl, ≐-finite}
use Rattle.lens.specs.Alike.{AlikeSettled}
use Rattle.lens.specs.Distorted.{Distorted}
use Rattle.lens.specs.declared.Pixel.{Pixel}
use Rattle.lens.specs.declared.Refusal.TheVariants.{AnswerNotFinite}
use Rattle.lens.specs.declared.Settled.{Settled}
use Rattle.lens.specs.Undistorted.{Undistorted}
use Rattle.region.specs.declared.Increments.{Increments}
use Rattle.region.specs.declared.Region.{Region}
use Rattle.brown_conrady.specs.BrownConrady as bc
use Rattle.short_brown_conrady.specs.ShortBrownConrady as short
use Rattle.short_brown_conrady.proofs.Laws.{undistort_short_is_full}
use Rattle.camera.specs.Camera.{finite_point, undistort_judged}
use Rattle.camera.specs.declared.Camera.{Camera}
use Rattle.engine.specs.Engine.{undistort}
use Rattle.engine.proofs.Laws.{by_mark, pixels_same}
use Rattle.plans.specs.Plan.{Content, none}
use Rattle.alike_plans.specs.AlikePlans.{AlikeFound}
use Rattle.cell.specs.Cell.{cell_point, of_pixel, cell_by}
use Rattle.table_plans.specs.Tables.{full, picked}

-- ---- points

found_itself : (u : Undistorted) → AlikeFound u u
found_itself (Ok s) = record { point = record { x = ≐-refl; y = ≐-refl }; updates = refl; flag = refl }
found_itself (Err r) = refl

judged_alike : (a b : Settled) → AlikeSettled a b → AlikeFound (finite_point (Ok a)) (finite_point (Ok b))
judged_alike a b h = go (finite a.point.0 && finite a.point.1) (finite b.point.0 && finite b.point.1) (ap₂ ◌&&◌ (≐-finite h.point.x) (≐-finite h.point.y))
  where
    go : (p q : Bool) → p ≡ q → AlikeFound (cond p (Ok a) (Err AnswerNotFinite)) (cond q (Ok b) (Err AnswerNotFinite))
    go true true e = h
    go true false e = absurd (true≢false e)
    go false true e = absurd (false≢true e)
    go false false e = refl

pub points_alike : (camera : Camera) (pixel : Pixel) → AlikeFound ((picked camera).undistort pixel) ((full camera).undistort pixel)
points_alike camera pixel =
    by_mark (λ (c : Camera) (mark : Bool). AlikeFound (undistort c mark pixel) (undistort_judged c pixel)) (λ c. found_itself (undistort_judged c pixel))
    (λ params z. judged_alike (short.undistort params pixel) (bc.undistort params pixel) (undistort_short_is_full params z pixel)) camera

-- ---- cells

pub cells_same :
    {X : Type 0} (kind : Pixel → Content X) (camera : Camera) (region : Region) (by : Increments) (u v : ℕ)
    → cell_by (picked camera).distort kind region by u v ≡ cell_by (full camera).distort kind region by u v
unfolding cell_by
cells_same kind camera region by u v =
    let point = cell_point region by u v in
    ap (λ (d : Distorted). cond (finite point.0 && finite point.1) (of_pixel kind d) (none 11)) (pixels_same camera point)
