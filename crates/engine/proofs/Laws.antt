-- What a caller may rely on, of the definitions of specs/ and of the contracts of src/. Assumes nothing.
use mathlib.Core.Path.{◌≡◌, refl, sym, ap, ◌∙◌}
use Rattle.std.specs.declared.result.Result.TheVariants.{Ok, Err}
use mathlib.Core.Bool.{Bool, true, false, cond, ◌&&◌}
use Prim.Native.Nat.{◌≤◌}
use native.Mathlib.Nat.{le_trans}
use lib.Dec.{lit≤}
use lib.Ieee.Scale.{finite}
use Rattle.exact.specs.Determined.{Determined}
use Rattle.lens.specs.Distorted.{finite_pixel}
use Rattle.lens.specs.Fits.{Fit, PointFits}
use Rattle.lens.specs.Undistorted.{told}
use Rattle.lens.specs.declared.Pixel.{Pixel}
use Rattle.lens.specs.declared.Point.{Point}
use Rattle.lens.specs.declared.Refusal.TheVariants.{AnswerNotFinite}
use Rattle.lens.specs.declared.Settled.{Settled}
use Rattle.lens.specs.Undistorted.{Undistorted}
use Rattle.brown_conrady.specs.declared.BrownConradyParams.{BrownConradyParams}
use Rattle.short_brown_conrady.specs.ShortBrownConrady as short
use Rattle.short_brown_conrady.proofs.Fits.{undistort_fits}
use Rattle.short_brown_conrady.proofs.Laws.{distort_short_is_full, undistort_updates_limit}
use Rattle.camera.specs.Camera.{distort_judged, finite_point, undistort_judged}
use Rattle.camera.specs.declared.Camera.{Camera}
use Rattle.camera.specs.declared.Camera.TheVariants.{Affine, EnhancedUnified, KannalaBrandt, BrownConrady, ThinPrism}
use Rattle.camera.proofs.Fits.{undistort_judged_fits}
use Rattle.camera.proofs.Laws.{updates_limit_judged, limit_most}
use Rattle.engine.specs.Engine.{short_for, distort, undistort}
use Rattle.engine.proofs.short_for.Reads as short-for-contract
use Rattle.engine.proofs.distort.Reads as distort-contract
use Rattle.engine.proofs.undistort.Reads as undistort-contract

-- Any two answers to one call that the contract of a function permits are equal, for each of the three.
pub determined : Determined short-for-contract.Post × Determined distort-contract.Post × Determined undistort-contract.Post
determined = (
  λ κ a s s' r r' p q. p ∙ sym q,
  λ κ a s s' r r' p q. p ∙ sym q,
  λ κ a s s' r r' p q. p ∙ sym q,
)

-- what holds of a camera's own answers, and of bc with zeros, holds of a camera's tables
pub by_mark :
    (P : Camera → Bool → Type 0) → ((camera : Camera) → P camera false)
    → ((params : BrownConradyParams) → short.no_quotient params ≡ true → P (BrownConrady params) true)
    → (camera : Camera) → P camera (short_for camera)
by_mark P own zeros (Affine p) = own (Affine p)
by_mark P own zeros (EnhancedUnified p) = own (EnhancedUnified p)
by_mark P own zeros (KannalaBrandt p) = own (KannalaBrandt p)
by_mark P own zeros (ThinPrism p) = own (ThinPrism p)
by_mark P own zeros (BrownConrady p) = go (short.no_quotient p) refl
  where
    go : (b : Bool) → short.no_quotient p ≡ b → P (BrownConrady p) b
    go true e = zeros p e
    go false e = own (BrownConrady p)

-- The pixels of a camera's tables are the camera's own, bit by bit, at every point, and so are their refusals.
pub pixels_same : (camera : Camera) (point : Point) → distort camera (short_for camera) point ≡ distort_judged camera point
pixels_same camera point =
    by_mark (λ (c : Camera) (mark : Bool). distort c mark point ≡ distort_judged c point) (λ c. refl)
    (λ params z. ap finite_pixel (distort_short_is_full params z point)) camera

still_fits : (settled : Settled) → Fit settled.point.0 × Fit settled.point.1 → PointFits (finite_point (Ok settled))
still_fits settled h = go (finite settled.point.0 && finite settled.point.1)
  where
    go : (b : Bool) → PointFits (cond b (Ok settled) (Err AnswerNotFinite))
    go true = h
    go false = tt

-- what holds of both engines' answers at a pixel holds by either mark
by_either :
    (P : Undistorted → Type 0) (pixel : Pixel) → ((camera : Camera) → P (undistort_judged camera pixel))
    → ((params : BrownConradyParams) → P (finite_point (Ok (short.undistort params pixel)))) → (camera : Camera) (mark : Bool) → P (undistort camera mark pixel)
by_either P pixel own bc camera false = own camera
by_either P pixel own bc (Affine p) true = own (Affine p)
by_either P pixel own bc (EnhancedUnified p) true = own (EnhancedUnified p)
by_either P pixel own bc (KannalaBrandt p) true = own (KannalaBrandt p)
by_either P pixel own bc (ThinPrism p) true = own (ThinPrism p)
by_either P pixel own bc (BrownConrady p) true = bc p

-- A sample's point is of two f64s, by either mark,
pub points_fit : (camera : Camera) (mark : Bool) (pixel : Pixel) → PointFits (undistort camera mark pixel)
points_fit camera mark pixel =
    by_either PointFits pixel (λ c. undistort_judged_fits c pixel)
    (λ params. still_fits (short.undistort params pixel) (undistort_fits params pixel)) camera mark

few : (settled : Settled) → settled.updates ≤ 50 → (told (finite_point (Ok settled))).settled.updates ≤ 50
few settled h = go (finite settled.point.0 && finite settled.point.1)
  where
    go : (b : Bool) → (told (cond b (Ok settled) (Err AnswerNotFinite))).settled.updates ≤ 50
    go true = h
    go false = lit≤ tt

-- with at most 50 updates.
pub most_updates : (camera : Camera) (mark : Bool) (pixel : Pixel) → (told (undistort camera mark pixel)).settled.updates ≤ 50
most_updates camera mark pixel =
    by_either (λ (u : Undistorted). (told u).settled.updates ≤ 50) pixel
    (λ c. le_trans (updates_limit_judged c pixel) (limit_most c))
    (λ params. few (short.undistort params pixel) (undistort_updates_limit params pixel)) camera mark
