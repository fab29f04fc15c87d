-- What undistort finds is rounded to f64, whatever its camera and pixel are. Assumes nothing.
use mathlib.Core.Bool.{Bool, true, false, cond, ◌&&◌}
use Rattle.std.specs.declared.result.Result.TheVariants.{Ok, Err}
use lib.Ieee.Scale.{finite}
use Rattle.arctan.specs.Tangent.{tangent}
use Rattle.lens.specs.declared.Pixel.{Pixel}
use Rattle.lens.specs.declared.Refusal.TheVariants.{AnswerNotFinite}
use Rattle.lens.specs.Undistorted.{Undistorted}
use Rattle.affine.proofs.Fits as affine
use Rattle.enhanced_unified.proofs.Fits as eucm
use Rattle.kannala_brandt.proofs.Fits as kb
use Rattle.lens.specs.Fits.{PointFits}
use Rattle.brown_conrady.proofs.Fits as bc
use Rattle.thin_prism.proofs.Fits as bc12
use Rattle.camera.specs.Camera.{point_of, finite_point, undistort_judged}
use Rattle.camera.specs.declared.Camera.{Camera}
use Rattle.camera.specs.declared.Camera.TheVariants.{Affine, EnhancedUnified, KannalaBrandt, BrownConrady, ThinPrism}

point_fits : (camera : Camera) (pixel : Pixel) → PointFits (point_of camera pixel)
point_fits (Affine p) pixel = affine.undistort_fits p pixel
point_fits (EnhancedUnified p) pixel = eucm.undistort_fits p pixel
point_fits (KannalaBrandt p) pixel = kb.undistort_fits tangent p pixel
point_fits (BrownConrady p) pixel = bc.undistort_fits p pixel
point_fits (ThinPrism p) pixel = bc12.undistort_fits p pixel

still_fits : (u : Undistorted) → PointFits u → PointFits (finite_point u)
still_fits (Err r) h = tt
still_fits (Ok settled) h = go (finite settled.point.0 && finite settled.point.1)
  where
    go : (b : Bool) → PointFits (cond b (Ok settled) (Err AnswerNotFinite))
    go true = h
    go false = tt

-- The point that undistort finds is of two f64s.
pub undistort_judged_fits : (camera : Camera) (pixel : Pixel) → PointFits (undistort_judged camera pixel)
undistort_judged_fits camera pixel = still_fits (point_of camera pixel) (point_fits camera pixel)
