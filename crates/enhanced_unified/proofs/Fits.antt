-- What undistort finds is rounded to f64, whatever its parameters and pixel are. Assumes nothing.
use mathlib.Core.Bool.{Bool, true, false, cond}
use Rattle.std.specs.declared.result.Result.TheVariants.{Ok, Err}
use lib.Ieee.{binary64}
use lib.Ieee.Fits.{div-fits}
use Rattle.lens.specs.Fits.{PointFits}
use Rattle.lens.specs.declared.Pixel.{Pixel}
use Rattle.lens.specs.declared.Refusal.TheVariants.{RayNotForward}
use Rattle.enhanced_unified.specs.EnhancedUnified.{mx_of, my_of, ray_z, not_forward, undistort, undistort_before}
use Rattle.enhanced_unified.specs.declared.EnhancedUnifiedParams.{EnhancedUnifiedParams}

-- The point that undistort finds is of two f64s.
pub undistort_fits : (params : EnhancedUnifiedParams) (pixel : Pixel) → PointFits (undistort params pixel)
undistort_fits params pixel = go (not_forward (ray_z params pixel))
  where
    go : (b : Bool) → PointFits (cond b (Err RayNotForward) (Ok (undistort_before params pixel)))
    go true = tt
    go false = (div-fits binary64 (mx_of params pixel) (ray_z params pixel), div-fits binary64 (my_of params pixel) (ray_z params pixel))
