-- What undistort finds is rounded to f64, whatever its parameters and pixel are. Assumes nothing.
use lib.Ieee.{binary64}
use lib.Ieee.Fits.{div-fits}
use Rattle.lens.specs.Fits.{Fit}
use Rattle.lens.specs.declared.Pixel.{Pixel}
use Rattle.affine.specs.Affine.{undistort}
use Rattle.affine.specs.declared.AffineParams.{AffineParams}

-- The point that undistort finds is of two f64s.
pub undistort_fits : (params : AffineParams) (pixel : Pixel) → Fit (undistort params pixel).point.0 × Fit (undistort params pixel).point.1
undistort_fits params pixel = (div-fits binary64 _ _, div-fits binary64 _ _)
