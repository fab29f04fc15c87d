-- What undistort finds is rounded to f64, whatever its parameters and pixel are: Newton starts from affine's point, and each update is a difference. Assumes nothing.
use Rattle.lens.specs.Fits.{Fit}
use Rattle.lens.specs.declared.Pixel.{Pixel}
use Rattle.affine.specs.Affine as affine
use Rattle.affine.proofs.Fits as affine-fits
use Rattle.brown_conrady.specs.BrownConrady.{affine_params, step_from, undistort}
use Rattle.brown_conrady.specs.declared.BrownConradyParams.{BrownConradyParams}
use Rattle.brown_conrady.proofs.Steps.{found_fits}

-- The point that undistort finds is of two f64s.
pub undistort_fits : (params : BrownConradyParams) (pixel : Pixel) → Fit (undistort params pixel).point.0 × Fit (undistort params pixel).point.1
undistort_fits params pixel =
    let distorted = (affine.undistort (affine_params params) pixel).point in
    let from = affine-fits.undistort_fits (affine_params params) pixel in
    found_fits (step_from params distorted) distorted from.0 from.1
