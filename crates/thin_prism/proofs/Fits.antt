-- What undistort finds is rounded to f64, whatever its parameters and pixel are: as bc's. Assumes nothing.
use Rattle.lens.specs.Fits.{Fit}
use Rattle.lens.specs.declared.Pixel.{Pixel}
use Rattle.affine.specs.Affine as affine
use Rattle.affine.proofs.Fits as affine-fits
use Rattle.brown_conrady.specs.BrownConrady.{affine_params}
use Rattle.brown_conrady.proofs.Steps.{found_fits}
use Rattle.thin_prism.specs.ThinPrism.{step_from, undistort}
use Rattle.thin_prism.specs.declared.ThinPrismParams.{ThinPrismParams}

-- The point that undistort finds is of two f64s.
pub undistort_fits : (params : ThinPrismParams) (pixel : Pixel) → Fit (undistort params pixel).point.0 × Fit (undistort params pixel).point.1
undistort_fits params pixel =
    let distorted = (affine.undistort (affine_params params.bc) pixel).point in
    let from = affine-fits.undistort_fits (affine_params params.bc) pixel in
    found_fits (step_from params distorted) distorted from.0 from.1
