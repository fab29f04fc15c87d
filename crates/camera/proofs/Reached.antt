-- Laws: each refusal is given to some call. Assumes nothing.
use Rattle.camera.specs.Camera.{told_jacobian}
use mathlib.Core.Path.{◌≡◌, refl, ap}
use lib.Ieee.{nan, add, sub, mul, div, neg, of_bits, of_int}
use Rattle.exact.specs.F64.{f64, is_zero}
use Rattle.formula.specs.Term.{rounded}
use Rattle.root.specs.Root.{root}
use Rattle.lens.specs.ByHand.{halves, xy, uv}
use Rattle.lens.specs.Constants.{zeros, ones, int}
use Rattle.lens.specs.Finite.{all_finite}
use Rattle.lens.specs.Undistorted.{told}
use Rattle.lens.specs.declared.Point.{Point}
use Rattle.lens.specs.Undistorted.{Undistorted}
use Rattle.affine.specs.Affine as affine
use Rattle.enhanced_unified.specs.EnhancedUnified as eucm
use Rattle.brown_conrady.specs.BrownConrady as bc
use Rattle.brown_conrady.specs.Formula as bc-formula
use Rattle.thin_prism.specs.ThinPrism as bc12
use Rattle.camera.specs.Camera.{judged, distort, finite_point, undistort, dx_distort_x, dx_distort_params}
use Rattle.lens.specs.Distorted.{told_pixel}
use Rattle.camera.specs.declared.Camera.{Camera}
use Rattle.camera.specs.declared.Camera.TheVariants.{Affine, EnhancedUnified, KannalaBrandt, BrownConrady}
use Rattle.camera.specs.declared.Camera.TheVariants.{ThinPrism}
use Rattle.camera.proofs.ByHand.{eucms}
use Rattle.camera.proofs.Steep as far-out

-- a NaN; a lens with a zero focal length; (2 ^ 1000, 0), whose squared radius overflows
abbrev nowhere : Point
nowhere = xy nan zeros

abbrev flat : Camera
flat = Affine (affine.camera zeros ones zeros zeros)

abbrev far : Point
far = xy (f64 0x7e70_0000_0000_0000) zeros

-- fx is 2 ^ 1000
abbrev long : Camera
long = Affine (affine.camera (f64 0x7e70_0000_0000_0000) ones zeros zeros)

-- bc with no coefficient
abbrev plain : Camera
plain = BrownConrady (bc.camera ones ones zeros zeros zeros zeros zeros zeros zeros zeros zeros zeros)

-- bc12 likewise
abbrev plain12 : Camera
plain12 = ThinPrism record {
  bc = bc.camera ones ones zeros zeros zeros zeros zeros zeros zeros zeros zeros zeros;
  s1 = zeros;
  s2 = zeros;
  s3 = zeros;
  s4 = zeros;
}

-- Distort is refused with 4, 5 and 11.
pub distort_reached :
    ((told_pixel (distort flat nowhere)).number ≡ 4)
    × ((told_pixel (distort flat far)).number ≡ 5)
    × ((told_pixel (distort long far)).number ≡ 11)
unfolding judged all_finite is_zero add mul of_bits
distort_reached = (refl, refl, refl)

-- Undistort with 4, 5, 10, 16 and 11.
pub undistort_reached :
    ((told (undistort flat (uv nan zeros))).number ≡ 4)
    × ((told (undistort flat (uv zeros zeros))).number ≡ 5)
    × ((told (undistort (KannalaBrandt far-out.lens) far-out.pixel)).number ≡ 10)
    × ((told (undistort (EnhancedUnified (eucm.camera (int 1) (int 1) (int 0) (int 0) (halves 1) (int 1))) (uv (int 2) (int 0)))).number ≡ 16)
    × ((told (undistort (Affine (affine.camera (f64 0x0000_0000_0000_0001) ones zeros zeros)) (uv ones zeros))).number ≡ 11)
unfolding judged all_finite is_zero add sub mul div of_bits of_int
undistort_reached =
    (refl, refl, ap (λ (u : Undistorted). (told (finite_point u)).number) far-out.refused, ap (λ (u : Undistorted). (told u).number) eucms.1, refl)

-- The derivative by the point with 4, 5 and 11.
pub dx_distort_x_reached :
    ((told_jacobian (dx_distort_x flat nowhere)).number ≡ 4) × ((told_jacobian (dx_distort_x flat far)).number ≡ 5)
    × ((told_jacobian (dx_distort_x plain far)).number ≡ 11)
unfolding judged all_finite is_zero bc.slopes_at bc.shared_at add mul div of_bits
dx_distort_x_reached = (refl, refl, refl)

-- The derivative by the parameters with 4, 5 and 11, bc's and bc12's too.
pub dx_distort_params_reached :
    ((told_jacobian (dx_distort_params flat nowhere)).number ≡ 4)
    × ((told_jacobian (dx_distort_params flat far)).number ≡ 5)
    × ((told_jacobian (dx_distort_params (EnhancedUnified (eucm.camera ones ones zeros zeros (halves 1) ones)) far)).number ≡ 11)
    × ((told_jacobian (dx_distort_params plain nowhere)).number ≡ 4)
    × ((told_jacobian (dx_distort_params plain far)).number ≡ 11)
    × ((told_jacobian (dx_distort_params plain12 nowhere)).number ≡ 4)
    × ((told_jacobian (dx_distort_params plain12 far)).number ≡ 11)
unfolding judged all_finite is_zero bc-formula.dx_distort_params bc12.dx_distort_params rounded root add sub mul div neg of_bits of_int
dx_distort_params_reached = (refl, refl, refl, refl, refl, refl, refl)
