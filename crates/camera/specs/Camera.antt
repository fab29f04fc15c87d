-- The four operations of a camera: what refuses a call beforehand, the model's own definition, and what refuses its
-- answer. Definitions only.
use Rattle.std.specs.Prelude.{Bool, cond, ◌&&◌, ◌||◌, List, [], ◌∷◌, ◌++◌, ℕ, Float, Ok, Err, Result}
use Rattle.std.specs.Float.Ieee.Scale.{finite}
use Rattle.exact.specs.F64.{is_zero}
use Rattle.arctan.specs.Arctangent.{arctangent}
use Rattle.arctan.specs.Tangent.{tangent}
use Rattle.lens.specs.Distorted.{finite_pixel}
use Rattle.lens.specs.Finite.{all_finite}
use Rattle.lens.specs.Jacobian.{two_rows}
use Rattle.lens.specs.Judgement.{decided, accepted}
use Rattle.lens.specs.Refusal.{number}
use Rattle.lens.specs.declared.Jacobian.{Jacobian}
use Rattle.lens.specs.declared.Pixel.{Pixel}
use Rattle.lens.specs.declared.Point.{Point}
use Rattle.lens.specs.declared.Refusal.{Refusal}
use Rattle.lens.specs.declared.Refusal.TheVariants.{NotFinite, ZeroFocalLength, AnswerNotFinite}
use Rattle.lens.specs.Undistorted.{Undistorted}
use Rattle.affine.specs.Affine as affine
use Rattle.enhanced_unified.specs.EnhancedUnified as eucm
use Rattle.kannala_brandt.specs.KannalaBrandt as kb
use Rattle.brown_conrady.specs.BrownConrady as bc
use Rattle.brown_conrady.specs.Formula as bc-formula
use Rattle.brown_conrady.specs.declared.BrownConradyParams.{BrownConradyParams}
use Rattle.thin_prism.specs.ThinPrism as bc12
use Rattle.camera.specs.declared.Camera.{Camera}
use Rattle.camera.specs.declared.Camera.TheVariants.{Affine, EnhancedUnified, KannalaBrandt, BrownConrady, ThinPrism}
use Rattle.lens.specs.Distorted.{Distorted}
use Rattle.lens.specs.Judgement.{Judgement}

-- ---- before: 4, then 5

abbrev bc_parameters : BrownConradyParams → List Float
bc_parameters p =
    p.fx ∷ p.fy ∷ p.cx ∷ p.cy ∷ p.k1 ∷ p.k2 ∷ p.p1 ∷ p.p2 ∷ p.k3 ∷ p.k4 ∷ p.k5 ∷ p.k6 ∷ []

abbrev pub parameters : Camera → List Float
parameters (Affine p) = p.fx ∷ p.fy ∷ p.cx ∷ p.cy ∷ []
parameters (EnhancedUnified p) = p.fx ∷ p.fy ∷ p.cx ∷ p.cy ∷ p.alpha ∷ p.beta ∷ []
parameters (KannalaBrandt p) = p.fx ∷ p.fy ∷ p.cx ∷ p.cy ∷ p.k0 ∷ p.k1 ∷ p.k2 ∷ p.k3 ∷ []
parameters (BrownConrady p) = bc_parameters p
parameters (ThinPrism p) = bc_parameters p.bc ++ (p.s1 ∷ p.s2 ∷ p.s3 ∷ p.s4 ∷ [])

abbrev pub either_zero : Float → Float → Bool
either_zero fx fy = is_zero fx || is_zero fy

abbrev pub zero_focal : Camera → Bool
zero_focal (Affine p) = either_zero p.fx p.fy
zero_focal (EnhancedUnified p) = either_zero p.fx p.fy
zero_focal (KannalaBrandt p) = either_zero p.fx p.fy
zero_focal (BrownConrady p) = either_zero p.fx p.fy
zero_focal (ThinPrism p) = either_zero p.bc.fx p.bc.fy

-- of a camera, and the point or pixel (x, y)
unfoldable pub judged : Camera → Float → Float → Judgement
judged camera x y =
    cond (all_finite (parameters camera) && (finite x && finite y))
    (cond (zero_focal camera) (Err ZeroFocalLength) accepted)
    (Err NotFinite)

-- the same where the parameters are known to be finite
abbrev pub placed : Camera → Float → Float → Judgement
placed camera x y =
    cond (finite x && finite y) (cond (zero_focal camera) (Err ZeroFocalLength) accepted) (Err NotFinite)

-- ---- distort: the model's pixel, or 11

abbrev pub pixel_of : Camera → Point → Pixel
pixel_of (Affine p) point = affine.distort p point
pixel_of (EnhancedUnified p) point = eucm.distort p point
pixel_of (KannalaBrandt p) point = kb.distort arctangent p point
pixel_of (BrownConrady p) point = bc.distort p point
pixel_of (ThinPrism p) point = bc12.distort p point

abbrev pub distort_judged : Camera → Point → Distorted
distort_judged camera point = finite_pixel (pixel_of camera point)

abbrev pub distort : Camera → Point → Distorted
distort camera point = decided (judged camera point.0 point.1) Err (distort_judged camera point)

-- ---- undistort: the model's point, or kb's 10, or eucm's 16, or 11

abbrev pub point_of : Camera → Pixel → Undistorted
point_of (Affine p) pixel = Ok (affine.undistort p pixel)
point_of (EnhancedUnified p) pixel = eucm.undistort p pixel
point_of (KannalaBrandt p) pixel = kb.undistort tangent p pixel
point_of (BrownConrady p) pixel = Ok (bc.undistort p pixel)
point_of (ThinPrism p) pixel = Ok (bc12.undistort p pixel)

abbrev pub finite_point : Undistorted → Undistorted
finite_point (Ok settled) =
    cond (finite settled.point.0 && finite settled.point.1) (Ok settled) (Err AnswerNotFinite)
finite_point (Err refusal) = Err refusal

abbrev pub undistort_judged : Camera → Pixel → Undistorted
undistort_judged camera pixel = finite_point (point_of camera pixel)

abbrev pub undistort : Camera → Pixel → Undistorted
undistort camera pixel = decided (judged camera pixel.0 pixel.1) Err (undistort_judged camera pixel)

-- before request P6: eucm's point whatever the z of the ray, and no 16
abbrev pub point_before : Camera → Pixel → Undistorted
point_before (Affine p) pixel = point_of (Affine p) pixel
point_before (EnhancedUnified p) pixel = Ok (eucm.undistort_before p pixel)
point_before (KannalaBrandt p) pixel = point_of (KannalaBrandt p) pixel
point_before (BrownConrady p) pixel = point_of (BrownConrady p) pixel
point_before (ThinPrism p) pixel = point_of (ThinPrism p) pixel

abbrev pub undistort_before : Camera → Pixel → Undistorted
undistort_before camera pixel =
    decided (judged camera pixel.0 pixel.1) Err (finite_point (point_before camera pixel))

-- the most updates that it makes
abbrev pub limit : Camera → ℕ
limit (Affine p) = 0
limit (EnhancedUnified p) = 0
limit (KannalaBrandt p) = kb.limit
limit (BrownConrady p) = bc.limit
limit (ThinPrism p) = bc.limit

-- ---- the derivatives: the model's, or why there is none, 11 among the reasons

abbrev pub Differentiated : Type 0
Differentiated = Result Jacobian Refusal

-- a number, and the Jacobian that stands beside it
pub record ToldJacobian : Type 0 where
  pub number : ℕ
  pub jacobian : Jacobian

-- an answer has the number 0, a refusal its own, and zeros
abbrev pub told_jacobian : Differentiated → ToldJacobian
told_jacobian (Ok jacobian) = record { number = 0; jacobian = jacobian }
told_jacobian (Err refusal) = record { number = number refusal; jacobian = two_rows [] [] }

abbrev pub finite_jacobian : Jacobian → Differentiated
finite_jacobian jacobian =
    cond (all_finite jacobian.entries) (Ok jacobian) (Err AnswerNotFinite)

abbrev pub slopes : Camera → Point → Jacobian
slopes (Affine p) point = affine.dx_distort_x p point
slopes (EnhancedUnified p) point = eucm.dx_distort_x p point
slopes (KannalaBrandt p) point = kb.dx_distort_x arctangent p point
slopes (BrownConrady p) point = bc.dx_distort_x p point
slopes (ThinPrism p) point = bc12.dx_distort_x p point

abbrev pub dx_distort_x_judged : Camera → Point → Differentiated
dx_distort_x_judged camera point = finite_jacobian (slopes camera point)

abbrev pub dx_distort_x : Camera → Point → Differentiated
dx_distort_x camera point =
    decided (judged camera point.0 point.1) Err (dx_distort_x_judged camera point)

abbrev pub parameter_slopes : Camera → Point → Jacobian
parameter_slopes (Affine p) point = affine.dx_distort_params p point
parameter_slopes (EnhancedUnified p) point = eucm.dx_distort_params p point
parameter_slopes (KannalaBrandt p) point = kb.dx_distort_params arctangent p point
parameter_slopes (BrownConrady p) point = bc-formula.dx_distort_params p point
parameter_slopes (ThinPrism p) point = bc12.dx_distort_params p point

abbrev pub dx_distort_params_judged : Camera → Point → Differentiated
dx_distort_params_judged camera point = finite_jacobian (parameter_slopes camera point)

abbrev pub dx_distort_params : Camera → Point → Differentiated
dx_distort_params camera point =
    decided (judged camera point.0 point.1) Err (dx_distort_params_judged camera point)
