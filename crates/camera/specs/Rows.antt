-- The rows of the refusal table (docs/RULES.md, 5.1) that a call with one point can meet, in the order they are tried:
-- each number, and when it is given. The laws hold the four operations to them. Definitions only.
use Rattle.std.specs.Prelude.{Bool, true, false, not, ◌&&◌, List, [], ◌∷◌, Float, Option, Ok, Err, Some, None}
use Rattle.std.specs.Float.Ieee.{le}
use Rattle.std.specs.Float.Ieee.Scale.{finite}
use Rattle.root.specs.Root.{root}
use Rattle.arctan.specs.Tangent.{tangent}
use Rattle.lens.specs.Constants.{zeros, eps}
use Rattle.lens.specs.Finite.{all_finite}
use Rattle.lens.specs.Rows.{Row, ◌when◌}
use Rattle.lens.specs.declared.Pixel.{Pixel}
use Rattle.lens.specs.declared.Point.{Point}
use Rattle.lens.specs.Undistorted.{Undistorted}
use Rattle.enhanced_unified.specs.EnhancedUnified as eucm
use Rattle.kannala_brandt.specs.KannalaBrandt as kb
use Rattle.camera.specs.Camera.{parameters, zero_focal, pixel_of, point_before, slopes, parameter_slopes}
use Rattle.camera.specs.declared.Camera.{Camera}
use Rattle.camera.specs.declared.Camera.TheVariants.{Affine, EnhancedUnified, KannalaBrandt, BrownConrady, ThinPrism}

-- 4: a parameter or a number of the point or pixel (x, y) is NaN or infinite
abbrev pub not_finite : Camera → Float → Float → Bool
not_finite camera x y = not (all_finite (parameters camera) && (finite x && finite y))

-- 10: kb's squared radius isn't ≤ EPS, and the angle where Newton ends is past the tangent's limit
abbrev pub steep : Option Float → Bool
steep None = true
steep (Some t) = false

abbrev pub too_steep : Camera → Pixel → Bool
too_steep (Affine p) pixel = false
too_steep (EnhancedUnified p) pixel = false
too_steep (KannalaBrandt p) pixel =
    not (le (kb.rth2 p pixel) eps) && steep (tangent (kb.newton p (root (kb.rth2 p pixel))).th)
too_steep (BrownConrady p) pixel = false
too_steep (ThinPrism p) pixel = false

-- 16: the z of eucm's ray is zero, of either sign, or negative; NaN is neither
abbrev pub mirrored : Camera → Pixel → Bool
mirrored (Affine p) pixel = false
mirrored (EnhancedUnified p) pixel = le (eucm.ray_z p pixel) zeros
mirrored (KannalaBrandt p) pixel = false
mirrored (BrownConrady p) pixel = false
mirrored (ThinPrism p) pixel = false

-- 11: a number of the answer is NaN or infinite. Of eucm's the answer is that of whatever z, so that 16 and 11 may both
-- hold
abbrev pub point_not_finite : Undistorted → Bool
point_not_finite (Ok settled) = not (finite settled.point.0 && finite settled.point.1)
point_not_finite (Err refusal) = false

-- ---- the rows of each operation

abbrev pub distort_rows : Camera → Point → List Row
distort_rows camera point =
    (4 when not_finite camera point.0 point.1)
    ∷ (5 when zero_focal camera)
    ∷ (11 when not (finite (pixel_of camera point).0 && finite (pixel_of camera point).1)) ∷ []

abbrev pub undistort_rows : Camera → Pixel → List Row
undistort_rows camera pixel =
    (4 when not_finite camera pixel.0 pixel.1)
    ∷ (5 when zero_focal camera)
    ∷ (10 when too_steep camera pixel)
    ∷ (16 when mirrored camera pixel)
    ∷ (11 when point_not_finite (point_before camera pixel)) ∷ []

abbrev pub dx_distort_x_rows : Camera → Point → List Row
dx_distort_x_rows camera point =
    (4 when not_finite camera point.0 point.1)
    ∷ (5 when zero_focal camera)
    ∷ (11 when not (all_finite (slopes camera point).entries)) ∷ []

abbrev pub dx_distort_params_rows : Camera → Point → List Row
dx_distort_params_rows camera point =
    (4 when not_finite camera point.0 point.1)
    ∷ (5 when zero_focal camera)
    ∷ (11 when not (all_finite (parameter_slopes camera point).entries)) ∷ []
