-- The engine of a camera's tables: the short one for a bc camera whose k4, k5 and k6 are zeros of either sign, the
-- camera's own for any other. Definitions only.
use Rattle.std.specs.Prelude.{Bool, false, cond, Ok}
use Rattle.lens.specs.Distorted.{finite_pixel}
use Rattle.lens.specs.Distorted.{Distorted}
use Rattle.lens.specs.declared.Pixel.{Pixel}
use Rattle.lens.specs.declared.Point.{Point}
use Rattle.lens.specs.Undistorted.{Undistorted}
use Rattle.brown_conrady.specs.declared.BrownConradyParams.{BrownConradyParams}
use Rattle.short_brown_conrady.specs.ShortBrownConrady as short
use Rattle.camera.specs.Camera.{pixel_of, finite_point, undistort_judged}
use Rattle.camera.specs.declared.Camera.{Camera}
use Rattle.camera.specs.declared.Camera.TheVariants.{Affine, EnhancedUnified, KannalaBrandt, BrownConrady, ThinPrism}

-- one thing for bc, by its parameters, and another for any other camera
abbrev pub for_bc : {A : Type 0} → (BrownConradyParams → A) → A → Camera → A
for_bc bc other (Affine p) = other
for_bc bc other (EnhancedUnified p) = other
for_bc bc other (KannalaBrandt p) = other
for_bc bc other (BrownConrady p) = bc p
for_bc bc other (ThinPrism p) = other

abbrev pub short_for : Camera → Bool
short_for = for_bc short.no_quotient false

-- the pixel, finite or not; the mark says whether by the short engine
abbrev pub pixel_by : Camera → Bool → Point → Pixel
pixel_by camera mark point =
    let own = pixel_of camera point in
    cond mark (for_bc (λ p. short.distort p point) own camera) own

-- its two calls, refused where what they give isn't finite
abbrev pub distort : Camera → Bool → Point → Distorted
distort camera mark point = finite_pixel (pixel_by camera mark point)

abbrev pub undistort : Camera → Bool → Pixel → Undistorted
undistort camera mark pixel =
    let own = undistort_judged camera pixel in
    cond mark (for_bc (λ p. finite_point (Ok (short.undistort p pixel))) own camera) own
