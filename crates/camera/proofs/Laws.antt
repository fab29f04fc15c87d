-- What a caller may rely on, of the definitions of specs/ and of the contracts of src/; ByHand and Reached have more.
-- Assumes nothing.
use Rattle.lens.specs.Judgement.{accepted}
use mathlib.Core.Path.{◌≡◌, refl, sym, ap, ◌∙◌}
use Rattle.std.specs.declared.result.Result.TheVariants.{Ok, Err}
use mathlib.Core.Bool.{true, false, ◌&&◌}
use mathlib.Core.Logic.{◌↔◌, ◌⊎◌}
use Prim.Native.Nat.{ℕ, suc, ◌≤◌}
use lib.Dec.{T, lit≤}
use lib.Ieee.{Float, le, lt, is_nan}
use lib.Ieee.Scale.{finite}
use lib.ListN.{length}
use Rattle.exact.specs.Determined.{Determined}
use Rattle.exact.specs.F64.{magnitude}
use Rattle.exact.specs.Fraction.{exactly, ◌≺◌}
use Rattle.root.specs.Root.{root}
use Rattle.arctan.specs.Series as series
use Rattle.arctan.specs.Tangent.{tangent}
use Rattle.lens.specs.Alike.{AlikePixels, AlikeJacobians, AlikeSettled}
use Rattle.lens.specs.Constants.{zeros, eps}
use Rattle.lens.specs.Finite.{all_finite}
use Rattle.lens.specs.Refusal.{number}
use Rattle.lens.specs.Rows.{first}
use Rattle.lens.specs.Undistorted.{told}
use Rattle.lens.specs.declared.Pixel.{Pixel}
use Rattle.lens.specs.declared.Point.{Point}
use Rattle.lens.specs.declared.Refusal.{Refusal}
use Rattle.lens.specs.declared.Refusal.TheVariants.{AnswerNotFinite}
use Rattle.lens.specs.declared.Settled.{Settled}
use Rattle.lens.specs.Undistorted.{Undistorted}
use Rattle.affine.specs.declared.AffineParams.{AffineParams}
use Rattle.enhanced_unified.specs.EnhancedUnified as eucm
use Rattle.enhanced_unified.specs.declared.EnhancedUnifiedParams.{EnhancedUnifiedParams}
use Rattle.enhanced_unified.proofs.Laws as eucm-laws
use Rattle.enhanced_unified.proofs.Sides.{not_above}
use Rattle.kannala_brandt.specs.KannalaBrandt as kb
use Rattle.kannala_brandt.specs.declared.KannalaBrandtParams.{KannalaBrandtParams}
use Rattle.kannala_brandt.proofs.Fits.{angle_fits}
use Rattle.thin_prism.specs.ThinPrism.{NoPrism}
use Rattle.thin_prism.specs.declared.ThinPrismParams.{ThinPrismParams}
use Rattle.thin_prism.proofs.Laws as bc12-laws
use Rattle.camera.specs.Camera.{told_jacobian}
use Rattle.camera.specs.Camera.{parameters, zero_focal, judged, pixel_of, distort, point_of, finite_point}
use Rattle.camera.specs.Camera.{undistort_judged, undistort, limit, slopes, dx_distort_x, parameter_slopes}
use Rattle.camera.specs.Camera.{dx_distort_params, point_before, undistort_before}
use Rattle.camera.specs.Numbers as numbers
use Rattle.camera.specs.Rows.{not_finite, steep, too_steep, point_not_finite, distort_rows, undistort_rows}
use Rattle.camera.specs.Rows.{dx_distort_x_rows, dx_distort_params_rows, mirrored}
use Rattle.lens.specs.Distorted.{told_pixel, finite_pixel}
use Rattle.camera.specs.declared.Camera.{Camera}
use Rattle.camera.specs.declared.Camera.TheVariants.{Affine, EnhancedUnified, KannalaBrandt, BrownConrady}
use Rattle.camera.specs.declared.Camera.TheVariants.{ThinPrism}
use Rattle.camera.proofs.Models.{each_model}
use Rattle.camera.proofs.Past.{steep_past, first_is_10, first_is_16}
use Rattle.camera.proofs.PrismZero.{same_judged, distort_alike, undistort_alike, jacobian_alike, focal_finite}
use Rattle.camera.proofs.Told.{before, behind, given, pixel_number, point_number, answer_number, agree}
use Rattle.camera.proofs.Told.{jacobian_number, distort_own, undistort_own, jacobian_own, jacobian_finite}
use Rattle.camera.proofs.Told.{kept, most, found_own, as_before, undistort_as_before, own_refusal}
use Rattle.camera.proofs.finite_parameters.Reads as finite-parameters-contract
use Rattle.camera.proofs.zero_focal.Reads as zero-focal-contract
use Rattle.camera.proofs.distort_judged.Reads as distort-judged-contract
use Rattle.camera.proofs.undistort_judged.Reads as undistort-judged-contract
use Rattle.camera.proofs.limit.Reads as limit-contract
use Rattle.camera.proofs.distort.Reads as distort-contract
use Rattle.camera.proofs.undistort.Reads as undistort-contract
use Rattle.camera.proofs.dx_distort_x.Reads as dx-distort-x-contract
use Rattle.camera.proofs.dx_distort_params.Reads as dx-distort-params-contract
use Rattle.camera.proofs.placed.Reads as placed-contract
use Rattle.camera.proofs.dx_distort_x_judged.Reads as dx-distort-x-judged-contract
use Rattle.camera.proofs.dx_distort_params_judged.Reads as dx-distort-params-judged-contract
use Rattle.camera.proofs.numbers.count.Reads as count-contract
use Rattle.camera.proofs.numbers.camera_of.Reads as camera-of-contract
use Rattle.camera.proofs.numbers.model_number.Reads as model-number-contract
use Rattle.camera.proofs.numbers.padded.Reads as padded-contract

-- ---- each contract permits one answer

-- Any two answers to one call that the contract of an operation permits are equal, for each of the four.
pub determined :
    Determined distort-contract.Post × Determined undistort-contract.Post
    × Determined dx-distort-x-contract.Post × Determined dx-distort-params-contract.Post
determined = (
  λ κ a s s' r r' p q. p ∙ sym q,
  λ κ a s s' r r' p q. p ∙ sym q,
  λ κ a s s' r r' p q. p ∙ sym q,
  λ κ a s s' r r' p q. p ∙ sym q,
)

-- and so for the five functions that a table is built with,
pub determined_parts :
    Determined finite-parameters-contract.Post × Determined zero-focal-contract.Post
    × Determined distort-judged-contract.Post × Determined undistort-judged-contract.Post
    × Determined limit-contract.Post
determined_parts = (
  λ κ a s s' r r' p q. p ∙ sym q,
  λ κ a s s' r r' p q. p ∙ sym q,
  λ κ a s s' r r' p q. p ∙ sym q,
  λ κ a s s' r r' p q. p ∙ sym q,
  λ κ a s s' r r' p q. p ∙ sym q,
)

-- and for the three that are called where the parameters are known to be finite,
pub determined_known :
    Determined placed-contract.Post
    × Determined dx-distort-x-judged-contract.Post × Determined dx-distort-params-judged-contract.Post
determined_known = (
  λ κ a s s' r r' p q. p ∙ sym q,
  λ κ a s s' r r' p q. p ∙ sym q,
  λ κ a s s' r r' p q. p ∙ sym q,
)

-- and for the four of `numbers`.
pub determined_numbers :
    Determined count-contract.Post × Determined camera-of-contract.Post
    × Determined model-number-contract.Post × Determined padded-contract.Post
determined_numbers = (
  λ κ a s s' r r' p q. p ∙ sym q,
  λ κ a s s' r r' p q. p ∙ sym q,
  λ κ a s s' r r' p q. p ∙ sym q,
  λ κ a s s' r r' p q. p ∙ sym q,
)

-- ---- the order of the parameters

-- A camera is the one of its model's number and its parameters, with zeros behind them or without.
pub camera_back :
    (camera : Camera) →
    (numbers.camera_of (numbers.model_number camera) (numbers.at (parameters camera)) ≡ camera)
    × (numbers.camera_of (numbers.model_number camera) (numbers.at (numbers.padded camera)) ≡ camera)
camera_back (Affine p) = (refl, refl)
camera_back (EnhancedUnified p) = (refl, refl)
camera_back (KannalaBrandt p) = (refl, refl)
camera_back (BrownConrady p) = (refl, refl)
camera_back (ThinPrism p) = (refl, refl)

module _ (n : ℕ → Float) where
  -- A model's camera is made of as many numbers as the model has: the first.
  pub camera_first :
      (model : ℕ)
      → numbers.camera_of model n ≡ numbers.camera_of model (numbers.at (numbers.first_of (numbers.count model) n))
  camera_first =
      each_model (λ m. m.camera n ≡ m.camera (numbers.at (numbers.first_of m.count n)))
      (refl, (refl, (refl, (refl, (refl, tt))))) refl

  -- The first `most` numbers are enough for every model's camera.
  pub camera_most :
      (model : ℕ) → numbers.camera_of model (numbers.at (numbers.first_of numbers.most n)) ≡ numbers.camera_of model n
  camera_most =
      each_model (λ m. m.camera (numbers.at (numbers.first_of numbers.most n)) ≡ m.camera n)
      (refl, (refl, (refl, (refl, (refl, tt))))) refl

  -- The parameters of the camera of a model and numbers are the numbers, in order, as many as the model has.
  pub parameters_are : (model : ℕ) → parameters (numbers.camera_of model n) ≡ numbers.first_of (numbers.count model) n
  parameters_are =
      each_model (λ m. parameters (m.camera n) ≡ numbers.first_of m.count n)
      (refl, (refl, (refl, (refl, (refl, tt))))) refl

-- `last` is the highest number of the table, and the most parameters of a model in it are `most`.
pub table_ends :
    (length numbers.models ≡ suc numbers.last)
    × ((model : ℕ) → numbers.count model ≤ numbers.most) × (numbers.count numbers.last ≡ numbers.most)
table_ends =
    let few = each_model (λ m. m.count ≤ numbers.most) (lit≤ tt, (lit≤ tt, (lit≤ tt, (lit≤ tt, (lit≤ tt, tt))))) (lit≤ tt) in
    (refl, few, refl)

-- No camera's number is above `last`, and its parameters are as many as its model has.
pub camera_known :
    (camera : Camera) → (numbers.model_number camera ≤ numbers.last)
    × (length (parameters camera) ≡ numbers.count (numbers.model_number camera))
camera_known (Affine p) = (lit≤ tt, refl)
camera_known (EnhancedUnified p) = (lit≤ tt, refl)
camera_known (KannalaBrandt p) = (lit≤ tt, refl)
camera_known (BrownConrady p) = (lit≤ tt, refl)
camera_known (ThinPrism p) = (lit≤ tt, refl)

-- Padded parameters are `most`, of every camera.
pub padded_length : (camera : Camera) → length (numbers.padded camera) ≡ numbers.most
padded_length (Affine p) = refl
padded_length (EnhancedUnified p) = refl
padded_length (KannalaBrandt p) = refl
padded_length (BrownConrady p) = refl
padded_length (ThinPrism p) = refl

-- ---- the refusals: the number told is that of the first row that holds, and 0 if none does

-- Distort gives 4, 5 or 11 exactly when the table says so, the lowest first.
pub distort_number :
    (camera : Camera) (point : Point) → (told_pixel (distort camera point)).number ≡ first (distort_rows camera point)
unfolding judged
distort_number camera point =
    let pixel = pixel_of camera point in
    let answer = behind pixel_number (Ok pixel) (Err AnswerNotFinite) refl refl (finite pixel.0 && finite pixel.1) in
    before pixel_number Err (finite_pixel pixel) (λ r. refl) answer (given camera point.0 point.1)
    (zero_focal camera)

-- Undistort gives 4, 5, 10, 16 or 11 exactly when the table says so, tried in this order.
pub undistort_number :
    (camera : Camera) (pixel : Pixel) → (told (undistort camera pixel)).number ≡ first (undistort_rows camera pixel)
unfolding judged
undistort_number camera pixel =
    let answer = answer_number (point_of camera pixel) (point_before camera pixel) (too_steep camera pixel) (mirrored camera pixel) (agree camera pixel) in
    before point_number Err (finite_point (point_of camera pixel)) (λ r. refl) answer
    (given camera pixel.0 pixel.1) (zero_focal camera)

-- What a model refuses by itself, before 11 is asked, it refuses with 10 or 16.
pub model_refuses :
    (camera : Camera) (pixel : Pixel) (r : Refusal)
    → point_of camera pixel ≡ Err r → (number r ≡ 10) ⊎ (number r ≡ 16)
model_refuses = own_refusal

-- where kb's Newton ends, for a pixel
abbrev theta : KannalaBrandtParams → Pixel → Float
theta p pixel = (kb.newton p (root (kb.rth2 p pixel))).th

-- Undistort of kb refuses with 10 exactly if neither 4 nor 5 does, the squared radius isn't ≤ EPS, and the last theta
-- is finite and its size, as an exact fraction, above the limit that arctan names.
pub refused_10 :
    (p : KannalaBrandtParams) (pixel : Pixel)
    → ((told (undistort (KannalaBrandt p) pixel)).number ≡ 10)
    ↔ ((not_finite (KannalaBrandt p) pixel.0 pixel.1 ≡ false)
    × (zero_focal (KannalaBrandt p) ≡ false)
    × (le (kb.rth2 p pixel) eps ≡ false)
    × T (finite (theta p pixel))
    × (series.limit ≺ exactly (magnitude (theta p pixel))))
refused_10 p pixel =
    let camera = KannalaBrandt p in
    let says = undistort_number camera pixel in
    let infinite = point_not_finite (point_before camera pixel) in
    let beyond = steep (tangent (theta p pixel)) in
    let rows = first_is_10 (not_finite camera pixel.0 pixel.1) (zero_focal camera) (le (kb.rth2 p pixel) eps) beyond false infinite in
    let past = steep_past (theta p pixel) (angle_fits p (root (kb.rth2 p pixel))) in (
      λ h. let r = rows.0 (sym says ∙ h) in (r.0, r.1, r.2, (past.0 r.3).0, (past.0 r.3).1),
      λ h. says ∙ rows.1 (h.0, h.1, h.2, past.1 (h.3, h.4)),
    )

-- Undistort of eucm refuses with 16 exactly if neither 4 nor 5 does, and the z of the pixel's ray is a number and not
-- above 0. A NaN z leaves it to 11.
pub mirrored_exactly :
    (p : EnhancedUnifiedParams) (pixel : Pixel)
    → ((told (undistort (EnhancedUnified p) pixel)).number ≡ 16)
    ↔ ((not_finite (EnhancedUnified p) pixel.0 pixel.1 ≡ false)
    × (zero_focal (EnhancedUnified p) ≡ false)
    × (is_nan (eucm.ray_z p pixel) ≡ false)
    × (lt zeros (eucm.ray_z p pixel) ≡ false))
mirrored_exactly p pixel =
    let camera = EnhancedUnified p in
    let says = undistort_number camera pixel in
    let z = not_above (eucm.ray_z p pixel) in
    let infinite = point_not_finite (point_before camera pixel) in
    let rows = first_is_16 (not_finite camera pixel.0 pixel.1) (zero_focal camera) (mirrored camera pixel) infinite in (
      λ h. let r = rows.0 (sym says ∙ h) in (r.0, r.1, (z.0 r.2).0, (z.0 r.2).1),
      λ h. says ∙ rows.1 (h.0, h.1, z.1 (h.2, h.3)),
    )

-- Wherever 16 isn't given, answer and refusal are those of before request P6, of every camera.
pub elsewhere_as_before :
    (camera : Camera) (pixel : Pixel) → ((told (undistort camera pixel)).number ≡ 16 → ⊥) → undistort camera pixel ≡ undistort_before camera pixel
elsewhere_as_before camera pixel =
    undistort_as_before (judged camera pixel.0 pixel.1) (point_of camera pixel) (point_before camera pixel)
    (as_before camera pixel)

-- A point that undistort of eucm answers lies on the pixel's side of the centre, zeros aside.
pub same_side :
    (p : EnhancedUnifiedParams) (pixel : Pixel) (s : Settled)
    → undistort (EnhancedUnified p) pixel ≡ Ok s → eucm-laws.SameSide p pixel s.point
same_side p pixel s h =
    eucm-laws.same_side p pixel s
    (found_own s (judged (EnhancedUnified p) pixel.0 pixel.1) (point_of (EnhancedUnified p) pixel) h)

-- The derivative by the point gives 4, 5 or 11 exactly when the table says so, the lowest first.
pub dx_distort_x_number :
    (camera : Camera) (point : Point) → (told_jacobian (dx_distort_x camera point)).number ≡ first (dx_distort_x_rows camera point)
dx_distort_x_number camera point = jacobian_number camera point (slopes camera point)

-- The derivative by the parameters gives 4, 5 or 11 exactly when the table says so, the lowest first: 2 of no camera.
pub dx_distort_params_number :
    (camera : Camera) (point : Point)
    → (told_jacobian (dx_distort_params camera point)).number ≡ first (dx_distort_params_rows camera point)
dx_distort_params_number camera point = jacobian_number camera point (parameter_slopes camera point)

-- ---- an answered call has the number 0, and its answer is the model's own

-- A distort that tells 0 is the pixel of the model's formula.
pub distort_answered :
    (camera : Camera) (point : Point) → (told_pixel (distort camera point)).number ≡ 0
    → distort camera point ≡ Ok (pixel_of camera point)
distort_answered camera point =
    let pixel = pixel_of camera point in
    distort_own (judged camera point.0 point.1) (finite pixel.0 && finite pixel.1) pixel

-- An undistort that tells 0 is the point, updates and flag of the model's rules.
pub undistort_answered :
    (camera : Camera) (pixel : Pixel) → (told (undistort camera pixel)).number ≡ 0
    → undistort camera pixel ≡ point_of camera pixel
undistort_answered camera pixel = undistort_own (judged camera pixel.0 pixel.1) (point_of camera pixel)

-- A derivative that tells 0 is the Jacobian of the model's formula, by the point or by the parameters.
pub dx_answered :
    (camera : Camera) (point : Point)
    → ((told_jacobian (dx_distort_x camera point)).number ≡ 0 → (told_jacobian (dx_distort_x camera point)).jacobian ≡ slopes camera point)
    × ((told_jacobian (dx_distort_params camera point)).number ≡ 0 → (told_jacobian (dx_distort_params camera point)).jacobian ≡ parameter_slopes camera point)
dx_answered camera point = (
  jacobian_own (judged camera point.0 point.1) (all_finite (slopes camera point).entries) (slopes camera point),
  jacobian_own (judged camera point.0 point.1) (all_finite (parameter_slopes camera point).entries)
      (parameter_slopes camera point),
)

-- A derivative that tells 0 has finite numbers only.
pub jacobians_finite :
    (camera : Camera) (point : Point) →
    ((told_jacobian (dx_distort_x camera point)).number ≡ 0 → all_finite (told_jacobian (dx_distort_x camera point)).jacobian.entries ≡ true)
    × ((told_jacobian (dx_distort_params camera point)).number ≡ 0 → all_finite (told_jacobian (dx_distort_params camera point)).jacobian.entries ≡ true)
jacobians_finite camera point = (
  jacobian_finite (judged camera point.0 point.1) (slopes camera point),
  jacobian_finite (judged camera point.0 point.1) (parameter_slopes camera point),
)

-- ---- bc12 without a prism

-- With s1 to s4 at zero, of either sign, bc12 answers wherever bc with the same twelve parameters does, and gives its
-- answer, the sign of a zero aside: the pixel, the point with its updates and flag, and the derivative by the point.
pub prism_zero :
    (p : ThinPrismParams) → NoPrism p →
    ((point : Point) → (told_pixel (distort (BrownConrady p.bc) point)).number ≡ 0
    → ((told_pixel (distort (ThinPrism p) point)).number ≡ 0)
    × AlikePixels
    (told_pixel (distort (BrownConrady p.bc) point)).pixel (told_pixel (distort (ThinPrism p) point)).pixel)
    × ((pixel : Pixel) → (told (undistort (BrownConrady p.bc) pixel)).number ≡ 0
    → ((told (undistort (ThinPrism p) pixel)).number ≡ 0)
    × AlikeSettled
    (told (undistort (BrownConrady p.bc) pixel)).settled (told (undistort (ThinPrism p) pixel)).settled)
    × ((point : Point) → (told_jacobian (dx_distort_x (BrownConrady p.bc) point)).number ≡ 0
    → ((told_jacobian (dx_distort_x (ThinPrism p) point)).number ≡ 0)
    × AlikeJacobians (told_jacobian (dx_distort_x (BrownConrady p.bc) point)).jacobian (told_jacobian (dx_distort_x (ThinPrism p) point)).jacobian)
prism_zero p zs =
    let models = bc12-laws.prism_zero p zs in (
      λ point e. rw (same_judged p zs point.0 point.1)
          (distort_alike (judged (BrownConrady p.bc) point.0 point.1) _ _ (models.0 point) e),
      λ pixel e. rw (same_judged p zs pixel.0 pixel.1)
          (undistort_alike (judged (BrownConrady p.bc) pixel.0 pixel.1) _ _ (models.1 pixel) e),
      λ point e.
          let f = focal_finite p point.0 point.1 (slopes (BrownConrady p.bc) point) e in
          rw (same_judged p zs point.0 point.1)
          (jacobian_alike (judged (BrownConrady p.bc) point.0 point.1) _ _ (models.2 point f.0 f.1) e),
    )

-- ---- updates and flag

-- No model's limit is above 50.
pub limit_most : (camera : Camera) → limit camera ≤ 50
limit_most (Affine p) = lit≤ tt
limit_most (EnhancedUnified p) = lit≤ tt
limit_most (KannalaBrandt p) = lit≤ tt
limit_most (BrownConrady p) = lit≤ tt
limit_most (ThinPrism p) = lit≤ tt

-- No undistort makes more updates than its model's limit: 0 for affine and eucm, 20 for kb, 50 for bc and bc12.
pub updates_limit : (camera : Camera) (pixel : Pixel) → (told (undistort camera pixel)).settled.updates ≤ limit camera
updates_limit camera pixel = kept (judged camera pixel.0 pixel.1) (point_of camera pixel) (most camera pixel)

-- The same of a judged camera and pixel.
pub updates_limit_judged :
    (camera : Camera) (pixel : Pixel) → (told (undistort_judged camera pixel)).settled.updates ≤ limit camera
updates_limit_judged camera pixel = kept accepted (point_of camera pixel) (most camera pixel)

-- Affine and eucm always settle: an answer of theirs has 0 updates and the flag yes.
pub settled :
    (pixel : Pixel) (s : Settled) (a : AffineParams) (e : EnhancedUnifiedParams)
    → (undistort (Affine a) pixel ≡ Ok s → (s.updates ≡ 0) × (s.flag ≡ true))
    × (undistort (EnhancedUnified e) pixel ≡ Ok s → (s.updates ≡ 0) × (s.flag ≡ true))
settled pixel s a e = (
  λ h. let f = found_own s (judged (Affine a) pixel.0 pixel.1) (point_of (Affine a) pixel) h in
      let t : Undistorted → Settled = λ u. (told u).settled in (sym (ap (λ (u : Undistorted). (t u).updates) f), sym (ap (λ (u : Undistorted). (t u).flag) f)),
  λ h. eucm-laws.settled e pixel s
      (found_own s (judged (EnhancedUnified e) pixel.0 pixel.1) (point_of (EnhancedUnified e) pixel) h),
)
