-- What a caller may rely on, of the definitions of specs/ and of the contracts of src/. Assumes nothing.
use Rattle.camera.specs.Camera.{told_jacobian}
use mathlib.Core.Path.{◌≡◌, refl, sym, ap, ap₂, ◌∙◌}
use Rattle.std.specs.declared.result.Result.{Result}
use Rattle.std.specs.declared.result.Result.TheVariants.{Ok}
use Rattle.lens.specs.declared.Refusal.{Refusal}
use mathlib.Core.List.{List, [], ◌∷◌, ◌++◌, append-nil, append_assoc}
use Prim.Native.Nat.{ℕ, ◌*◌, ◌^◌, ◌≤◌, ◌<◌}
use native.Mathlib.Omega.{arith}
use lib.Dec.{T}
use lib.Ieee.{Float, binary64, fits}
use lib.ListN.{length, get_or, take, drop, length-append}
use lib.Seq.{take_all, take_at, drop_at}
use Rattle.exact.specs.Determined.{Determined, DeterminedWith}
use Rattle.little_endian.specs.Bytes.{value, bytes, half, word, float, floats}
use Rattle.little_endian.proofs.Laws.{length_bytes, length_floats, value_bytes, float_at}
use Rattle.lens.specs.Distorted.{told_pixel}
use Rattle.lens.specs.Jacobian.{entries}
use Rattle.lens.specs.Undistorted.{told}
use Rattle.lens.specs.Distorted.{Distorted}
use Rattle.lens.specs.declared.Jacobian.{Jacobian}
use Rattle.lens.specs.declared.Pixel.{Pixel}
use Rattle.lens.specs.declared.Settled.{Settled}
use Rattle.lens.specs.Undistorted.{Undistorted}
use Rattle.camera.specs.Camera.{distort, undistort, dx_distort_x, dx_distort_params}
use Rattle.camera.specs.declared.Camera.{Camera}
use Rattle.given.specs.Given.{Given, given, flag_number}
use Rattle.given.proofs.Laws.{both, Untouched, refused_kept, filled}
use Rattle.camera.specs.Numbers.{last, count}
use Rattle.camera_bytes.specs.Reading.{camera_of, read}
use Rattle.camera_bytes.proofs.Counted.{read_camera}
use Rattle.answer_bytes.specs.Answer.{pixel_bytes, point_bytes, jacobian_bytes, columns_place, jacobian_length}
use Rattle.answer_bytes.specs.Answer.{give_jacobian, given_pixel, given_point, distorted, undistorted, slopes}
use Rattle.answer_bytes.specs.Answer.{parameter_slopes, distort_bytes, undistort_bytes, dx_distort_x_bytes}
use Rattle.answer_bytes.specs.Answer.{dx_distort_params_bytes}
use Rattle.answer_bytes.specs.declared.ToldPixel.{ToldPixel}
use Rattle.answer_bytes.proofs.told_pixel.Reads as told-pixel-contract
use Rattle.answer_bytes.proofs.give_pixel.Reads as give-pixel-contract
use Rattle.answer_bytes.proofs.distort.Reads as distort-contract
use Rattle.answer_bytes.proofs.undistort.Reads as undistort-contract
use Rattle.answer_bytes.proofs.dx_distort_x.Reads as dx-distort-x-contract
use Rattle.answer_bytes.proofs.dx_distort_params.Reads as dx-distort-params-contract

-- ---- each contract permits one answer, and one buffer

-- Any two numbers that a contract permits to one call are equal, and so are any two buffers at the return.
pub determined :
    DeterminedWith distort-contract.Post (λ κ s. s.1.1.1.1.0.now)
    × DeterminedWith undistort-contract.Post (λ κ s. s.1.1.1.1.0.now)
    × DeterminedWith dx-distort-x-contract.Post (λ κ s. s.1.1.1.1.0.now)
    × DeterminedWith dx-distort-params-contract.Post (λ κ s. s.1.1.1.1.0.now)
determined = (
  λ κ a s s' r r' p q. both (p ∙ sym q),
  λ κ a s s' r r' p q. both (p ∙ sym q),
  λ κ a s s' r r' p q. both (p ∙ sym q),
  λ κ a s s' r r' p q. both (p ∙ sym q),
)

abbrev a_told_pixel : ℕ → Pixel → ToldPixel
a_told_pixel number pixel = record { number = number; pixel = pixel }

-- The same of what is told of a pixel, and of a pixel that is handed over.
pub determined_pixel : Determined told-pixel-contract.Post
    × DeterminedWith give-pixel-contract.Post (λ κ s. s.1.0.now)
determined_pixel = (
  λ κ a s s' r r' p q. ap₂ a_told_pixel (p.0 ∙ sym q.0) (p.1 ∙ sym q.1),
  λ κ a s s' r r' p q. both (p ∙ sym q),
)

-- ---- the number and the buffer

-- A refused call writes nothing: whatever is handed in, with every number but 0 the buffer comes back as it was.
pub refused_untouched :
    (model : ℕ) (params lent : List ℕ) (x y : Float) →
    Untouched (distort_bytes model params x y lent) lent
    × Untouched (undistort_bytes model params x y lent) lent
    × Untouched (dx_distort_x_bytes model params x y lent) lent
    × Untouched (dx_distort_params_bytes model params x y lent) lent
unfolding distort_bytes undistort_bytes dx_distort_x_bytes dx_distort_params_bytes
refused_untouched model params lent x y = (
  refused_kept 16 _ _ lent,
  refused_kept 24 _ _ lent,
  refused_kept jacobian_length _ _ lent,
  refused_kept jacobian_length _ _ lent,
)

-- ---- from a camera to its answer in the buffer

module _ (model : ℕ) (params lent : List ℕ) (x y : Float) (known : model ≤ last)
    (counted : length params ≡ 8 * count model) where
  abbrev camera : Camera
  camera = camera_of model params

  is_read : (f : Result Camera Refusal → Given) → f (read model params) ≡ f (Ok camera)
  is_read f = ap f (read_camera model params known counted)

  -- what is given of the camera that is read, where the camera's own answer is known
  by_camera : {D : Type 0} (operation : Result Camera Refusal → D) (give : D → Given) (d : D) → operation (Ok camera) ≡ d
      → give (operation (read model params)) ≡ give d
  by_camera operation give d e = is_read (λ (a : Result Camera Refusal). give (operation a)) ∙ ap give e

  -- Where the camera answers a pixel, 0 is returned, and 16 bytes are the pixel's.
  pub distort_answered :
      (pixel : Pixel) → distort camera record { 0 = x; 1 = y } ≡ Ok pixel → length lent ≡ 16
      → distort_bytes model params x y lent ≡ given 0 (pixel_bytes pixel)
  unfolding distort_bytes
  distort_answered pixel e f =
      by_camera (λ (a : Result Camera Refusal). distorted a record { 0 = x; 1 = y })
      (λ (d : Distorted). given_pixel (told_pixel d) lent) (Ok pixel) e
      ∙ filled 16 0 (pixel_bytes pixel) lent refl f

  -- Where it answers a point, 24 bytes are that, with its updates and flag.
  pub undistort_answered :
      (s : Settled) → undistort camera record { 0 = x; 1 = y } ≡ Ok s → length lent ≡ 24
      → undistort_bytes model params x y lent ≡ given 0 (point_bytes s)
  unfolding undistort_bytes
  undistort_answered s e f =
      by_camera (λ (a : Result Camera Refusal). undistorted a record { 0 = x; 1 = y }) (λ (d : Undistorted). given_point (told d) lent)
      (Ok s) e
      ∙ filled 24 0 (point_bytes s) lent refl f

  -- Where it answers a Jacobian, so many bytes are that, by the point and by the parameters.
  pub dx_distort_x_answered :
      (told_jacobian (dx_distort_x camera record { 0 = x; 1 = y })).number ≡ 0 →
      length lent ≡ jacobian_length →
      dx_distort_x_bytes model params x y lent
      ≡ given 0 (jacobian_bytes (told_jacobian (dx_distort_x camera record { 0 = x; 1 = y })).jacobian)
  unfolding dx_distort_x_bytes
  dx_distort_x_answered e f = is_read (λ (a : Result Camera Refusal). give_jacobian (slopes a record { 0 = x; 1 = y }) lent)
      ∙ filled jacobian_length _ _ lent e f

  pub dx_distort_params_answered :
      (told_jacobian (dx_distort_params camera record { 0 = x; 1 = y })).number ≡ 0 →
      length lent ≡ jacobian_length →
      dx_distort_params_bytes model params x y lent
      ≡ given 0 (jacobian_bytes (told_jacobian (dx_distort_params camera record { 0 = x; 1 = y })).jacobian)
  unfolding dx_distort_params_bytes
  dx_distort_params_answered e f = is_read (λ (a : Result Camera Refusal). give_jacobian
      (parameter_slopes a record { 0 = x; 1 = y }) lent) ∙ filled jacobian_length _ _ lent e f

-- ---- what a caller reads out of an answer's bytes

-- A Jacobian's bytes are 264, of which the last 8 are the columns: so include/lens.h has it.
pub jacobian_places : (columns_place ≡ 256) × (jacobian_length ≡ 264)
jacobian_places = (refl, refl)

floats_read : (xs : List Float) (k : ℕ) (d : Float) → k < length xs → T (fits binary64 (get_or xs k d))
    → float (floats xs) (8 * k) ≡ get_or xs k d
floats_read xs k d h ok = ap (λ (l : List ℕ). float l (8 * k)) (sym (append-nil (floats xs))) ∙ float_at xs k d [] h ok

-- Out of a pixel's, u at 0 and v at 8: the same f64s.
pub pixel_read : (p : Pixel) → T (fits binary64 p.0) → T (fits binary64 p.1) → (float (pixel_bytes p) 0 ≡ p.0)
    × (float (pixel_bytes p) 8 ≡ p.1)
pixel_read p u v = (
  floats_read (p.0 ∷ p.1 ∷ []) 0 p.0 (omega arith) u,
  floats_read (p.0 ∷ p.1 ∷ []) 1 p.0 (omega arith) v,
)

module _ (s : Settled) where
  abbrev numbers : List Float
  numbers = s.point.0 ∷ s.point.1 ∷ []

  abbrev tail : List ℕ
  tail = flag_number s.flag ∷ 0 ∷ 0 ∷ 0 ∷ []

  grouped : point_bytes s ≡ floats numbers ++ (bytes 4 s.updates ++ tail)
  grouped = append_assoc (floats numbers) (bytes 4 s.updates) tail

  -- Out of a point's, x at 0 and y at 8,
  pub point_read :
      T (fits binary64 s.point.0) →
      T (fits binary64 s.point.1) →
      (float (point_bytes s) 0 ≡ s.point.0) × (float (point_bytes s) 8 ≡ s.point.1)
  point_read x y = (
    ap (λ (l : List ℕ). float l 0) grouped ∙ float_at numbers 0 s.point.0 (bytes 4 s.updates ++ tail)
        (omega arith) x,
    ap (λ (l : List ℕ). float l 8) grouped ∙ float_at numbers 1 s.point.0 (bytes 4 s.updates ++ tail)
        (omega arith) y,
  )

  -- the updates at 16,
  pub updates_read : s.updates < 256 ^ 4 → half (point_bytes s) 16 ≡ s.updates
  updates_read h =
      ap (λ (l : List ℕ). half l 16) grouped
      ∙ ap (λ (l : List ℕ). value (take 4 l)) (drop_at (floats numbers) (bytes 4 s.updates ++ tail) 16
      (length_floats numbers))
      ∙ ap value (take_at (bytes 4 s.updates) tail 4 (length_bytes 4 s.updates))
      ∙ value_bytes 4 s.updates h

  -- and from 20 on the flag and three zeros.
  pub flag_read : drop 20 (point_bytes s) ≡ flag_number s.flag ∷ 0 ∷ 0 ∷ 0 ∷ []
  flag_read =
      drop_at (floats numbers ++ bytes 4 s.updates) tail 20
      (omega (
        arith,
        length-append (floats numbers) (bytes 4 s.updates),
        length_floats numbers,
        length_bytes 4 s.updates,
      ))

-- Out of a Jacobian's, its k-th number at 8k, and the count of columns behind them.
pub entry_read :
    (j : Jacobian) (k : ℕ) (d : Float) →
    k < length j.entries →
    T (fits binary64 (get_or j.entries k d)) →
    float (jacobian_bytes j) (8 * k) ≡ get_or j.entries k d
entry_read j k d h ok = float_at j.entries k d (bytes 8 j.columns) h ok

pub columns_read : (j : Jacobian) → length j.entries ≡ entries → j.columns < 256 ^ 8
    → word (jacobian_bytes j) columns_place ≡ j.columns
columns_read j n h =
    ap (λ (l : List ℕ). value (take 8 l)) (drop_at (floats j.entries) (bytes 8 j.columns) columns_place
    (omega (arith, length_floats j.entries, n)))
    ∙ ap value (take_all 8 (bytes 8 j.columns) (omega (arith, length_bytes 8 j.columns)))
    ∙ value_bytes 8 j.columns h
