-- A record's bytes, read at each place. Assumes nothing.
use Rattle.std.proofs.Common.{◌≡◌, ℕ, zero, suc, ◌+◌, ◌*◌, ◌^◌, ◌<◌, ◌≤◌, Bool, true, false, eqb, List, [], ◌∷◌, ◌++◌, length, get_or, take, drop, replicate, sym, refl, ap, ◌∙◌, ap₂, append_assoc, arith, length-append, drop-drop, take_at, drop_at}
use lib.Ieee.{Float, nan, binary64}
use lib.Ieee.Bits.{of_bits-fits}
use Rattle.exact.specs.F64.{f64}
use Rattle.lens.specs.Constants.{zeros}
use Rattle.lens.specs.Fits.{Fit, AllFit}
use Rattle.little_endian.specs.Bytes.{value, bytes, half, word, float, floats}
use Rattle.little_endian.proofs.Laws.{length_bytes, value_bytes, float_at}
use Rattle.region.specs.Fits.{FourFit}
use Rattle.region.specs.Region.{four}
use Rattle.region.specs.declared.Region.{Region}
use Rattle.camera.specs.Camera.{parameters}
use Rattle.camera.specs.Numbers as numbers
use Rattle.camera.specs.Numbers.{most, count, first_of, model_number, padded}
use Rattle.camera.specs.declared.Camera.{Camera}
use Rattle.camera.proofs.Laws as cameras
use Rattle.camera.proofs.Laws.{parameters_are}
use Rattle.region_bytes.specs.Box.{box_at}
use Rattle.camera_bytes.specs.Reading as reading
use Rattle.camera_bytes.specs.Reading.{camera_of}
use Rattle.camera_bytes.proofs.Patterns.{same_camera}
use Rattle.job.specs.declared.Job.{Job}
use Rattle.job_bytes.specs.Places.{width_place, edges_place, region_place, unsettled_place, mark_place}
use Rattle.job_bytes.specs.Bytes.{mark, camera_part, size_part, boxes, tallies, body, job_at, record_bytes}
use Rattle.job_bytes.proofs.Placing.{length_four, long_camera, to_boxes, to_tallies, last_part}

-- ---- numbers that are f64s

zero_fits : Fit zeros
zero_fits = of_bits-fits binary64 0

fit_at : (xs : List Float) (k : ℕ) (d : Float) → k < length xs → AllFit xs → Fit (get_or xs k d)
fit_at [] k d h f = absurd (omega arith)
fit_at (x ∷ xs) zero d h f = f.0
fit_at (x ∷ xs) (suc k) d h f = fit_at xs k d (omega arith) f.1

padded_fit : (k n : ℕ) (xs : List Float) → AllFit xs → AllFit (take k (xs ++ replicate n zeros))
padded_fit zero n xs f = tt
padded_fit (suc k) zero [] f = tt
padded_fit (suc k) (suc n) [] f = (zero_fits, padded_fit k n [] tt)
padded_fit (suc k) n (x ∷ xs) f = (f.0, padded_fit k n xs f.1)

-- a camera out of any bytes has such parameters
first_fit : (k : ℕ) (n : ℕ → Float) → ((j : ℕ) → Fit (n j)) → AllFit (first_of k n)
first_fit zero n f = tt
first_fit (suc k) n f = (f 0, first_fit k (λ j. n (suc j)) (λ j. f (suc j)))

pub camera_fits : (model : ℕ) (p : List ℕ) → AllFit (parameters (camera_of model p))
unfolding camera_of
camera_fits model p = rw (parameters_are (reading.at p) model) (first_fit (count model) (reading.at p) (λ j. of_bits-fits binary64 _))

-- ---- what stands at a place

pub record Stands (at : ℕ) (part bs : List ℕ) : Type 0 where
  pub rest : List ℕ
  pub is : drop at bs ≡ part ++ rest

-- of two that stand one behind the other, the first, and the second at its own place
first_stands : {at : ℕ} (a b : List ℕ) {bs : List ℕ} → Stands at (a ++ b) bs → Stands at a bs
first_stands a b s = record { rest = b ++ s.rest; is = s.is ∙ append_assoc a b s.rest }

second_stands : (at : ℕ) (a b : List ℕ) {bs : List ℕ} (next : ℕ) → next ≡ at + length a → Stands at (a ++ b) bs → Stands next b bs
second_stands at a b {bs} next e s = record {
  rest = s.rest;
  is =
      ap (λ (k : ℕ). drop k bs) e
      ∙ sym (drop-drop (length a) at bs)
      ∙ ap (drop (length a)) (s.is ∙ append_assoc a b s.rest)
      ∙ drop_at a (b ++ s.rest) (length a) refl;
}

-- ---- a number read where it stands, whatever is behind it

half_first : {w at : ℕ} {bs : List ℕ} → Stands at (bytes 4 w) bs → w < 2 ^ 32 → half bs at ≡ w
half_first {w} s h =
    ap (λ (m : List ℕ). value (take 4 m)) s.is ∙ ap value (take_at (bytes 4 w) s.rest 4 (length_bytes 4 w)) ∙ value_bytes 4 w h

pub word_first : {w at : ℕ} {bs : List ℕ} → Stands at (bytes 8 w) bs → w < 2 ^ 64 → word bs at ≡ w
word_first {w} s h =
    ap (λ (m : List ℕ). value (take 8 m)) s.is ∙ ap value (take_at (bytes 8 w) s.rest 8 (length_bytes 8 w)) ∙ value_bytes 8 w h

-- the k-th of numbers that stand from a place on
float_in :
    (xs : List Float) (l bs : List ℕ) (at k place : ℕ) →
    drop at bs ≡ floats xs ++ l →
    place ≡ at + 8 * k →
    k < length xs →
    AllFit xs →
    float bs place ≡ get_or xs k zeros
float_in xs l bs at k place e p h f =
    ap (λ (j : ℕ). float bs j) p
    ∙ ap (λ (m : List ℕ). f64 (value (take 8 m))) (sym (drop-drop (8 * k) at bs))
    ∙ ap (λ (m : List ℕ). float m (8 * k)) e
    ∙ float_at xs k zeros l h (fit_at xs k zeros h f)

box_back : {at : ℕ} (r : Region) {bs : List ℕ} → Stands at (floats (four r)) bs → FourFit r → box_at bs at ≡ r
box_back {at} r {bs} s f =
    let g : AllFit (four r) = (f.0, (f.1, (f.2, (f.3, tt)))) in
    let e₀ : float bs at ≡ r.left = float_in (four r) s.rest bs at 0 at s.is (omega arith) (omega arith) g in
    let e₁ : float bs (at + 8) ≡ r.top = float_in (four r) s.rest bs at 1 (at + 8) s.is (omega arith) (omega arith) g in
    let e₂ : float bs (at + 16) ≡ r.right = float_in (four r) s.rest bs at 2 (at + 16) s.is (omega arith) (omega arith) g in
    let e₃ : float bs (at + 24) ≡ r.bottom = float_in (four r) s.rest bs at 3 (at + 24) s.is (omega arith) (omega arith) g in
    rw (e₀, e₁, e₂, e₃) refl

-- ---- the camera

camera_back : (camera : Camera) (l : List ℕ) → AllFit (parameters camera) → camera_of (model_number camera) (floats (padded camera) ++ l) ≡ camera
camera_back camera l f = sym (same_camera (model_number camera) (floats (padded camera) ++ l) (padded camera) each) ∙ (cameras.camera_back camera).1
  where
    each : (k : ℕ) → k < most → numbers.at (padded camera) k ≡ float (floats (padded camera) ++ l) (8 * k)
    each k h =
        let within : k < length (padded camera) = omega (arith, h, cameras.padded_length camera) in
        sym (float_at (padded camera) k nan l within (fit_at (padded camera) k nan within (padded_fit most most (parameters camera) f)))

-- ---- the record, part by part

module _ (job : Job) where
  abbrev bs : List ℕ
  bs = record_bytes job

  body_stands : Stands 0 (body job) bs
  unfolding record_bytes
  body_stands = record { rest = last_part job; is = refl }

  -- the four parts
  camera_stands : Stands 0 (camera_part job) bs
  camera_stands =
      first_stands (camera_part job) (size_part job)
      (first_stands (camera_part job ++ size_part job) (boxes job)
      (first_stands (camera_part job ++ size_part job ++ boxes job) (tallies job) body_stands))

  size_stands : Stands width_place (size_part job) bs
  size_stands =
      second_stands 0 (camera_part job) (size_part job) width_place (omega (arith, long_camera job))
      (first_stands (camera_part job ++ size_part job) (boxes job)
      (first_stands (camera_part job ++ size_part job ++ boxes job) (tallies job) body_stands))

  boxes_stand : Stands edges_place (boxes job) bs
  boxes_stand =
      second_stands 0 (camera_part job ++ size_part job) (boxes job) edges_place (omega (arith, to_boxes job))
      (first_stands (camera_part job ++ size_part job ++ boxes job) (tallies job) body_stands)

  tallies_stand : Stands unsettled_place (tallies job) bs
  tallies_stand = second_stands 0 (camera_part job ++ size_part job ++ boxes job) (tallies job) unsettled_place (omega (arith, to_tallies job)) body_stands

  -- three in a row, the first two of four bytes
  module _ (at u v : ℕ) (c : List ℕ) (s : Stands at (bytes 4 u ++ bytes 4 v ++ c) bs) where
    first_of_three : Stands at (bytes 4 u) bs
    first_of_three = first_stands (bytes 4 u) (bytes 4 v) (first_stands (bytes 4 u ++ bytes 4 v) c s)

    second_of_three : Stands (at + 4) (bytes 4 v) bs
    second_of_three =
        second_stands at (bytes 4 u) (bytes 4 v) (at + 4) (omega (arith, length_bytes 4 u)) (first_stands (bytes 4 u ++ bytes 4 v) c s)

    third_of_three : Stands (at + 8) c bs
    third_of_three =
        second_stands at (bytes 4 u ++ bytes 4 v) c (at + 8)
        (omega (arith, length-append (bytes 4 u) (bytes 4 v), length_bytes 4 u, length_bytes 4 v)) s

  abbrev camera_row : Stands 0 (bytes 4 (model_number job.camera) ++ bytes 4 job.at.updates ++ floats (padded job.camera)) bs
  unfolding camera_part
  camera_row = camera_stands

  abbrev size_row : Stands width_place (bytes 4 job.width ++ bytes 4 job.height ++ bytes 8 job.at.done) bs
  unfolding size_part
  size_row = size_stands

  abbrev boxes_row : Stands edges_place (floats (four job.at.edges) ++ floats (four job.at.region)) bs
  unfolding boxes
  boxes_row = boxes_stand

  abbrev tallies_row : Stands unsettled_place (bytes 4 job.at.unsettled ++ bytes 4 job.at.first ++ bytes 8 (mark job.strict)) bs
  unfolding tallies
  tallies_row = tallies_stand

  mark_less : (strict : Bool) → mark strict < 2 ^ 64
  mark_less true = omega arith
  mark_less false = omega arith

  -- the mark, and that it is one
  pub mark_back : word bs mark_place ≡ mark job.strict
  mark_back = word_first (third_of_three unsettled_place job.at.unsettled job.at.first (bytes 8 (mark job.strict)) tallies_row) (mark_less job.strict)

  is_strict : (strict : Bool) → eqb (mark strict) 1 ≡ strict
  is_strict true = refl
  is_strict false = refl

  pub model_back : half bs 0 ≡ model_number job.camera
  model_back =
      half_first (first_of_three 0 (model_number job.camera) job.at.updates (floats (padded job.camera)) camera_row)
      (omega (arith, (cameras.camera_known job.camera).0))

  same_job :
      (camera : Camera) (width height : ℕ) (strict : Bool) (done updates unsettled first : ℕ) (edges region : Region) →
      camera ≡ job.camera →
      width ≡ job.width →
      height ≡ job.height →
      strict ≡ job.strict →
      done ≡ job.at.done →
      updates ≡ job.at.updates →
      unsettled ≡ job.at.unsettled →
      first ≡ job.at.first →
      edges ≡ job.at.edges →
      region ≡ job.at.region →
      ◌≡◌ {A = Job} record {
        camera = camera;
        width = width;
        height = height;
        strict = strict;
        at = record { done = done; edges = edges; region = region; updates = updates; unsettled = unsettled; first = first };
      } job
  same_job camera width height strict done updates unsettled first edges region c w h s d u n f e r = rw (c, w, h, s, d, u, n, f, e, r) refl

  pub job_back :
      AllFit (parameters job.camera) →
      FourFit job.at.edges →
      FourFit job.at.region →
      job.width < 2 ^ 32 →
      job.height < 2 ^ 32 →
      job.at.updates < 2 ^ 32 →
      job.at.unsettled < 2 ^ 32 →
      job.at.first < 2 ^ 32 →
      job.at.done < 2 ^ 64 →
      job_at bs ≡ job
  unfolding job_at
  job_back fp fe fr w h u n f d =
      let model = model_number job.camera in
      let updates = job.at.updates in
      let numbers = floats (padded job.camera) in
      let params = third_of_three 0 model updates numbers camera_row in
      let width = job.width in
      let height = job.height in
      let done = bytes 8 job.at.done in
      let unsettled = job.at.unsettled in
      let first = job.at.first in
      let marked = bytes 8 (mark job.strict) in
      let edges = floats (four job.at.edges) in
      let region = floats (four job.at.region) in
      same_job _ _ _ _ _ _ _ _ _ _
      (ap₂ camera_of model_back params.is ∙ camera_back job.camera params.rest fp)
      (half_first (first_of_three width_place width height done size_row) w)
      (half_first (second_of_three width_place width height done size_row) h)
      (ap (λ (m : ℕ). eqb m 1) mark_back ∙ is_strict job.strict)
      (word_first (third_of_three width_place width height done size_row) d)
      (half_first (second_of_three 0 model updates numbers camera_row) u)
      (half_first (first_of_three unsettled_place unsettled first marked tallies_row) n)
      (half_first (second_of_three unsettled_place unsettled first marked tallies_row) f)
      (box_back job.at.edges (first_stands edges region boxes_row) fe)
      (box_back job.at.region (second_stands edges_place edges region region_place (omega (arith, length_four job.at.edges)) boxes_row) fr)
