-- What a camera tells of a call, put together from what is judged before, the model's answer, and what is judged behind. Assumes nothing.
use mathlib.Core.Path.{◌≡◌, refl, sym, ap, ◌∙◌, subst}
use Rattle.std.specs.declared.result.Result.TheVariants.{Ok, Err}
use Rattle.std.specs.declared.option.Option.{Option}
use Rattle.std.specs.declared.option.Option.TheVariants.{Some, None}
use mathlib.Core.Bool.{Bool, true, false, not, cond, ◌&&◌}
use mathlib.Core.List.{[], ◌∷◌}
use mathlib.Core.Logic.{◌⊎◌, inl, inr}
use Prim.Native.Nat.{ℕ, ◌≤◌}
use native.Mathlib.Omega.{arith}
use lib.Ieee.{Float, le}
use lib.Ieee.Scale.{finite}
use Rattle.root.specs.Root.{root}
use Rattle.arctan.specs.Tangent.{tangent}
use Rattle.lens.specs.Constants.{zeros, eps}
use Rattle.lens.specs.Finite.{all_finite}
use Rattle.lens.specs.Judgement.{decided, accepted}
use Rattle.lens.specs.Refusal.{number}
use Rattle.lens.specs.Rows.{◌when◌, first}
use Rattle.lens.specs.Undistorted.{told}
use Rattle.lens.specs.declared.Jacobian.{Jacobian}
use Rattle.lens.specs.declared.Pixel.{Pixel}
use Rattle.lens.specs.declared.Point.{Point}
use Rattle.lens.specs.declared.Refusal.{Refusal}
use Rattle.lens.specs.declared.Refusal.TheVariants.{NotFinite, ZeroFocalLength, AnswerNotFinite, RayNotForward}
use Rattle.lens.specs.declared.Settled.{Settled}
use Rattle.lens.specs.Undistorted.{Undistorted}
use Rattle.lens.proofs.Laws.{number_within}
use Rattle.enhanced_unified.specs.EnhancedUnified as eucm
use Rattle.kannala_brandt.specs.KannalaBrandt as kb
use Rattle.kannala_brandt.proofs.Laws as kb-laws
use Rattle.brown_conrady.proofs.Laws as bc-laws
use Rattle.thin_prism.proofs.Laws as bc12-laws
use Rattle.kannala_brandt.specs.declared.Reached.{Reached}
use Rattle.camera.specs.Camera.{told_jacobian, Differentiated}
use Rattle.camera.specs.Camera.{parameters, zero_focal, judged, point_of, point_before, finite_point, limit, finite_jacobian}
use Rattle.camera.specs.Rows.{not_finite, steep, too_steep, mirrored, point_not_finite}
use Rattle.lens.specs.Distorted.{told_pixel}
use Rattle.camera.specs.declared.Camera.{Camera}
use Rattle.camera.specs.declared.Camera.TheVariants.{Affine, EnhancedUnified, KannalaBrandt, BrownConrady, ThinPrism}
use Rattle.lens.specs.Judgement.{Judgement}
use Rattle.lens.specs.Distorted.{Distorted}

-- ---- the number told

-- before: g says that all is finite, z that a focal length is zero; n is the number behind
pub before : {A : Type 0} (say : A → ℕ) (refuse : Refusal → A) (answer : A) {n : ℕ} → ((r : Refusal) → say (refuse r) ≡ number r) → say answer ≡ n
    → (g z : Bool) → say (decided (cond g (cond z (Err ZeroFocalLength) accepted) (Err NotFinite)) refuse answer) ≡ cond (not g) 4 (cond z 5 n)
before say refuse answer r e false z = r NotFinite
before say refuse answer r e true true = r ZeroFocalLength
before say refuse answer r e true false = e

-- behind: f says that the answer is finite
pub behind : {A : Type 0} (say : A → ℕ) (answer refusal : A) → say answer ≡ 0 → say refusal ≡ 11 → (f : Bool) → say (cond f answer refusal) ≡ first ((11 when not f) ∷ [])
behind say answer refusal a r true = a
behind say answer refusal a r false = r

abbrev pub given : Camera → Float → Float → Bool
given camera x y = all_finite (parameters camera) && (finite x && finite y)

abbrev pub pixel_number : Distorted → ℕ
pixel_number d = (told_pixel d).number

abbrev pub point_number : Undistorted → ℕ
point_number u = (told u).number

-- what the model finds, v that it found before request P6, b that it found no tangent and m that its ray isn't forward, say the same
abbrev Agree : Undistorted → Undistorted → Bool → Bool → Type 0
Agree (Ok s) v b m = (b ≡ false) × (m ≡ false) × (v ≡ Ok s)
Agree (Err r) v b m = ((number r ≡ 10) × (b ≡ true)) ⊎ ((number r ≡ 16) × (b ≡ false) × (m ≡ true))

pub answer_number : (u v : Undistorted) (b m : Bool) → Agree u v b m → point_number (finite_point u) ≡ first ((10 when b) ∷ (16 when m) ∷ (11 when point_not_finite v) ∷ [])
answer_number (Ok s) v b m e = rw (e.0, e.1, e.2) (behind point_number (Ok s) (Err AnswerNotFinite) refl refl (finite s.point.0 && finite s.point.1))
answer_number (Err r) v b m (inl e) = rw e.1 e.0
answer_number (Err r) v b m (inr e) = rw (e.1, e.2) e.0

eucm_agree : (m : Bool) (s : Settled) → Agree (cond m (Err RayNotForward) (Ok s)) (Ok s) false m
eucm_agree true s = inr (refl, refl, refl)
eucm_agree false s = (refl, refl, refl)

kb_agree : (near : Bool) (slope : Option Float) (point : Settled) (at : Reached) (rth un vn : Float) → Agree (cond near (Ok point) (kb.outward slope at rth un vn)) (cond near (Ok point) (kb.outward slope at rth un vn)) (not near && steep slope) false
kb_agree true slope point at rth un vn = (refl, refl, refl)
kb_agree false (Some t) point at rth un vn = (refl, refl, refl)
kb_agree false None point at rth un vn = inl (refl, refl)

pub agree : (camera : Camera) (pixel : Pixel) → Agree (point_of camera pixel) (point_before camera pixel) (too_steep camera pixel) (mirrored camera pixel)
agree (Affine p) pixel = (refl, refl, refl)
agree (EnhancedUnified p) pixel = eucm_agree (le (eucm.ray_z p pixel) zeros) (eucm.undistort_before p pixel)
agree (KannalaBrandt p) pixel = kb_agree (le (kb.rth2 p pixel) eps) (tangent (kb.newton p (root (kb.rth2 p pixel))).th) _ _ _ _ _
agree (BrownConrady p) pixel = (refl, refl, refl)
agree (ThinPrism p) pixel = (refl, refl, refl)

-- what a model refuses by itself
pub own_refusal : (camera : Camera) (pixel : Pixel) (r : Refusal) → point_of camera pixel ≡ Err r → (number r ≡ 10) ⊎ (number r ≡ 16)
own_refusal camera pixel r e = go (subst (λ (u : Undistorted). Agree u (point_before camera pixel) (too_steep camera pixel) (mirrored camera pixel)) e (agree camera pixel))
  where
    go : Agree (Err r) (point_before camera pixel) (too_steep camera pixel) (mirrored camera pixel) → (number r ≡ 10) ⊎ (number r ≡ 16)
    go (inl e) = inl e.0
    go (inr e) = inr e.0

abbrev pub slope_number : Differentiated → ℕ
slope_number d = (told_jacobian d).number

-- a Jacobian at a point
pub jacobian_number : (camera : Camera) (point : Point) (j : Jacobian)
    → slope_number (decided (judged camera point.0 point.1) Err (finite_jacobian j)) ≡ first ((4 when not_finite camera point.0 point.1) ∷ (5 when zero_focal camera) ∷ (11 when not (all_finite j.entries)) ∷ [])
unfolding judged
jacobian_number camera point j =
    let answer = behind slope_number (Ok j) (Err AnswerNotFinite) refl refl (all_finite j.entries) in
    before slope_number Err (finite_jacobian j) (λ r. refl) answer (given camera point.0 point.1) (zero_focal camera)

-- ---- an answer

pub none : (r : Refusal) → number r ≡ 0 → ⊥
none r e = omega (arith, number_within r)

pub distort_own : (j : Judgement) (f : Bool) (pixel : Pixel) → pixel_number (decided j Err (cond f (Ok pixel) (Err AnswerNotFinite))) ≡ 0 → decided j Err (cond f (Ok pixel) (Err AnswerNotFinite)) ≡ Ok pixel
distort_own (Err r) f pixel e = absurd (none r e)
distort_own (Ok _) true pixel e = refl
distort_own (Ok _) false pixel e = absurd (none AnswerNotFinite e)

point_own : (u : Undistorted) → point_number (finite_point u) ≡ 0 → finite_point u ≡ u
point_own (Ok s) e = go (finite s.point.0 && finite s.point.1) e
  where
    go : (f : Bool) → point_number (cond f (Ok s) (Err AnswerNotFinite)) ≡ 0 → cond f (Ok s) (Err AnswerNotFinite) ≡ Ok s
    go true e = refl
    go false e = absurd (none AnswerNotFinite e)
point_own (Err r) e = refl

pub undistort_own : (j : Judgement) (u : Undistorted) → point_number (decided j Err (finite_point u)) ≡ 0 → decided j Err (finite_point u) ≡ u
undistort_own (Err r) u e = absurd (none r e)
undistort_own (Ok _) u e = point_own u e

pub jacobian_own : (v : Judgement) (f : Bool) (j : Jacobian) → slope_number (decided v Err (cond f (Ok j) (Err AnswerNotFinite))) ≡ 0 → (told_jacobian (decided v Err (cond f (Ok j) (Err AnswerNotFinite)))).jacobian ≡ j
jacobian_own (Err r) f j e = absurd (none r e)
jacobian_own (Ok _) true j e = refl
jacobian_own (Ok _) false j e = absurd (none AnswerNotFinite e)

-- a Jacobian that is given is finite
pub jacobian_finite : (v : Judgement) (j : Jacobian) → slope_number (decided v Err (finite_jacobian j)) ≡ 0 → all_finite (told_jacobian (decided v Err (finite_jacobian j))).jacobian.entries ≡ true
jacobian_finite (Err r) j e = absurd (none r e)
jacobian_finite (Ok _) j e = go (all_finite j.entries) refl e
  where
    go : (f : Bool) → all_finite j.entries ≡ f → slope_number (cond f (Ok j) (Err AnswerNotFinite)) ≡ 0 → all_finite (told_jacobian (cond f (Ok j) (Err AnswerNotFinite))).jacobian.entries ≡ true
    go true g e = g
    go false g e = absurd (none AnswerNotFinite e)

-- ---- updates and flag

-- no more than the model made
pub kept : (j : Judgement) (u : Undistorted) {n : ℕ} → (told u).settled.updates ≤ n → (told (decided j Err (finite_point u))).settled.updates ≤ n
kept (Err r) u h = omega arith
kept (Ok _) (Err r) h = h
kept (Ok _) (Ok s) {n} h = go (finite s.point.0 && finite s.point.1)
  where
    go : (f : Bool) → (told (cond f (Ok s) (Err AnswerNotFinite))).settled.updates ≤ n
    go true = h
    go false = omega arith

eucm_most : (m : Bool) (s : Settled) → s.updates ≡ 0 → (told (cond m (Err RayNotForward) (Ok s))).settled.updates ≤ 0
eucm_most true s e = omega arith
eucm_most false s e = omega arith

pub most : (camera : Camera) (pixel : Pixel) → (told (point_of camera pixel)).settled.updates ≤ limit camera
most (Affine p) pixel = omega arith
most (EnhancedUnified p) pixel = eucm_most (le (eucm.ray_z p pixel) zeros) (eucm.undistort_before p pixel) refl
most (KannalaBrandt p) pixel = kb-laws.updates_limit p pixel tangent
most (BrownConrady p) pixel = bc-laws.updates_limit p pixel
most (ThinPrism p) pixel = bc12-laws.updates_limit p pixel

-- what a camera answers, its model found
pub found_own : (s : Settled) (j : Judgement) (u : Undistorted) → decided j Err (finite_point u) ≡ Ok s → u ≡ Ok s
found_own s j u e = sym (undistort_own j u (ap point_number e)) ∙ e

-- ---- before request P6

-- a model that refuses nothing with 16 is as it was
pub as_before : (camera : Camera) (pixel : Pixel) → (point_number (finite_point (point_of camera pixel)) ≡ 16 → ⊥) → point_of camera pixel ≡ point_before camera pixel
as_before (Affine p) pixel n = refl
as_before (EnhancedUnified p) pixel n = go (le (eucm.ray_z p pixel) zeros) n
  where
    go : (m : Bool) → (point_number (finite_point (cond m (Err RayNotForward) (Ok (eucm.undistort_before p pixel)))) ≡ 16 → ⊥)
        → cond m (Err RayNotForward) (Ok (eucm.undistort_before p pixel)) ≡ Ok (eucm.undistort_before p pixel)
    go true n = absurd (n refl)
    go false n = refl
as_before (KannalaBrandt p) pixel n = refl
as_before (BrownConrady p) pixel n = refl
as_before (ThinPrism p) pixel n = refl

pub undistort_as_before : (j : Judgement) (u v : Undistorted) → ((point_number (finite_point u) ≡ 16 → ⊥) → u ≡ v)
    → (point_number (decided j Err (finite_point u)) ≡ 16 → ⊥) → decided j Err (finite_point u) ≡ decided j Err (finite_point v)
undistort_as_before (Err r) u v f n = refl
undistort_as_before (Ok _) u v f n = ap finite_point (f n)
