-- What the loop writes is what specs/ says of the list: the rounds it makes, one record of each, and the whole. Assumes nothing.
use mathlib.Core.Path.{◌≡◌, refl, sym, ◌∙◌, subst}
use Rattle.std.specs.declared.result.Result.TheVariants.{Err}
use mathlib.Core.Bool.{Bool, true, false, not, cond, ◌&&◌}
use mathlib.Core.List.{List, [], ◌∷◌, map}
use Prim.Native.Nat.{ℕ, ◌≤◌}
use native.Mathlib.Omega.{arith}
use lib.Dec.{T, eqb, eqb→eq}
use lib.Ieee.Scale.{finite}
use lib.ListN.{length, length-map}
use Rattle.lens.specs.Finite.{all_finite}
use Rattle.lens.specs.Undistorted.{told}
use Rattle.lens.specs.declared.Refusal.TheVariants.{NotFinite, ZeroFocalLength}
use Rattle.lens.specs.Undistorted.{Undistorted}
use Rattle.lens.specs.Judgement.{decided, accepted}
use Rattle.camera.specs.Camera.{parameters, zero_focal, judged, undistort_judged}
use Rattle.lens.specs.Rows.{Row, ◌when◌, first}
use Rattle.camera.specs.declared.Camera.{Camera}
use Rattle.observations.specs.Observations.{beside, observed, refusal_of, observe_all, rounds, seen}
use Rattle.observations.specs.declared.Observation.{Observation}
use Rattle.observations.proofs.Pass.{upto, upto_all}

-- the loop stays within the list
pub rounds_most : (number length : ℕ) → rounds number length ≤ length
rounds_most number length = go (eqb number 0)
  where
    go : (b : Bool) → cond b length 0 ≤ length
    go true = omega arith
    go false = omega arith

-- the camera's number is that of the refusal table, whose rows of a camera are these two
abbrev rows : (finite zero : Bool) → List Row
rows finite zero = (4 when not finite) ∷ (5 when zero) ∷ []

pub refusal_by_rows : (camera : Camera) → refusal_of camera ≡ first (rows (all_finite (parameters camera)) (zero_focal camera))
unfolding refusal_of
refusal_by_rows camera = go (all_finite (parameters camera)) (zero_focal camera)
  where
    go : (f z : Bool) → ◌≡◌ {A = ℕ} (cond f (cond z 5 0) 4) (first (rows f z))
    go true true = refl
    go true false = refl
    go false z = refl

-- a camera that is not refused need not be judged again
pub seen_observed : (camera : Camera) (o : Observation) → refusal_of camera ≡ 0 → seen camera o ≡ observed camera o
unfolding seen observed judged
seen_observed camera o e = go (all_finite (parameters camera)) (zero_focal camera) (finite o.pixel.0 && finite o.pixel.1) (undistort_judged camera o.pixel) (sym (refusal_by_rows camera) ∙ e)
  where
    go : (f z p : Bool) (u : Undistorted) → first (rows f z) ≡ 0
        → beside o.pixel (told (cond p u (Err NotFinite))) ≡ beside o.pixel (told (decided (cond (f && p) (cond z (Err ZeroFocalLength) accepted) (Err NotFinite)) Err u))
    go true false true u e = refl
    go true false false u e = refl
    go true true p u e = absurd (omega (arith, e))
    go false z p u e = absurd (omega (arith, e))

-- the list after so many rounds
pub written : (camera : Camera) (xs : List Observation) → upto (seen camera) (rounds (refusal_of camera) (length xs)) xs ≡ (observe_all camera xs).list
written camera xs = go (eqb (refusal_of camera) 0) (λ e o. seen_observed camera o (eqb→eq (refusal_of camera) 0 (subst T (sym e) tt)))
  where
    go : (b : Bool) → (b ≡ true → (o : Observation) → seen camera o ≡ observed camera o) → upto (seen camera) (cond b (length xs) 0) xs ≡ cond b (map (observed camera) xs) xs
    go true same = upto_all (seen camera) xs ∙ (λ i. map (λ o. same refl o i) xs)
    go false same = refl

-- the list keeps its length
pub as_long : (camera : Camera) (xs : List Observation) → length (observe_all camera xs).list ≡ length xs
as_long camera xs = go (eqb (refusal_of camera) 0)
  where
    go : (b : Bool) → length (cond b (map (observed camera) xs) xs) ≡ length xs
    go true = length-map xs (observed camera)
    go false = refl
