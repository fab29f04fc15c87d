-- From the parts of a call to what it gives back. Assumes nothing.
use mathlib.Core.Path.{◌≡◌, refl, sym, ap, ap₂, ◌∙◌}
use Rattle.std.specs.declared.result.Result.{Result}
use Rattle.std.specs.declared.result.Result.TheVariants.{Ok, Err}
use mathlib.Core.Bool.{Bool, true, false, cond}
use mathlib.Core.List.{List, ◌++◌}
use Prim.Native.Nat.{ℕ, zero, suc, ◌*◌, ◌/◌, ◌%◌, ◌≤◌}
use native.Mathlib.Omega.{arith}
use borrow.Author.Tests.{eqb-true}
use lib.Dec.{eqb}
use lib.ListN.{length, take, drop}
use Rattle.given.specs.Given.{given, code}
use Rattle.given.proofs.Giving.{zero_told}
use Rattle.lens.specs.Refusal.{number}
use Rattle.lens.specs.declared.Refusal.{Refusal}
use Rattle.camera.specs.declared.Camera.{Camera}
use Rattle.observations.specs.Observations.{refusal_of, seen, observed}
use Rattle.observations.specs.declared.Observation.{Observation}
use Rattle.observations.proofs.Laws.{seen_observed}
use Rattle.observation_bytes.specs.Bytes.{pixel_of, with_found, observed_bytes, each, told_code, observed_by}
use Rattle.observation_bytes.specs.Parts.{blank, seen_bytes, rounds}

-- no more records than there are
pub rounds_most : (code length : ℕ) → 40 * rounds code length ≤ length
rounds_most code length = go (eqb code 0)
  where
    go : (b : Bool) → 40 * cond b (length / 40) 0 ≤ length
    go true = omega arith
    go false = omega arith

-- by a camera that is not refused
module _ (camera : Camera) (fine : refusal_of camera ≡ 0) where
  same : (bs : List ℕ) → seen_bytes camera bs ≡ observed_bytes camera bs
  unfolding observed_bytes observed
  same bs = ap (with_found bs) (seen_observed camera (blank (pixel_of bs)) fine)

  each_same : (n : ℕ) (bs : List ℕ) → each (seen_bytes camera) n bs ≡ each (observed_bytes camera) n bs
  unfolding each
  each_same zero bs = refl
  each_same (suc n) bs = ap₂ (λ (a b : List ℕ). a ++ b) (same (take 40 bs)) (each_same n (drop 40 bs))

-- a camera was read
pub by_camera :
    (camera : Camera) (list after : List ℕ) (asked : Result Camera Refusal) (r : ℕ) →
    asked ≡ Ok camera →
    r ≡ code (refusal_of camera) (eqb (length list % 40) 0) →
    after ≡ each (seen_bytes camera) (rounds r (length list)) list →
    given r after ≡ observed_by asked list
unfolding each
by_camera camera list after asked r a e f =
    ap₂ given refl f
    ∙ ap (λ (n : ℕ). given n (each (seen_bytes camera) (rounds n (length list)) list)) e
    ∙ ap (given (told_code (Ok camera) list)) (go (eqb (told_code (Ok camera) list) 0) refl)
    ∙ ap (λ (q : Result Camera Refusal). observed_by q list) (sym a)
  where
    go : (b : Bool) → eqb (told_code (Ok camera) list) 0 ≡ b → each (seen_bytes camera) (cond b (length list / 40) 0) list ≡ cond b (each (observed_bytes camera) (length list / 40) list) list
    go true z = each_same camera (zero_told (refusal_of camera) (eqb (length list % 40) 0) (eqb-true (told_code (Ok camera) list) 0 z)).0 (length list / 40) list
    go false z = refl

-- none was
pub by_none : (r : Refusal) (list : List ℕ) (asked : Result Camera Refusal) (n : ℕ) → asked ≡ Err r → n ≡ code (number r) (eqb (length list % 40) 0) → given n list ≡ observed_by asked list
by_none r list asked n a e =
    ap (λ (k : ℕ). given k list) e
    ∙ ap (given (told_code (Err r) list)) (go (eqb (told_code (Err r) list) 0))
    ∙ ap (λ (q : Result Camera Refusal). observed_by q list) (sym a)
  where
    go : (b : Bool) → list ≡ cond b list list
    go true = refl
    go false = refl
