-- What a caller may rely on, of the definitions of specs/ and of the contracts of src/. Assumes nothing.
use mathlib.Core.Path.{◌≡◌, sym, ap, ◌∙◌}
use mathlib.Core.Bool.{Bool, cond}
use mathlib.Core.List.{List, ◌++◌, append_assoc}
use Prim.Native.Nat.{ℕ, zero, suc, ◌+◌, ◌*◌, ◌≤◌, ◌<◌}
use native.Mathlib.Omega.{arith}
use borrow.Author.Tests.{ne_eqb}
use lib.ListN.{length, take, drop, length-append, length-drop}
use lib.Seq.{length-take-le, take_at, drop_at, drop-append-add, drop-drop}
use Rattle.exact.specs.Determined.{DeterminedWith}
use Rattle.given.proofs.Laws.{both, Untouched}
use Rattle.lens.specs.Undistorted.{told}
use Rattle.lens.specs.declared.Pixel.{Pixel}
use Rattle.camera.specs.Camera.{undistort}
use Rattle.camera.specs.declared.Camera.{Camera}
use Rattle.observations.specs.Observations.{beside}
use Rattle.observations.specs.declared.Observation.{Observation}
use Rattle.camera_bytes.specs.Reading.{read}
use Rattle.observation_bytes.specs.Bytes.{pixel_of, found_bytes, observed_bytes, each, told_code, all_observed, observe_bytes}
use Rattle.observation_bytes.proofs.Pass.{found_length, made, made_length, each_length}
use Rattle.observation_bytes.proofs.observe.Reads as observe-contract

-- Any two numbers that the contract of `observe` permits to one call are equal, and so are any two lists at the return.
pub observe_determined : DeterminedWith observe-contract.Post (λ κ s. s.1.1.0.now)
observe_determined κ a s s' r r' p q = both (p ∙ sym q)

-- A refused call writes nothing: with every number but 0 the list comes back as it was.
pub refused_untouched : (model : ℕ) (params list : List ℕ) → Untouched (observe_bytes model params list) list
unfolding observe_bytes
refused_untouched model params list n = ap (λ (b : Bool). cond b (all_observed (read model params) list) list) (ne_eqb (told_code (read model params) list) 0 n)

-- ---- the records of a list that is taken

module _ (camera : Camera) where
  abbrev find : Pixel → Observation
  find pixel = beside pixel (told (undistort camera pixel))

  record_made : (i n : ℕ) (bs : List ℕ) → i < n → 40 * n ≤ length bs → take 40 (drop (40 * i) (each (made find) n bs)) ≡ made find (take 40 (drop (40 * i) bs))
  unfolding each
  record_made i zero bs h room = absurd (omega (arith, h))
  record_made zero (suc n) bs h room =
      take_at (made find (take 40 bs)) (each (made find) n (drop 40 bs)) 40
      (made_length find (take 40 bs) (length-take-le 40 bs (omega (arith, room))))
  record_made (suc i) (suc n) bs h room =
      let p = made find (take 40 bs) in
      let q = each (made find) n (drop 40 bs) in
      let e : length p ≡ 40 = made_length find (take 40 bs) (length-take-le 40 bs (omega (arith, room))) in
      let far : 40 * suc i ≡ length p + 40 * i = omega (arith, e) in
      let there : 40 + 40 * i ≡ 40 * suc i = omega arith in
      ap (λ (k : ℕ). take 40 (drop k (p ++ q))) far
      ∙ ap (take 40) (drop-append-add p q (40 * i))
      ∙ record_made i n (drop 40 bs) (omega (arith, h)) (omega (arith, room, length-drop 40 bs))
      ∙ ap (λ (l : List ℕ). made find (take 40 l)) (drop-drop (40 * i) 40 bs ∙ ap (λ (k : ℕ). drop k bs) there)

  -- Each record is observed by itself: the one at place i from the one that was there, and no other.
  pub record_at :
      (i n : ℕ) (bs : List ℕ) → i < n → 40 * n ≤ length bs
      → take 40 (drop (40 * i) (each (observed_bytes camera) n bs)) ≡ observed_bytes camera (take 40 (drop (40 * i) bs))
  unfolding observed_bytes
  record_at = record_made

  -- The list keeps its length.
  pub as_long : (n : ℕ) (bs : List ℕ) → 40 * n ≤ length bs → length (each (observed_bytes camera) n bs) ≡ length bs
  unfolding observed_bytes
  as_long = each_length find

  -- Of a record the pixel's 16 bytes and the last six are as they were.
  pub kept : (bs : List ℕ) → length bs ≡ 40 → (take 16 (observed_bytes camera bs) ≡ take 16 bs) × (drop 34 (observed_bytes camera bs) ≡ drop 34 bs)
  unfolding observed_bytes
  kept bs e =
      let o = find (pixel_of bs) in
      let n : length (take 16 bs) ≡ 16 = length-take-le 16 bs (omega (arith, e)) in (
        ap (take 16) (append_assoc (take 16 bs) (found_bytes o) (drop 34 bs)) ∙ take_at (take 16 bs) (found_bytes o ++ drop 34 bs) 16 n,
        drop_at (take 16 bs ++ found_bytes o) (drop 34 bs) 34 (omega (arith, n, found_length o, length-append (take 16 bs) (found_bytes o))),
      )
