-- What a caller may rely on, of the definitions of specs/ and of the contract of src/. Assumes nothing.
use mathlib.Core.Path.{◌≡◌, refl, sym, ap, ◌∙◌}
use Rattle.std.specs.declared.result.Result.TheVariants.{Ok, Err}
use mathlib.Core.Bool.{Bool, true, false, not, cond}
use mathlib.Core.List.{List, [], ◌∷◌, map}
use Prim.Native.Nat.{ℕ}
use lib.Dec.{eqb}
use lib.ListN.{length, get_or, get_or-map}
use seplogic.Ra.Ura.{Ura}
use base.Logic.{SProp}
use prog.Memory.{Memory}
use prog.Routine.{Routine}
use types.Logic.{Logic}
use contract.Lifetimes.{Lfts}
use contract.Monad.{Fun, fact}
use denote.Triple.Clauses.{AtExit}
use denote.Triple.Entry.{Args, Res}
use borrow.Author.Tests.{eq-eqb, ne_eqb}
use Rattle.exact.specs.Determined.{Determined, DeterminedWith}
use Rattle.lens.specs.Constants.{zeros}
use Rattle.lens.specs.Finite.{all_finite}
use Rattle.lens.specs.Refusal.{number}
use Rattle.lens.specs.Undistorted.{told}
use Rattle.lens.specs.declared.Pixel.{Pixel}
use Rattle.lens.specs.declared.Refusal.{Refusal}
use Rattle.lens.specs.declared.Settled.{Settled}
use Rattle.lens.specs.Undistorted.{Undistorted}
use Rattle.camera.specs.Camera.{parameters, zero_focal, undistort}
use Rattle.camera.specs.Rows.{undistort_rows}
use Rattle.lens.specs.Rows.{◌when◌, first}
use Rattle.camera.specs.declared.Camera.{Camera}
use Rattle.camera.proofs.Laws.{undistort_number}
use Rattle.observations.specs.Observations.{beside, observed, refusal_of, Listed, listed, observe_all, seen}
use Rattle.observations.specs.declared.Observation.{Observation}
use Rattle.observations.proofs.Written as loop
use Rattle.observations.specs.contracts.observe_all as observe-all-contract
use Rattle.observations.proofs.refusal_of.Reads as refusal-of-contract
use Rattle.observations.proofs.seen.Reads as seen-contract

-- ---- the contract permits one answer, and one list

-- what the contract says of an answer r, with a the arguments as they are passed and s as they are at the return
abbrev Post : (κ : Lfts 1) → Args observe-all-contract.signature κ → Res observe-all-contract.signature κ → AtExit observe-all-contract.ended κ → Type 0
Post κ a r s = listed r s.1.0.now ≡ observe_all a.0 a.1.0.now

-- `Post` is the contract's own: it is held to the clause here.
pub post_is :
    {M :
    Type 1} {𝓤 : Ura M} (𝓛 : Logic 𝓤) (mem : Memory → SProp 𝓤) (run : Routine
    → Fun 𝓤) (κ : Lfts 1) (a : Args observe-all-contract.signature κ) (r : Res observe-all-contract.signature κ) (s : AtExit observe-all-contract.ended κ)
    → (observe-all-contract.clauses 𝓛 mem run κ a).ensures tt r s ≡ fact 𝓤 (Post κ a r s)
post_is 𝓛 mem run κ a r s = refl

-- Any two numbers that the contract permits to one call are equal, and so are any two lists that it permits at the return.
pub observe_all_determined : DeterminedWith Post (λ κ s. s.1.0.now)
observe_all_determined κ a s s' r r' p q = (ap (λ (l : Listed). l.number) (p ∙ sym q), ap (λ (l : Listed). l.list) (p ∙ sym q))

-- Any two answers that the contracts of `refusal_of` and `seen` permit to one call are equal.
pub parts_determined : Determined refusal-of-contract.Post × Determined seen-contract.Post
parts_determined = (λ κ a s s' r r' p q. p ∙ sym q, λ κ a s s' r r' p q. p ∙ sym q)

-- A camera with the number 0 need not be judged again: a record that is only seen is observed.
pub seen_observed : (camera : Camera) (o : Observation) → refusal_of camera ≡ 0 → seen camera o ≡ observed camera o
seen_observed = loop.seen_observed

-- ---- the list

-- The number returned is 4 if a parameter isn't finite, else 5 if fx or fy is zero, else 0.
pub observe_all_number :
    (camera : Camera) (list : List Observation)
    → (observe_all camera list).number ≡ first ((4 when not (all_finite (parameters camera))) ∷ (5 when zero_focal camera) ∷ [])
observe_all_number camera list = loop.refusal_by_rows camera

-- A refused camera leaves the list as it was.
pub refused_camera : (camera : Camera) (list : List Observation) → ((observe_all camera list).number ≡ 0 → ⊥) → (observe_all camera list).list ≡ list
refused_camera camera list h = rw (ne_eqb (refusal_of camera) 0 h) refl

-- Any other has every record observed: the one at place i from the one that was there, and no other.
pub taken_camera :
    (camera : Camera) (list : List Observation) → (observe_all camera list).number ≡ 0 → (i : ℕ) (d : Observation)
    → get_or (observe_all camera list).list i (observed camera d) ≡ observed camera (get_or list i d)
taken_camera camera list e i d = rw (eq-eqb (refusal_of camera) 0 e) (get_or-map (observed camera) list i d)

-- The list keeps its length, whatever the camera.
pub list_as_long : (camera : Camera) (list : List Observation) → length (observe_all camera list).list ≡ length list
list_as_long = loop.as_long

abbrev pixels : List Observation → List Pixel
pixels = map (λ (o : Observation). o.pixel)

observed_pixels : (camera : Camera) (list : List Observation) → pixels (map (observed camera) list) ≡ pixels list
unfolding observed
observed_pixels camera [] = refl
observed_pixels camera (o ∷ rest) = ap (λ (ps : List Pixel). o.pixel ∷ ps) (observed_pixels camera rest)

-- No pixel is ever changed, whatever the camera.
pub pixels_kept : (camera : Camera) (list : List Observation) → pixels (observe_all camera list).list ≡ pixels list
pixels_kept camera list = go (eqb (refusal_of camera) 0)
  where
    go : (b : Bool) → pixels (cond b (map (observed camera) list) list) ≡ pixels list
    go true = observed_pixels camera list
    go false = refl

-- ---- one record

-- Nothing of a record is read but its pixel: what it held before has no say in what it holds after.
pub only_pixel_read : (camera : Camera) (o o' : Observation) → o.pixel ≡ o'.pixel → observed camera o ≡ observed camera o'
unfolding observed
only_pixel_read camera o o' e = ap (λ (p : Pixel). beside p (told (undistort camera p))) e

-- Where `undistort` answers, the record has the number 0, the point and the flag.
pub answered_record :
    (camera : Camera) (o : Observation) (s : Settled) → undistort camera o.pixel ≡ Ok s
    → observed camera o ≡ record { pixel = o.pixel; answer = s.point; flag = s.flag; number = 0 }
unfolding observed
answered_record camera o s e = ap (λ (u : Undistorted). beside o.pixel (told u)) e

-- Where it refuses, the record has the refusal's number, zeros, and the flag no.
pub refused_record :
    (camera : Camera) (o : Observation) (r : Refusal) → undistort camera o.pixel ≡ Err r
    → observed camera o ≡ record { pixel = o.pixel; answer = record { 0 = zeros; 1 = zeros }; flag = false; number = number r }
unfolding observed
refused_record camera o r e = ap (λ (u : Undistorted). beside o.pixel (told u)) e

-- A record with another number than 0 has zeros for its answer, and the flag no.
pub blank_unless_0 :
    (camera : Camera) (o : Observation) → ((observed camera o).number ≡ 0 → ⊥)
    → ((observed camera o).answer ≡ record { 0 = zeros; 1 = zeros }) × ((observed camera o).flag ≡ false)
unfolding observed
blank_unless_0 camera o = go (undistort camera o.pixel)
  where
    go : (u : Undistorted) → ((told u).number ≡ 0 → ⊥) → ((told u).settled.point ≡ record { 0 = zeros; 1 = zeros }) × ((told u).settled.flag ≡ false)
    go (Ok s) h = absurd (h refl)
    go (Err r) h = (refl, refl)

-- A record's number is the one that the refusal table gives: 4, 5, 10, 16 or 11, the first whose row holds, or 0.
pub record_number : (camera : Camera) (o : Observation) → (observed camera o).number ≡ first (undistort_rows camera o.pixel)
unfolding observed
record_number camera o = undistort_number camera o.pixel
