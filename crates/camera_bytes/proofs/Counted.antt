-- What is asked for, case by case. Assumes nothing.
use mathlib.Core.Path.{◌≡◌, refl, ap, ◌∙◌}
use Rattle.std.specs.declared.result.Result.{Result}
use Rattle.std.specs.declared.result.Result.TheVariants.{Ok, Err}
use mathlib.Core.Bool.{Bool, true, false, cond}
use mathlib.Core.List.{List}
use Prim.Native.Nat.{ℕ, ◌*◌, ◌≤◌, ◌<◌}
use native.Mathlib.Omega.{arith}
use borrow.Author.Tests.{le-leb, lt-leb, eq-eqb, ne_eqb, eqb-true}
use lib.Dec.{eqb, leb}
use lib.ListN.{length}
use Rattle.lens.specs.Judgement.{decided, accepted}
use Rattle.lens.specs.Judgement.{Judgement}
use Rattle.lens.specs.declared.Refusal.{Refusal}
use Rattle.lens.specs.declared.Refusal.TheVariants.{UnknownModel, WrongCount}
use Rattle.camera.specs.Numbers.{last, count}
use Rattle.camera.specs.declared.Camera.{Camera}
use Rattle.camera_bytes.specs.Reading.{camera_of, judged, read}

module _ (model : ℕ) (p : List ℕ) where
  abbrev counted : Bool → Result Camera Refusal
  counted b = cond b (Ok (camera_of model p)) (Err WrongCount)

  abbrev known : Bool → Result Camera Refusal → Result Camera Refusal
  known b asked = cond b asked (Err UnknownModel)

  pub read_camera : model ≤ last → length p ≡ 8 * count model → read model p ≡ Ok (camera_of model p)
  unfolding read
  read_camera h e =
      ap (λ (b : Bool). known b (counted (eqb (length p) (8 * count model)))) (le-leb model last h) ∙ ap counted (eq-eqb (length p) (8 * count model) e)

  pub read_miscounted : model ≤ last → (length p ≡ 8 * count model → ⊥) → read model p ≡ Err WrongCount
  unfolding read
  read_miscounted h e =
      ap (λ (b : Bool). known b (counted (eqb (length p) (8 * count model)))) (le-leb model last h) ∙ ap counted (ne_eqb (length p) (8 * count model) e)

  pub read_unknown : last < model → read model p ≡ Err UnknownModel
  unfolding read
  read_unknown h = ap (λ (b : Bool). known b (counted (eqb (length p) (8 * count model)))) (lt-leb model last h)

  by_tests :
      (a b : Bool) (c : Camera) →
      cond a (cond b (Ok c) (Err WrongCount)) (Err UnknownModel)
      ≡ decided (cond a (cond b accepted (Err WrongCount)) (Err UnknownModel)) Err (Ok c)
  by_tests true true c = refl
  by_tests true false c = refl
  by_tests false b c = refl

  -- what is asked for is the camera, where 1 and 3 do not refuse
  pub read_judged : read model p ≡ decided (judged model p) Err (Ok (camera_of model p))
  unfolding read judged
  read_judged = by_tests (leb model last) (eqb (length p) (8 * count model)) (camera_of model p)

  -- once 1 and 3 are tried
  pub read_refused : {refusal : Refusal} → judged model p ≡ Err refusal → read model p ≡ Err refusal
  read_refused e = read_judged ∙ ap (λ (j : Judgement). decided j Err (Ok (camera_of model p))) e

  pub read_taken : judged model p ≡ accepted → read model p ≡ Ok (camera_of model p)
  read_taken e = read_judged ∙ ap (λ (j : Judgement). decided j Err (Ok (camera_of model p))) e

  pub judged_taken : judged model p ≡ accepted → length p ≡ 8 * count model
  unfolding judged
  judged_taken e = counted_so (leb model last) (eqb (length p) (8 * count model)) refl e
    where
      counted_so :
          (a b : Bool) →
          eqb (length p) (8 * count model) ≡ b →
          cond a (cond b accepted (Err WrongCount)) (Err UnknownModel) ≡ accepted →
          length p ≡ 8 * count model
      counted_so true true f g = eqb-true (length p) (8 * count model) f
      counted_so true false f g = let z : ◌≡◌ {A = ℕ} 0 1 = cc in absurd (omega arith)
      counted_so false b f g = let z : ◌≡◌ {A = ℕ} 0 1 = cc in absurd (omega arith)
