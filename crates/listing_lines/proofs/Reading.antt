-- What is guessed of a text and written again: read exactly if the text is the one written. Assumes nothing.
use mathlib.Core.Path.{◌≡◌, refl, sym, ap, ap₂, ◌∙◌}
use mathlib.Core.Bool.{Bool, true, false, ◌&&◌, true≢false}
use mathlib.Core.List.{List}
use Rattle.std.proofs.Common.{Option, Some, None}
use Prim.Native.Nat.{ℕ}
use native.Mathlib.Omega.{arith}
use Rattle.std.specs.Bool.{then_some}
use Rattle.decimal.specs.Text.{same}
use Rattle.decimal.proofs.Bytes.{same_self, same_true}
use Rattle.listing_lines.specs.Read.{read_as}

pub both_true : (a b : Bool) → (a && b) ≡ true → (a ≡ true) × (b ≡ true)
both_true true b e = (refl, e)
both_true false b e = let z : ◌≡◌ {A = ℕ} 0 1 = cc in absurd (omega arith)

module _ {A : Type 0} (fair : A → Bool) (write : A → List ℕ) (guess : A) where
  pub read_again : (text : List ℕ) (x : A) → guess ≡ x → text ≡ write x → fair x ≡ true → read_as fair write guess text ≡ Some x
  read_again text x e f g =
      ap (λ (y : A). then_some (fair y && same text (write y)) y) e
      ∙ ap (λ (t : List ℕ). then_some (fair x && same t (write x)) x) f
      ∙ ap₂ (λ (p q : Bool). then_some (p && q) x) g (same_self (write x))

  by_tests :
      (text : List ℕ) (x : A) (p q : Bool) →
      fair guess ≡ p →
      same text (write guess) ≡ q →
      then_some (p && q) guess ≡ Some x →
      (text ≡ write x) × (fair x ≡ true)
  by_tests text x true true e f g =
      let s : guess ≡ x = cc in
      (same_true text (write guess) f ∙ ap write s, ap fair (sym s) ∙ e)
  by_tests text x true false e f g = cc
  by_tests text x false q e f g = cc

  pub only_read : (text : List ℕ) (x : A) → read_as fair write guess text ≡ Some x → (text ≡ write x) × (fair x ≡ true)
  only_read text x e = by_tests text x (fair guess) (same text (write guess)) refl refl e

-- ---- another guess, which is right where the text is one that is written

module _ {A : Type 0} (fair : A → Bool) (write : A → List ℕ) (read : List ℕ → Option A)
    (again : (x : A) → fair x ≡ true → read (write x) ≡ Some x)
    (only : (text : List ℕ) (x : A) → read text ≡ Some x → (text ≡ write x) × (fair x ≡ true)) where
  by_guess :
      (text : List ℕ) (guess : A) →
      fair guess ≡ true →
      ((x : A) → text ≡ write x → fair x ≡ true → guess ≡ x) →
      (t : Bool) →
      same text (write guess) ≡ t →
      (o : Option A) →
      read text ≡ o →
      then_some t guess ≡ o
  by_guess text guess f right true e o d = sym (again guess f) ∙ ap read (sym (same_true text (write guess) e)) ∙ d
  by_guess text guess f right false e None d = refl
  by_guess text guess f right false e (Some x) d =
      let w = only text x d in
      let g = right x w.0 w.1 in
      absurd (true≢false (sym (ap₂ same w.0 (ap write g) ∙ same_self (write x)) ∙ e))

  pub guessed :
      (text : List ℕ) (guess : A) →
      fair guess ≡ true →
      ((x : A) → text ≡ write x → fair x ≡ true → guess ≡ x) →
      then_some (same text (write guess)) guess ≡ read text
  guessed text guess f right = by_guess text guess f right (same text (write guess)) refl (read text) refl
