-- A line is taken off a text as the program takes it: as many bytes as `line_end` says, from pieces that were read ahead.
-- Assumes nothing.
use mathlib.Core.Path.{◌≡◌, refl, sym, ap, ap₂, ◌∙◌}
use mathlib.Core.Bool.{Bool, true, false, cond}
use mathlib.Core.List.{List, [], ◌∷◌, ◌++◌}
use Prim.Native.Nat.{ℕ, zero, suc, ◌+◌, ◌-◌, ◌≤◌, ◌<◌}
use native.Mathlib.Nat.{zero-add}
use native.Mathlib.Numerals.{add-one}
use native.Mathlib.Omega.{arith}
use borrow.Author.Tests.{eq-eqb, ne_eqb}
use lib.Dec.{eqb}
use lib.ListN.{length, take, drop, get_or, drop_of_length-le}
use lib.Seq.{drop-cons}
use Rattle.listing_lines.specs.Read.{onto}
use Rattle.compare.specs.Judged.{longest, line_end, complete, cut}

-- the first line, and the others behind it
pub first_cut :
    (room b : ℕ) (text : List ℕ) →
    cut (suc room) (b ∷ text) ≡ take (line_end (suc room) (b ∷ text)) (b ∷ text) ∷ cut longest (drop (line_end (suc room) (b ∷ text)) (b ∷ text))
unfolding cut line_end
first_cut zero b text = by_end (eqb b 10)
  where
    by_end : (t : Bool) → (b ∷ []) ∷ cut longest text ≡ take (cond t 1 1) (b ∷ text) ∷ cut longest (drop (cond t 1 1) (b ∷ text))
    by_end true = refl
    by_end false = refl
first_cut (suc room) b [] = by_end (eqb b 10)
  where
    by_end : (t : Bool) → cond t ((b ∷ []) ∷ []) ((b ∷ []) ∷ []) ≡ take (cond t 1 1) (b ∷ []) ∷ cut longest (drop (cond t 1 1) (b ∷ []))
    by_end true = refl
    by_end false = refl
first_cut (suc room) b (c ∷ text) = by_end (eqb b 10) (first_cut room c text)
  where
    by_end :
        (t : Bool) →
        cut (suc room) (c ∷ text) ≡ take (line_end (suc room) (c ∷ text)) (c ∷ text) ∷ cut longest (drop (line_end (suc room) (c ∷ text)) (c ∷ text)) →
        cond t ((b ∷ []) ∷ cut longest (c ∷ text)) (onto b (cut (suc room) (c ∷ text)))
        ≡ take (cond t 1 (suc (line_end (suc room) (c ∷ text)))) (b ∷ c ∷ text)
        ∷ cut longest (drop (cond t 1 (suc (line_end (suc room) (c ∷ text)))) (b ∷ c ∷ text))
    by_end true e = refl
    by_end false e = ap (onto b) e

-- what follows a piece matters only where the line isn't complete
pub more_ahead :
    (room : ℕ) (s t : List ℕ) →
    line_end room (s ++ t) ≡ cond (complete room s) (line_end room s) (length s + line_end (room - length s) t)
unfolding line_end complete
more_ahead zero [] t = refl
more_ahead zero (b ∷ s) t = refl
more_ahead (suc room) [] t =
    let k : suc room ≡ suc room - 0 = omega arith in
    ap (λ (n : ℕ). line_end n t) k ∙ sym (zero-add (line_end (suc room - 0) t))
more_ahead (suc room) (b ∷ s) t = by_end (eqb b 10) (complete room s) (more_ahead room s t)
  where
    by_end :
        (p q : Bool) →
        line_end room (s ++ t) ≡ cond q (line_end room s) (length s + line_end (room - length s) t) →
        cond p 1 (suc (line_end room (s ++ t)))
        ≡ cond (cond p true q) (cond p 1 (suc (line_end room s))) (suc (length s) + line_end (suc room - suc (length s)) t)
    by_end true q e = refl
    by_end false true e = ap suc e
    by_end false false e =
        let d : suc room - suc (length s) ≡ room - length s = omega arith in
        let k : line_end (suc room - suc (length s)) t ≡ line_end (room - length s) t = ap (λ (n : ℕ). line_end n t) d in
        omega (arith, e, k)

-- ---- the loop of `line_end`

pub record Passed (room : ℕ) (text : List ℕ) (i : ℕ) : Type 0 where
  pub inside : i ≤ room
  pub rest : i + line_end (room - i) (drop i text) ≡ line_end room text

pub none_passed : (room : ℕ) (text : List ℕ) → Passed room text 0
none_passed room text = record { inside = omega arith; rest = zero-add (line_end (room - 0) text) ∙ ap (λ (n : ℕ). line_end n text) (omega arith) }

module _ (room : ℕ) (text : List ℕ) (i : ℕ) (p : Passed room text i) where
  pub full : i ≡ room → i ≡ line_end room text
  unfolding line_end
  full e =
      let z : room - i ≡ 0 = omega arith in
      omega (arith, p.rest, ap (λ (n : ℕ). line_end n (drop i text)) z)

  at_byte :
      (k b : ℕ) (t : Bool) → eqb b 10 ≡ t → room - i ≡ suc k → drop i text ≡ b ∷ drop (suc i) text →
      i + cond t 1 (suc (line_end k (drop (suc i) text))) ≡ line_end room text
  unfolding line_end
  at_byte k b t e f g =
      ap (λ (s : Bool). i + cond s 1 (suc (line_end k (drop (suc i) text)))) (sym e)
      ∙ sym (ap₂ (λ (n : ℕ) (l : List ℕ). i + line_end n l) f g)
      ∙ p.rest

  pub ended : i < length text → (i ≡ room → ⊥) → get_or text i 0 ≡ 10 → i + 1 ≡ line_end room text
  ended h ne e =
      let k : room - i ≡ suc (room - i - 1) = omega (arith, ne, p.inside) in
      at_byte (room - i - 1) (get_or text i 0) true (eq-eqb (get_or text i 0) 10 e) k (drop-cons text i 0 h)

  pub one_passed : i < length text → (i ≡ room → ⊥) → (get_or text i 0 ≡ 10 → ⊥) → Passed room text (i + 1)
  one_passed h ne e =
      let k : room - i ≡ suc (room - i - 1) = omega (arith, ne, p.inside) in
      let a : i + suc (line_end (room - i - 1) (drop (suc i) text)) ≡ line_end room text =
      at_byte (room - i - 1) (get_or text i 0) false (ne_eqb (get_or text i 0) 10 e) k (drop-cons text i 0 h) in
      let b : line_end (room - (i + 1)) (drop (i + 1) text) ≡ line_end (room - i - 1) (drop (suc i) text) =
      ap₂ line_end (omega arith) (ap (λ (n : ℕ). drop n text) (add-one i)) in
      record { inside = omega (arith, ne, p.inside); rest = omega (arith, a, b) }

  pub all_passed : i ≤ length text → length text ≤ i → length text ≡ line_end room text
  unfolding line_end
  all_passed l h = ends (room - i) refl
    where
      ends : (k : ℕ) → room - i ≡ k → length text ≡ line_end room text
      ends zero e = omega (arith, p.rest, ap₂ line_end e (drop_of_length-le text h))
      ends (suc k) e = omega (arith, p.rest, ap₂ line_end e (drop_of_length-le text h))
