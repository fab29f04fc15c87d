-- Where the first byte of a kind stands, and what is before and after it. Assumes nothing.
use mathlib.Core.Path.{◌≡◌, refl, sym, ap, ◌∙◌}
use mathlib.Core.Bool.{Bool, true, false, not, cond, true≢false}
use mathlib.Core.List.{List, [], ◌∷◌, ◌++◌}
use Prim.Native.Nat.{ℕ, suc, ◌+◌, ◌≤◌, ◌<◌}
use native.Mathlib.Numerals.{add-one}
use native.Mathlib.Omega.{arith}
use borrow.Author.Tests.{eq-eqb, ne_eqb, eqb-true, not-true}
use lib.Dec.{eqb}
use lib.ListN.{length, get_or, take, drop, drop_of_length-le, length-drop}
use lib.Seq.{drop-cons, take-append_seam, drop-append-add, split_at}
use Rattle.decimal.specs.Text.{all, place, before, past}
use Rattle.decimal.proofs.Bytes.{and_left, and_right, both}

-- ---- passed byte by byte

module _ (b : ℕ) (l : List ℕ) (i : ℕ) where
  pub place_here : i < length l → get_or l i 0 ≡ b → place b l ≡ i + place b (drop i l) → i ≡ place b l
  unfolding place
  place_here h e d =
      let z : place b (drop i l) ≡ 0 = rw (drop-cons l i 0 h) (simp (eq-eqb (get_or l i 0) b e)) in
      omega arith

  pub place_on : i < length l → (get_or l i 0 ≡ b → ⊥) → place b l ≡ i + place b (drop i l) → place b l ≡ i + 1 + place b (drop (i + 1) l)
  unfolding place
  place_on h ne d =
      let z : place b (drop i l) ≡ suc (place b (drop (i + 1) l)) = rw (add-one, drop-cons l i 0 h) (simp (ne_eqb (get_or l i 0) b ne)) in
      omega arith

  pub place_none : length l ≤ i → i ≤ length l → place b l ≡ i + place b (drop i l) → i ≡ place b l
  unfolding place
  place_none h le d =
      let z : place b (drop i l) ≡ 0 = rw (drop_of_length-le l h) refl in
      omega arith

one_within : (t : Bool) {p n : ℕ} → p ≤ n → cond t 0 (suc p) ≤ suc n
one_within true h = omega arith
one_within false h = omega arith

pub place_within : (b : ℕ) (l : List ℕ) → place b l ≤ length l
unfolding place
place_within b [] = omega arith
place_within b (x ∷ l) = one_within (eqb x b) (place_within b l)

-- ---- a field without the byte b, and b after it

abbrev pub lacks : ℕ → ℕ → Bool
lacks b x = not (eqb x b)

pub each : (test other : ℕ → Bool) → ((x : ℕ) → test x ≡ true → other x ≡ true) → (s : List ℕ) → all test s ≡ true → all other s ≡ true
each test other f [] e = refl
each test other f (x ∷ s) e = both (f x (and_left (test x) (all test s) e)) (each test other f s (and_right (test x) (all test s) e))

-- bytes of a kind that b is not of
pub free : (test : ℕ → Bool) (b : ℕ) → test b ≡ false → (s : List ℕ) → all test s ≡ true → all (lacks b) s ≡ true
free test b f = each test (lacks b) (λ x h. ap not (ne_eqb x b (λ e. true≢false (sym h ∙ ap test e ∙ f))))

module _ (b : ℕ) (t : List ℕ) where
  pub place_after : (s : List ℕ) → all (lacks b) s ≡ true → place b (s ++ b ∷ t) ≡ length s
  unfolding place
  place_after [] e = simp (eq-eqb b b refl)
  place_after (x ∷ s) e =
      simp (not-true (eqb x b) (and_left (lacks b x) (all (lacks b) s) e)) (ap suc (place_after s (and_right (lacks b x) (all (lacks b) s) e)))

  pub before_is : (s : List ℕ) → all (lacks b) s ≡ true → before b (s ++ b ∷ t) ≡ s
  unfolding before
  before_is s e = ap (λ (k : ℕ). take k (s ++ b ∷ t)) (place_after s e) ∙ take-append_seam s (b ∷ t)

  pub past_is : (s : List ℕ) → all (lacks b) s ≡ true → past b (s ++ b ∷ t) ≡ t
  unfolding past
  past_is s e = ap (λ (k : ℕ). drop k (s ++ b ∷ t)) (ap suc (place_after s e) ∙ sym (add-one (length s))) ∙ drop-append-add s (b ∷ t) 1

-- ---- what the parts are

place_holds : (b : ℕ) (l : List ℕ) → place b l < length l → get_or l (place b l) 0 ≡ b
unfolding place
place_holds b [] h = absurd (omega arith)
place_holds b (x ∷ l) h = by_test (eqb x b) refl h (place_holds b l)
  where
    by_test : (t : Bool) → eqb x b ≡ t → cond t 0 (suc (place b l)) < suc (length l) → (place b l < length l → get_or l (place b l) 0 ≡ b) → get_or (x ∷ l) (cond t 0 (suc (place b l))) 0 ≡ b
    by_test true e h more = eqb-true x b e
    by_test false e h more = more (omega arith)

-- a text with something after its first b
pub parted : (b : ℕ) (l : List ℕ) → 0 < length (past b l) → l ≡ before b l ++ b ∷ past b l
unfolding past before
parted b l h =
    let within : place b l < length l = omega (arith, length-drop (suc (place b l)) l) in
    split_at l (place b l) 0 within ∙ ap (λ (x : ℕ). take (place b l) l ++ x ∷ drop (suc (place b l)) l) (place_holds b l within)
