-- Texts byte by byte: a test of every byte, and two texts compared. Assumes nothing.
use mathlib.Core.Path.{◌≡◌, refl, sym, ap, ◌∙◌}
use mathlib.Core.Bool.{Bool, true, false, not, ◌&&◌, true≢false, false≢true}
use mathlib.Core.List.{List, [], ◌∷◌, ◌++◌}
use Prim.Native.Nat.{ℕ, ◌+◌, ◌≤◌, ◌<◌}
use native.Mathlib.Numerals.{add-one}
use lib.ListN.{length, get_or, drop, drop_of_length-le}
use lib.Seq.{drop-cons}
use Rattle.std.proofs.lemmas.Slice.Eq.{bytes_eq-Decides}
use Rattle.decimal.specs.Text.{all, same}

-- ---- two tests

pub and_left : (a b : Bool) → (a && b) ≡ true → a ≡ true
and_left true b e = refl
and_left false b e = absurd (false≢true e)

pub and_right : (a b : Bool) → (a && b) ≡ true → b ≡ true
and_right true b e = e
and_right false b e = absurd (false≢true e)

pub both : {a b : Bool} → a ≡ true → b ≡ true → (a && b) ≡ true
both {a} {b} e f = ap (λ (t : Bool). t && b) e ∙ f

-- ---- every byte

module _ (test : ℕ → Bool) (l : List ℕ) (i : ℕ) (h : i < length l) where
  judged : (b : Bool) → b ≡ test (get_or l i 0) → all test (drop i l) ≡ (b && all test (drop (i + 1) l))
  judged b e = rw (e, add-one, drop-cons l i 0) refl

  pub ends : {x : Bool} (b : Bool) → b ≡ test (get_or l i 0) → not b ≡ true → all test (drop i l) ≡ x → false ≡ x
  ends true e n d = absurd (false≢true n)
  ends false e n d = sym (judged false e) ∙ d

  pub goes_on : {x : Bool} (b : Bool) → b ≡ test (get_or l i 0) → not b ≡ false → all test (drop i l) ≡ x → all test (drop (i + 1) l) ≡ x
  goes_on true e n d = sym (judged true e) ∙ d
  goes_on false e n d = absurd (true≢false n)

pub at_end : (test : ℕ → Bool) (l : List ℕ) (i : ℕ) → length l ≤ i → true ≡ all test (drop i l)
at_end test l i h = rw (drop_of_length-le l h) refl

pub all_append : (test : ℕ → Bool) (s t : List ℕ) → all test s ≡ true → all test t ≡ true → all test (s ++ t) ≡ true
all_append test [] t e f = f
all_append test (x ∷ s) t e f = both (and_left (test x) (all test s) e) (all_append test s t (and_right (test x) (all test s) e) f)

-- ---- two texts

pub same_self : (s : List ℕ) → same s s ≡ true
same_self s = (bytes_eq-Decides s s).1 refl

pub same_true : (s t : List ℕ) → same s t ≡ true → s ≡ t
same_true s t e = (bytes_eq-Decides s t).0 e
