-- Of any formula: what is alike is sent alike where nothing divides, and a reading is finite only where all that it is worked out of is. Assumes nothing.
use mathlib.Core.List.{List, [], ◌∷◌, ◌++◌, map}
use Prim.Native.Nat.{ℕ}
use lib.Dec.{T}
use lib.IntN.{pos}
use lib.Ieee.{Float, binary64, of_int}
use lib.Ieee.Fits.{and_i, and_l, and_r}
use lib.Ieee.Scale.{finite}
use Rattle.exact.specs.Alike.{◌≐◌}
use Rattle.exact.proofs.Alike.{its, ≐-minus, ◌⟨⊕⟩◌, ◌⟨⊖⟩◌, ◌⟨⊗⟩◌}
use Rattle.exact.proofs.Operations.{sum_finite, minus_finite, difference_finite, product_finite, quotient_finite}
use Rattle.formula.specs.Term.{Term, variable, numeral, minus, ◌⊕◌, ◌⊖◌, ◌⊗◌, ◌⊘◌, rounded, denominators}
use Rattle.lens.specs.Finite.{all_finite}
use Rattle.short_brown_conrady.specs.Path.{numbers, all_numbers}

-- ---- lists

pub joined : (xs ys : List Float) → T (all_finite xs) → T (all_finite ys) → T (all_finite (xs ++ ys))
unfolding all_finite
joined [] ys p q = q
joined (x ∷ xs) ys p q = and_i (finite x) (all_finite (xs ++ ys)) (and_l (finite x) (all_finite xs) p) (joined xs ys (and_r (finite x) (all_finite xs) p) q)

-- ---- read at what is alike

abbrev None : List Term → Type 0
None [] = Unit {0}
None (t ∷ ts) = ⊥

none_left : (xs ys : List Term) → None (xs ++ ys) → None xs
none_left [] ys h = tt
none_left (x ∷ xs) ys h = h

none_right : (xs ys : List Term) → None (xs ++ ys) → None ys
none_right [] ys h = h
none_right (x ∷ xs) ys h = absurd h

module _ (ρ σ : ℕ → Float) (h : (n : ℕ) → ρ n ≐ σ n) where
  pub kept : (t : Term) → None (denominators t) → rounded ρ t ≐ rounded σ t
  unfolding rounded denominators
  kept (variable n) e = h n
  kept (numeral n) e = its (of_int binary64 (pos n))
  kept (minus a) e = ≐-minus (kept a e)
  kept (a ⊕ b) e = kept a (none_left (denominators a) (denominators b) e) ⟨⊕⟩ kept b (none_right (denominators a) (denominators b) e)
  kept (a ⊖ b) e = kept a (none_left (denominators a) (denominators b) e) ⟨⊖⟩ kept b (none_right (denominators a) (denominators b) e)
  kept (a ⊗ b) e = kept a (none_left (denominators a) (denominators b) e) ⟨⊗⟩ kept b (none_right (denominators a) (denominators b) e)
  kept (a ⊘ b) e = absurd (none_right (denominators a ++ denominators b) (b ∷ []) e)

-- ---- the numbers of a reading

module _ (ρ : ℕ → Float) where
  abbrev Finites : List Term → Type 0
  Finites ts = T (all_finite (map (rounded ρ) ts))

  finites_left : (xs ys : List Term) → Finites (xs ++ ys) → Finites xs
  unfolding all_finite
  finites_left [] ys h = tt
  finites_left (x ∷ xs) ys h = let b = finite (rounded ρ x) in and_i b (all_finite (map (rounded ρ) xs)) (and_l b _ h) (finites_left xs ys (and_r b _ h))

  finites_right : (xs ys : List Term) → Finites (xs ++ ys) → Finites ys
  unfolding all_finite
  finites_right [] ys h = h
  finites_right (x ∷ xs) ys h = finites_right xs ys (and_r (finite (rounded ρ x)) _ h)

  under : (xs : List Term) (b : Term) → Finites (xs ++ (b ∷ [])) → T (finite (rounded ρ b))
  unfolding all_finite
  under xs b h = and_l (finite (rounded ρ b)) _ (finites_right xs (b ∷ []) h)

  alone : (x : Float) → T (finite x) → T (all_finite (x ∷ []))
  unfolding all_finite
  alone x h = and_i (finite x) _ h tt

  first : (x : Float) (xs : List Float) → T (finite x) → T (all_finite xs) → T (all_finite (x ∷ xs))
  unfolding all_finite
  first x xs h p = and_i (finite x) (all_finite xs) h p

  -- of two sides
  sides :
      (t a b : Term) → T (finite (rounded ρ t)) → Finites (denominators a ++ denominators b)
      → (Finites (denominators a) → T (all_finite (numbers ρ a))) → (Finites (denominators b) → T (all_finite (numbers ρ b)))
      → T (all_finite (rounded ρ t ∷ (numbers ρ a ++ numbers ρ b)))
  sides t a b h d p q =
      first (rounded ρ t) (numbers ρ a ++ numbers ρ b) h
      (joined (numbers ρ a) (numbers ρ b) (p (finites_left (denominators a) (denominators b) d)) (q (finites_right (denominators a) (denominators b) d)))

  pub throughout : (t : Term) → Finites (denominators t) → T (finite (rounded ρ t)) → T (all_finite (numbers ρ t))
  unfolding rounded denominators numbers
  throughout (variable n) d h = alone (ρ n) h
  throughout (numeral n) d h = alone (rounded ρ (numeral n)) h
  throughout (minus a) d h = first (rounded ρ (minus a)) (numbers ρ a) h (throughout a d (minus_finite (rounded ρ a) h))
  throughout (a ⊕ b) d h =
      let both = sum_finite (rounded ρ a) (rounded ρ b) h in
      sides (a ⊕ b) a b h d (λ e. throughout a e both.0) (λ e. throughout b e both.1)
  throughout (a ⊖ b) d h =
      let both = difference_finite (rounded ρ a) (rounded ρ b) h in
      sides (a ⊖ b) a b h d (λ e. throughout a e both.0) (λ e. throughout b e both.1)
  throughout (a ⊗ b) d h =
      let both = product_finite (rounded ρ a) (rounded ρ b) h in
      sides (a ⊗ b) a b h d (λ e. throughout a e both.0) (λ e. throughout b e both.1)
  throughout (a ⊘ b) d h =
      let rest = denominators a ++ denominators b in
      sides (a ⊘ b) a b h (finites_left rest (b ∷ []) d) (λ e. throughout a e (quotient_finite (rounded ρ a) (rounded ρ b) h).0) (λ e. throughout b e (under rest b d))

  -- of several terms
  abbrev Read : List Term → Type 0
  Read [] = Unit {0}
  Read (t ∷ ts) = Finites (denominators t) × T (finite (rounded ρ t)) × Read ts

  pub all_throughout : (ts : List Term) → Read ts → T (all_finite (all_numbers ρ ts))
  unfolding all_numbers
  all_throughout [] h = unfold all_finite in tt
  all_throughout (t ∷ ts) h = joined (numbers ρ t) (all_numbers ρ ts) (throughout t h.0 h.1) (all_throughout ts h.2)
