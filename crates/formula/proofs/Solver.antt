-- A test that computes whether two terms are the same number wherever one denominator is not zero, every other being a power of it; and that the test is right. Assumes nothing.
use mathlib.Core.Path.{◌∙◌}
use mathlib.Core.Bool.{Bool, true, false, ◌&&◌}
use mathlib.Core.List.{List, [], ◌∷◌}
use Prim.Native.Nat.{ℕ, zero, suc, ◌+◌}
use native.Mathlib.Omega.{arith}
use lib.Dec.{T}
use lib.Ieee.Fits.{and_l, and_r}
use Rattle.exact.specs.Fraction.{Fraction, Proper, ◌≈◌, over, whole, ◌⊞◌, opposite, ◌⊟◌, ◌⊠◌, power}
use Rattle.exact.proofs.Fractions.{whole_proper, power_proper, ⊠-one}
use Rattle.formula.specs.Term.{Term, variable, numeral, minus, ◌⊕◌, ◌⊖◌, ◌⊗◌, ◌⊘◌, inverse, exact, Numbers, ◌≅◌, Alike}
use Rattle.formula.proofs.Numbers.{same, back, ◌then◌, from, sums, opposites, products, by_zero, inverse_proper, inverted, unique}
use Rattle.formula.proofs.Polynomials.{Polynomial, alone, alone_worth, value, value_proper, added, added_value, turned, turned_value, multiplied, multiplied_value, constant, constant_value, single, single_value, raised, raised_value, vanishes, vanished, highest, cleared, both, cleared_zero}

-- ---- the test

-- how often the denominator is a factor of a term that is a power of it
abbrev pub degree : Term → ℕ
degree (variable n) = 1
degree (numeral n) = 1
degree (minus a) = 1
degree (a ⊕ b) = 1
degree (a ⊖ b) = 1
degree (a ⊗ b) = degree a + degree b
degree (a ⊘ b) = 1

-- the first variable is 1 over the denominator, and the term's variables follow
abbrev pub normal : Term → Polynomial
normal (variable n) = single (alone (suc n))
normal (numeral n) = constant n
normal (minus a) = turned (normal a)
normal (a ⊕ b) = added (normal a) (normal b)
normal (a ⊖ b) = added (normal a) (turned (normal b))
normal (a ⊗ b) = multiplied (normal a) (normal b)
normal (a ⊘ b) = multiplied (normal a) (single (degree b ∷ []))

-- every denominator of a term passes d
abbrev pub fits : (Term → Bool) → Term → Bool
fits d (variable n) = true
fits d (numeral n) = true
fits d (minus a) = fits d a
fits d (a ⊕ b) = fits d a && fits d b
fits d (a ⊖ b) = fits d a && fits d b
fits d (a ⊗ b) = fits d a && fits d b
fits d (a ⊘ b) = fits d a && fits d b && d b

abbrev pub never : Term → Bool
never b = false

abbrev pub less : Polynomial → Polynomial → Polynomial
less P Q = added P (turned Q)

abbrev pub power_of : Polynomial → Term → Bool
power_of D b = vanishes (less (normal b) (raised D (degree b)))

-- zero wherever the first variable is 1 / D
abbrev pub nought : Polynomial → Polynomial → Bool
nought D P = vanishes (cleared D (highest P) P)

-- a and b are the same wherever `under` is not zero
abbrev pub test : Term → Term → Term → Bool
test under a b = fits (power_of (normal under)) a && fits (power_of (normal under)) b && nought (normal under) (less (normal a) (normal b))

abbrev pub tests : Term → List Term → List Term → Bool
tests under [] [] = true
tests under [] (b ∷ t) = false
tests under (a ∷ s) [] = false
tests under (a ∷ s) (b ∷ t) = test under a b && tests under s t

-- ---- it is right

abbrev extended : Fraction → (ℕ → Fraction) → ℕ → Fraction
extended i at zero = i
extended i at (suc n) = at n

extended_proper : {i : Fraction} {at : ℕ → Fraction} → Proper i → Numbers at → Numbers (extended i at)
extended_proper p h zero = p
extended_proper p h (suc n) = h n

pub zero_one : whole 0 ≈ whole 1 → ⊥
unfolding over
zero_one h = omega arith

not_zero : {a i : Fraction} → a ⊠ i ≅ whole 1 → Proper a → Proper i → a ≈ whole 0 → ⊥
not_zero {a} {i} k p q z =
    let a0 : a ≅ whole 0 = record { left = p; right = whole_proper 0; same = z } in
    zero_one (back (products a0 (same q) then by_zero q) then k).same

level : {a b : Fraction} → a ⊟ b ≈ whole 0 → a ≈ b
unfolding ◌⊞◌ opposite over
level h = record { holds = omega (arith, h.holds) }

module _ {at : ℕ → Fraction} (h : Numbers at) {i : Fraction} (p : Proper i) (d : Term → Bool) (inv : (b : Term) → T (d b) → value (extended i at) (normal b) ⊠ power i (degree b) ≅ whole 1) where
  normal_proper : (a : Term) → Proper (value (extended i at) (normal a))
  normal_proper a = value_proper (extended_proper p h) (normal a)

  divided : (b : Term) → T (d b) → value (extended i at) (normal b) ≅ exact at b → value (extended i at) (single (degree b ∷ [])) ≅ inverse (exact at b)
  divided b t k =
      let q = power_proper (degree b) p in
      let n = not_zero (products (back k) (same q) then inv b t) k.right q in
      from (single_value (extended i at) (degree b ∷ []) ∙ ⊠-one (power i (degree b))) (value_proper (extended_proper p h) (single (degree b ∷ [])))
      then unique k q (inv b t) (inverted k.right n) (inverse_proper n)

  sound : (a : Term) → T (fits d a) → value (extended i at) (normal a) ≅ exact at a
  unfolding exact
  sound (variable n) t = from (single_value (extended i at) (alone (suc n)) ∙ alone_worth (extended i at) (suc n)) (normal_proper (variable n))
  sound (numeral n) t = from (constant_value (extended i at) n) (normal_proper (numeral n))
  sound (minus a) t = rw (turned_value (extended i at) (normal a)) (opposites (sound a t))
  sound (a ⊕ b) t = added_value (extended_proper p h) (normal a) (normal b) then sums (sound a (and_l (fits d a) (fits d b) t)) (sound b (and_r (fits d a) (fits d b) t))
  sound (a ⊖ b) t = added_value (extended_proper p h) (normal a) (turned (normal b)) then rw (turned_value (extended i at) (normal b)) (sums (sound a (and_l (fits d a) (fits d b) t)) (opposites (sound b (and_r (fits d a) (fits d b) t))))
  sound (a ⊗ b) t = multiplied_value (extended_proper p h) (normal a) (normal b) then products (sound a (and_l (fits d a) (fits d b) t)) (sound b (and_r (fits d a) (fits d b) t))
  sound (a ⊘ b) t =
      let ab = and_l (fits d a && fits d b) (d b) t in
      multiplied_value (extended_proper p h) (normal a) (single (degree b ∷ []))
      then products (sound a (and_l (fits d a) (fits d b) ab)) (divided b (and_r (fits d a && fits d b) (d b) t) (sound b (and_r (fits d a) (fits d b) ab)))

zero_less : {at : ℕ → Fraction} → Numbers at → (P Q : Polynomial) → value at (less P Q) ≅ whole 0 → value at P ≅ value at Q
zero_less {at} h P Q z =
    let d : value at P ⊟ value at Q ≅ whole 0 = rw (← turned_value at Q) (back (added_value h P (turned Q)) then z) in
    record { left = value_proper h P; right = value_proper h Q; same = level d.same }

module _ {at : ℕ → Fraction} (h : Numbers at) (under : Term) (plain : T (fits never under)) (n : ¬ (exact at under ≈ whole 0)) where
  abbrev spread : ℕ → Fraction
  spread = extended (inverse (exact at under)) at

  numbers : Numbers spread
  numbers = extended_proper (inverse_proper n) h

  unit : value spread (normal under) ⊠ inverse (exact at under) ≅ whole 1
  unit = let k = sound h (inverse_proper n) never (λ b t. absurd t) under plain in products k (same (inverse_proper n)) then inverted k.right n

  inv : (b : Term) → T (power_of (normal under) b) → value spread (normal b) ⊠ power (inverse (exact at under)) (degree b) ≅ whole 1
  inv b t =
      let k = zero_less numbers (normal b) (raised (normal under) (degree b)) (vanished numbers (less (normal b) (raised (normal under) (degree b))) t) in
      products (k then raised_value numbers (normal under) (degree b)) (same (power_proper (degree b) (inverse_proper n))) then both numbers (normal under) unit (degree b)

  pub solved : (a b : Term) → T (test under a b) → exact at a ≅ exact at b
  solved a b t =
      let f = fits (power_of (normal under)) a in
      let g = fits (power_of (normal under)) b in
      let P = less (normal a) (normal b) in
      let fg = and_l (f && g) (nought (normal under) P) t in
      back (sound h (inverse_proper n) (power_of (normal under)) inv a (and_l f g fg))
      then zero_less numbers (normal a) (normal b) (cleared_zero numbers (normal under) unit (highest P) P (and_r (f && g) (nought (normal under) P) t))
      then sound h (inverse_proper n) (power_of (normal under)) inv b (and_r f g fg)

  pub rows : (s t : List Term) → T (tests under s t) → Alike at s t
  rows [] [] p = tt
  rows [] (b ∷ t) p = p
  rows (a ∷ s) [] p = p
  rows (a ∷ s) (b ∷ t) p = (solved a b (and_l (test under a b) (tests under s t) p), rows s t (and_r (test under a b) (tests under s t) p))
