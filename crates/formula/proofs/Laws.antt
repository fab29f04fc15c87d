-- What a reader may rely on: the quotient is one, and the derivative is the one of school where everyone knows it. Assumes nothing.
use mathlib.Core.Path.{ap, ◌∙◌}
use mathlib.Core.List.{[], ◌∷◌}
use Prim.Native.Nat.{ℕ}
use Rattle.exact.specs.Fraction.{Fraction, Proper, ◌≈◌, whole, ◌⊠◌}
use Rattle.exact.proofs.Fractions.{whole_proper, ⊠-proper, ≈-sym, ⊠-comm, ⊠-assoc, ⊠-one}
use Rattle.formula.specs.Term.{Term, variable, numeral, ◌⊕◌, ◌⊖◌, ◌⊗◌, ◌⊘◌, inverse, exact, Numbers, ◌≅◌, Alike, derivative, gradient}
use Rattle.formula.proofs.Numbers.{same, ◌then◌, from, products, inverse_proper, inverted}
use Rattle.formula.proofs.Solver.{zero_one, rows}

-- In the exact reading a quotient times what it is divided by is what was divided.
pub quotient : {a b : Fraction} → Proper a → Proper b → ¬ (b ≈ whole 0) → a ⊠ inverse b ⊠ b ≅ a
quotient {a} {b} p q n =
    from (⊠-assoc a (inverse b) b ∙ ap (λ (z : Fraction). a ⊠ z) (⊠-comm (inverse b) b)) (⊠-proper (⊠-proper p (inverse_proper n)) q)
    then products (same p) (inverted q n) then from (⊠-one a) (⊠-proper p (whole_proper 1))

abbrev x : Term
x = variable 0

abbrev y : Term
y = variable 1

abbrev below : Term
below = numeral 1 ⊕ y ⊗ x

-- The derivatives of x³ by x and by y are 3 x² and 0,
pub of_cube : {ρ : ℕ → Fraction} → Numbers ρ → Alike ρ (gradient (0 ∷ 1 ∷ []) (x ⊗ x ⊗ x)) (numeral 3 ⊗ x ⊗ x ∷ numeral 0 ∷ [])
unfolding exact gradient derivative
of_cube numbers =
    rows numbers (numeral 1) tt (λ (h : whole 1 ≈ whole 0). zero_one (≈-sym h)) (gradient (0 ∷ 1 ∷ []) (x ⊗ x ⊗ x))
    (numeral 3 ⊗ x ⊗ x ∷ numeral 0 ∷ []) tt

-- and those of x / (1 + y x), where that isn't over zero, 1 / (1 + y x)² and - x² / (1 + y x)².
pub of_quotient :
    {ρ : ℕ → Fraction} → Numbers ρ → ¬ (exact ρ below ≈ whole 0)
    → Alike ρ (gradient (0 ∷ 1 ∷ []) (x ⊘ below)) (numeral 1 ⊘ (below ⊗ below) ∷ (numeral 0 ⊖ x ⊗ x ⊘ (below ⊗ below)) ∷ [])
unfolding gradient derivative
of_quotient numbers defined =
    rows numbers below tt defined (gradient (0 ∷ 1 ∷ []) (x ⊘ below))
    (numeral 1 ⊘ (below ⊗ below) ∷ (numeral 0 ⊖ x ⊗ x ⊘ (below ⊗ below)) ∷ []) tt
