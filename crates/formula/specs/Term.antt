-- A formula as a term, with its variables by number: written once, and read in two ways. `rounded` reads it in f64,
-- where each operation rounds once; `exact` reads it in fractions, where none does. `derivative` has the rules of
-- school. Definitions only.
use Rattle.std.specs.Prelude.{cond, List, [], ◌∷◌, ◌++◌, map, ℕ, ◌+◌, ◌-◌, ◌*◌, eqb, pos, Float}
use Rattle.std.specs.Float.{binary64}
use Rattle.std.specs.Float.Ieee.{add, sub, mul, div, neg, of_int}
use Rattle.exact.specs.Fraction.{Fraction, Proper, ◌≈◌, whole, ◌⊞◌, opposite, ◌⊟◌, ◌⊠◌}

infixl 60 ◌⊕◌ ◌⊖◌
infixl 70 ◌⊗◌ ◌⊘◌
infix 50 ◌≅◌
pub data Term : Type 0 where
  variable : ℕ → Term
  numeral : ℕ → Term
  minus : Term → Term
  ◌⊕◌ : Term → Term → Term
  ◌⊖◌ : Term → Term → Term
  ◌⊗◌ : Term → Term → Term
  ◌⊘◌ : Term → Term → Term

-- ---- the derivative by the variable v

-- 1 of v itself, 0 of another variable and of a numeral; then the rules of sums, of products and of quotients
unfoldable pub derivative : ℕ → Term → Term
derivative v (variable n) = cond (eqb v n) (numeral 1) (numeral 0)
derivative v (numeral n) = numeral 0
derivative v (minus a) = minus (derivative v a)
derivative v (a ⊕ b) = derivative v a ⊕ derivative v b
derivative v (a ⊖ b) = derivative v a ⊖ derivative v b
derivative v (a ⊗ b) = derivative v a ⊗ b ⊕ a ⊗ derivative v b
derivative v (a ⊘ b) = (derivative v a ⊗ b ⊖ a ⊗ derivative v b) ⊘ (b ⊗ b)

-- a row of a Jacobian: the derivative by each variable of a list
unfoldable pub gradient : List ℕ → Term → List Term
gradient vs a = map (λ (v : ℕ). derivative v a) vs

-- ---- read in f64; `at` has the variables' values

unfoldable pub rounded : (ℕ → Float) → Term → Float
rounded at (variable n) = at n
rounded at (numeral n) = of_int binary64 (pos n)
rounded at (minus a) = neg (rounded at a)
rounded at (a ⊕ b) = add binary64 (rounded at a) (rounded at b)
rounded at (a ⊖ b) = sub binary64 (rounded at a) (rounded at b)
rounded at (a ⊗ b) = mul binary64 (rounded at a) (rounded at b)
rounded at (a ⊘ b) = div binary64 (rounded at a) (rounded at b)

-- ---- read exactly

-- 1 / b, for a b that is not zero: above and below are multiplied by plus - minus, so that what is below has no sign
unfoldable pub inverse : Fraction → Fraction
inverse b = record {
  plus = b.plus * b.under;
  minus = b.minus * b.under;
  under = b.plus * b.plus + b.minus * b.minus - 2 * (b.plus * b.minus);
}

unfoldable pub exact : (ℕ → Fraction) → Term → Fraction
exact at (variable n) = at n
exact at (numeral n) = whole n
exact at (minus a) = opposite (exact at a)
exact at (a ⊕ b) = exact at a ⊞ exact at b
exact at (a ⊖ b) = exact at a ⊟ exact at b
exact at (a ⊗ b) = exact at a ⊠ exact at b
exact at (a ⊘ b) = exact at a ⊠ inverse (exact at b)

-- what a term divides by
unfoldable pub denominators : Term → List Term
denominators (variable n) = []
denominators (numeral n) = []
denominators (minus a) = denominators a
denominators (a ⊕ b) = denominators a ++ denominators b
denominators (a ⊖ b) = denominators a ++ denominators b
denominators (a ⊗ b) = denominators a ++ denominators b
denominators (a ⊘ b) = denominators a ++ denominators b ++ (b ∷ [])

-- every variable stands for a number
abbrev pub Numbers : (ℕ → Fraction) → Type 0
Numbers at = (n : ℕ) → Proper (at n)

-- a and b are numbers, and the same one
pub record ◌≅◌ (a b : Fraction) : Type 0 where
  pub left : Proper a
  pub right : Proper b
  pub same : a ≈ b

-- two lists of terms are the same numbers, place by place
abbrev pub Alike : (ℕ → Fraction) → List Term → List Term → Type 0
Alike at [] [] = Unit {0}
Alike at [] (b ∷ t) = ⊥
Alike at (a ∷ s) [] = ⊥
Alike at (a ∷ s) (b ∷ t) = (exact at a ≅ exact at b) × Alike at s t
