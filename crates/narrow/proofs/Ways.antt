-- What the code asks on each of its ways, and that each gives the nearest f32, from the tests of the square that lead there. Assumes nothing.
use mathlib.Core.Path.{◌≡◌, sym, ap, ◌∙◌, subst}
use mathlib.Core.Logic.{inl, inr}
use mathlib.Core.Bool.{true, false, not, ◌&&◌}
use Prim.Native.Nat.{◌*◌, ◌-◌, ◌^◌}
use native.Mathlib.Omega.{arith}
use lib.Dec.{T}
use lib.Ieee.{Float, binary32, binary64, le, fits, is_nan, nan_bits, to_bits}
use lib.Ieee.Bits.{of_bits-to_bits}
use lib.Ieee.Fits.{and_i}
use Rattle.exact.specs.F64.{f64, ◌⊗◌}
use Rattle.exact.proofs.Pattern.{mid_value}
use Rattle.narrow.specs.Narrow.{narrowed}
use Rattle.narrow.proofs.Fields.{field, digits, negative}
use Rattle.narrow.proofs.Sign.{no_nan_from}
use Rattle.narrow.proofs.Squares.{least_square, large_square, number, from, up_to, under, past, infinite_or, infinite_squares, never_infinite}
use Rattle.narrow.proofs.Additions.{scaled, leading, answer, product_number, power_number, answer_is, answer_number}
use Rattle.narrow.proofs.Small.{small_answer, by_multiplications, up_factor}
use Rattle.narrow.proofs.Past.{of_infinity, of_large}
use Rattle.narrow.proofs.Laws.{narrow_fits}

-- ---- y is the nearest f32 of x, as the cast asks for it
pub record Nearest (x y : Float) : Type 0 where
  pub is : y ≡ narrowed x
  pub holds : T (fits binary32 y && not (is_nan y))

nearest : (x y : Float) → (y ≡ narrowed x) × T (not (is_nan y)) → Nearest x y
nearest x y p = record { is = p.0; holds = and_i (fits binary32 y) (not (is_nan y)) (subst (λ (z : Float). T (fits binary32 z)) (sym p.0) (narrow_fits x)) p.1 }

pub record ByAdditions (x : Float) : Type 0 where
  pub product : T (not (is_nan (scaled x)))
  pub pattern : T (not (nan_bits binary64 (leading (to_bits binary64 (scaled x)))))
  pub nearest_is : Nearest x (answer x)

-- ---- of an f64
module _ (x : Float) (p : T (fits binary64 x)) where
  same : f64 (to_bits binary64 x) ≡ x
  same = of_bits-to_bits binary64 x p

  pub as_usual : le least_square (x ⊗ x) ≡ true → le large_square (x ⊗ x) ≡ false → ByAdditions x
  as_usual l h =
      let b = to_bits binary64 x in
      subst ByAdditions same
      (elim (infinite_or b (no_nan_from x p (number x l))) [
        | inl e ↦ absurd (never_infinite large_square x (negative b) (infinite_squares (negative b)).1 (sym same ∙ e) h)
        | inr f ↦
            let lo = from b f (ap (λ (y : Float). le least_square (y ⊗ y)) same ∙ l) in
            let un = under b f (ap (λ (y : Float). le large_square (y ⊗ y)) same ∙ h) in
            record { product = product_number b lo un; pattern = power_number b lo un; nearest_is = nearest (f64 b) (answer (f64 b)) (answer_is b lo un, answer_number b lo un) }
      ])

  pub as_past : le least_square (x ⊗ x) ≡ true → le large_square (x ⊗ x) ≡ true → Nearest x (x ⊗ up_factor)
  as_past l h =
      let b = to_bits binary64 x in
      nearest x (x ⊗ up_factor)
      (elim (infinite_or b (no_nan_from x p (number x l))) [
        | inl e ↦ of_infinity x (negative b) (sym same ∙ e)
        | inr f ↦
            let lo = from b f (ap (λ (y : Float). le least_square (y ⊗ y)) same ∙ l) in
            subst (λ (y : Float). (y ⊗ up_factor ≡ narrowed y) × T (not (is_nan (y ⊗ up_factor)))) same
            (of_large (f64 b) (negative b) (digits b * 2 ^ (field b - 1)) (mid_value binary64 b (omega (arith, lo)) f) (past b f lo (ap (λ (y : Float). le large_square (y ⊗ y)) same ∙ h)))
      ])

  pub as_small : T (not (is_nan x)) → le least_square (x ⊗ x) ≡ false → Nearest x (small_answer x)
  as_small n l =
      let b = to_bits binary64 x in
      nearest x (small_answer x)
      (elim (infinite_or b (no_nan_from x p n)) [
        | inl e ↦ absurd (never_infinite least_square x (negative b) (infinite_squares (negative b)).0 (sym same ∙ e) l)
        | inr f ↦
            subst (λ (y : Float). (small_answer y ≡ narrowed y) × T (not (is_nan (small_answer y)))) same (by_multiplications b (up_to b f (ap (λ (y : Float). le least_square (y ⊗ y)) same ∙ l)))
      ])
