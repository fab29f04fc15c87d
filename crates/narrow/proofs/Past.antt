-- From 2 ^ 128 - 2 ^ 103 on the nearest f32 is the infinity, and so is the f64 times 2 ^ 925. Assumes nothing.
use mathlib.Core.Path.{◌≡◌, refl, sym, ap, ◌∙◌, subst}
use mathlib.Core.Bool.{Bool, true, false, not}
use Prim.Native.Nat.{ℕ, ◌*◌, ◌^◌, ◌≤◌}
use native.Mathlib.Nat.{le_trans, mul-pos, mul-le-mul_right}
use lib.IntN.{pos}
use lib.Dec.{T, lit<, lit≤}
use lib.Pow.{pow_pos}
use lib.Ieee.{Float, inf, fin, binary32, binary64, mul, is_nan}
use lib.Ieee.Exact.{HasValue}
use Rattle.exact.specs.F64.{◌⊗◌}
use Rattle.exact.proofs.Laws.{rounding_infinite}
use Rattle.narrow.specs.Narrow.{narrowed}
use Rattle.narrow.proofs.Fields.{of_value}
use Rattle.narrow.proofs.Products.{times}
use Rattle.narrow.proofs.Small.{up_factor, up_is}
use Rattle.narrow.proofs.Squares.{edge}

alike : (x : Float) (s : Bool) → x ⊗ up_factor ≡ inf s → narrowed x ≡ inf s → (x ⊗ up_factor ≡ narrowed x) × T (not (is_nan (x ⊗ up_factor)))
alike x s e i = (e ∙ sym i, subst (λ (y : Float). T (not (is_nan y))) (sym e) (number s))
  where
    number : (s : Bool) → T (not (is_nan (inf s)))
    number s = unfold is_nan in tt

still : (s : Bool) → inf s ⊗ fin false 1 (pos 925) ≡ inf s
unfolding mul
still true = refl
still false = refl

pub of_infinity : (x : Float) (s : Bool) → x ≡ inf s → (x ⊗ up_factor ≡ narrowed x) × T (not (is_nan (x ⊗ up_factor)))
of_infinity x s e = alike x s (ap (λ (y : Float). y ⊗ up_factor) e ∙ ap (λ (y : Float). inf s ⊗ y) up_is ∙ still s) (ap narrowed e ∙ itself s)
  where
    itself : (s : Bool) → narrowed (inf s) ≡ inf s
    itself s = unfold narrowed in refl

pub of_large : (x : Float) (s : Bool) (a : ℕ) → HasValue x s a (2 ^ 1074) → edge * 2 ^ 1149 ≤ a → (x ⊗ up_factor ≡ narrowed x) × T (not (is_nan (x ⊗ up_factor)))
of_large x s a v h =
    alike x s
    (ap (λ (y : Float). x ⊗ y) up_is
    ∙ times x s a (2 ^ 1074) (pos 925) (pow_pos 1074) v
    ∙ (rounding_infinite binary64 s (a * 2 ^ 925) (2 ^ 1074 * 1) (mul-pos {n = 1} (pow_pos 1074) (lit< tt))).1 (le_trans (lit≤ tt) (mul-le-mul_right (2 ^ 925) h)))
    (of_value x s a (2 ^ 1074) a (2 ^ 1074) (pow_pos 1074) (pow_pos 1074) v refl ∙ (rounding_infinite binary32 s a (2 ^ 1074) (pow_pos 1074)).1 (le_trans (lit≤ tt) h))
