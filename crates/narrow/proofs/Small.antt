-- The way by two multiplications, for an f64 below 2 ^ -125, a zero too: it is d / (2 ^ 149 * 2 ^ j). Over 2 ^ 925 it lies where f64s are as many units of 2 ^ -1074 as f32s there are of 2 ^ -149, so the same
-- whole number is the nearest; times 2 ^ 925 that is the f32. Assumes nothing.
use mathlib.Core.Path.{◌≡◌, refl, sym, ap, ◌∙◌, subst}
use mathlib.Core.Logic.{inl, inr}
use mathlib.Core.Bool.{Bool, false, not}
use Prim.Native.Nat.{ℕ, ◌+◌, ◌-◌, ◌*◌, ◌%◌, ◌^◌, ◌≤◌, ◌<◌}
use native.Mathlib.Nat.{lt_of_lt_of_le, lt_of_le_of_lt, mul-pos, eq-zero-or-pos, mul-le-mul_right}
use native.Mathlib.Omega.{arith}
use lib.IntN.{pos, negsuc}
use lib.Dec.{T, lit<, lit≤}
use lib.Pow.{pow-add, pow_pos, pow_mono}
use lib.Ieee.{Float, fin, binary32, binary64, round, units, is_nan, of_bits}
use lib.Ieee.Exact.{HasValue, units_val, round_exact}
use lib.Ieee.Fits.{mul-fits, fits_widens}
use lib.Ieee.Nearest.{closest}
use lib.Ieee.Scale.{round_same}
use Rattle.exact.specs.F64.{f64, ◌⊗◌}
use Rattle.exact.proofs.Pattern.{low_value, mid_value, unique, rescaled}
use Rattle.narrow.specs.Narrow.{narrowed}
use Rattle.narrow.proofs.Units.{in_units, kept_le}
use Rattle.narrow.proofs.Fields.{field, digits, negative, of_value, scaled}
use Rattle.narrow.proofs.Products.{times, not_nan}
use Rattle.narrow.proofs.Laws.{narrow_fits}

-- ---- DOWN and UP
abbrev pub down_factor : Float
down_factor = f64 0x0620_0000_0000_0000

abbrev pub up_factor : Float
up_factor = f64 0x79c0_0000_0000_0000

down_is : down_factor ≡ fin false 1 (negsuc 924)
down_is = unfold of_bits in refl

pub up_is : up_factor ≡ fin false 1 (pos 925)
up_is = unfold of_bits in refl

abbrev pub lowered : Float → Float
lowered x = x ⊗ down_factor

abbrev pub small_answer : Float → Float
small_answer x = lowered x ⊗ up_factor

-- ---- by d and j
module _ (x : Float) (s : Bool) (d j : ℕ) (hi : d < 2 ^ 24 * 2 ^ j) (v : HasValue x s (d * 2 ^ 0) (2 ^ 149 * 2 ^ j)) where
  J : 0 < 2 ^ 149 * 2 ^ j
  J = mul-pos (pow_pos 149) (pow_pos j)

  abbrev q : ℕ
  q = closest d (2 ^ j)

  few : q * 2 ^ 0 ≤ 2 ^ 24
  few = same q (kept_le 24 d j hi)
    where
      same : (q : ℕ) → q ≤ 2 ^ 24 → q * 2 ^ 0 ≤ 2 ^ 24
      same q h = omega arith

  lowered_is : lowered x ≡ units binary64 s q 0
  lowered_is =
      ap (λ (y : Float). x ⊗ y) down_is
      ∙ times x s (d * 2 ^ 0) (2 ^ 149 * 2 ^ j) (negsuc 924) J v
      ∙ round_same binary64 s (d * 2 ^ 0 * 1) (2 ^ 149 * 2 ^ j * 2 ^ 925) (d * 2 ^ 0) (2 ^ 1074 * 2 ^ j) (mul-pos J (pow_pos 925)) (mul-pos (pow_pos 1074) (pow_pos j))
      (ap (λ (z : ℕ). d * 2 ^ 0 * 1 * (z * 2 ^ j)) (pow-add 2 149 925) ∙ moved (d * 2 ^ 0) (2 ^ 149) (2 ^ 925) (2 ^ j))
      ∙ in_units binary64 s d j 0 (lt_of_lt_of_le hi (mul-le-mul_right (2 ^ j) (lit≤ tt))) (inl refl)
    where
      moved : (n a b c : ℕ) → n * 1 * (a * b * c) ≡ n * (a * c * b)
      moved n a b c = omega arith

  lowered_value : HasValue (lowered x) s (q * 2 ^ 0) (2 ^ 1074)
  lowered_value = subst (λ (y : Float). HasValue y s (q * 2 ^ 0) (2 ^ 1074)) (sym lowered_is) (units_val binary64 s q 0 (lt_of_le_of_lt few (lit< tt)))

  answer_value : HasValue (small_answer x) s (q * 2 ^ 0) (2 ^ 149)
  answer_value =
      let a = q * 2 ^ 0 * 2 ^ 925 in
      let e : small_answer x ≡ round binary64 s a (2 ^ 1074 * 1) = ap (λ (y : Float). lowered x ⊗ y) up_is ∙ times (lowered x) s (q * 2 ^ 0) (2 ^ 1074) (pos 925) (pow_pos 1074) lowered_value in
      rescaled (small_answer x) s a (2 ^ 1074 * 1) (q * 2 ^ 0) (2 ^ 149) (mul-pos {n = 1} (pow_pos 1074) (lit< tt)) (turned (q * 2 ^ 0))
      (subst (λ (y : Float). HasValue y s a (2 ^ 1074 * 1)) (sym e)
      (round_exact binary64 s a (2 ^ 1074 * 1) (q * 2 ^ 0) 925 (mul-pos {n = 1} (pow_pos 1074) (lit< tt)) (lt_of_le_of_lt few (lit< tt)) (lt_of_le_of_lt (mul-le-mul_right (2 ^ 925) few) (lit< tt)) (alike (q * 2 ^ 0 * 2 ^ 925) (2 ^ 1074))))
    where
      alike : (a c : ℕ) → a * c ≡ a * (c * 1)
      alike a c = omega arith

      placed : (n a b : ℕ) → n * a * b ≡ n * (b * a * 1)
      placed n a b = omega arith

      turned : (n : ℕ) → n * 2 ^ 925 * 2 ^ 149 ≡ n * (2 ^ 1074 * 1)
      turned n = placed n (2 ^ 925) (2 ^ 149) ∙ ap (λ (z : ℕ). n * (z * 1)) (sym (pow-add 2 149 925))

  nearest_value : HasValue (narrowed x) s (q * 2 ^ 0) (2 ^ 149)
  nearest_value =
      subst (λ (y : Float). HasValue y s (q * 2 ^ 0) (2 ^ 149))
      (sym (of_value x s (d * 2 ^ 0) (2 ^ 149 * 2 ^ j) (d * 2 ^ 0) (2 ^ 149 * 2 ^ j) J J v refl ∙ in_units binary32 s d j 0 hi (inl refl))) (units_val binary32 s q 0 (lt_of_le_of_lt few (lit< tt)))

  by_size : (small_answer x ≡ narrowed x) × T (not (is_nan (small_answer x)))
  by_size = (
    unique binary64 (small_answer x) (narrowed x) s (q * 2 ^ 0) (2 ^ 149) (pow_pos 149) (mul-fits binary64 (lowered x) up_factor) (fits_widens (narrowed x) (narrow_fits x)) answer_value nearest_value,
    not_nan (small_answer x) s (q * 2 ^ 0) (2 ^ 149) answer_value,
  )

-- ---- by the pattern
room : (d j : ℕ) → d < 2 ^ 53 → 29 ≤ j → d < 2 ^ 24 * 2 ^ j
room d j h l = lt_of_lt_of_le h (subst (λ (x : ℕ). 2 ^ 53 ≤ x) (pow-add 2 24 j) (pow_mono {i = 53} (plus j l)))
  where
    plus : (j : ℕ) → 29 ≤ j → 53 ≤ 24 + j
    plus j l = omega arith

pub by_multiplications : (b : ℕ) → field b ≤ 897 → (small_answer (f64 b) ≡ narrowed (f64 b)) × T (not (is_nan (small_answer (f64 b))))
by_multiplications b h = elim (eq-zero-or-pos (field b)) [
  | inl e ↦
      by_size (f64 b) (negative b) (b % 2 ^ 52) 925 (room (b % 2 ^ 52) 925 (omega arith) (lit≤ tt))
      (rescaled (f64 b) (negative b) (b % 2 ^ 52 * 2 ^ 0) (2 ^ 1074) (b % 2 ^ 52 * 2 ^ 0) (2 ^ 149 * 2 ^ 925) (pow_pos 1074) (scaled (b % 2 ^ 52) 0 0 149 925 1074 refl) (low_value binary64 b e))
  | inr p ↦
      by_size (f64 b) (negative b) (digits b) (926 - field b) (room (digits b) (926 - field b) (omega arith) (omega arith))
      (rescaled (f64 b) (negative b) (digits b * 2 ^ (field b - 1)) (2 ^ 1074) (digits b * 2 ^ 0) (2 ^ 149 * 2 ^ (926 - field b)) (pow_pos 1074)
      (scaled (digits b) (field b - 1) 0 149 (926 - field b) 1074 (omega arith)) (mid_value binary64 b p (omega arith)))
]
