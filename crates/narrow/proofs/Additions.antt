-- The way by two additions, for an f64 from 2 ^ -126 on and below 2 ^ 128 - 2 ^ 103: it is d of 2 ^ i / 2 ^ (1074 + 29), with d from 2 ^ 52 on and below 2 ^ 53, and the power is 2 ^ 52 of
-- 2 ^ i / 2 ^ 1074. So the last digit of their sum stands for 2 ^ i / 2 ^ 1074: 24 of the 53 digits are kept, a tie to the even number. Assumes nothing.
use mathlib.Core.Path.{◌≡◌, refl, sym, ap, ◌∙◌, subst}
use mathlib.Core.Logic.{inl, inr}
use mathlib.Core.Bool.{Bool, true, false, not, cond}
use Prim.Native.Nat.{ℕ, suc, ◌+◌, ◌-◌, ◌*◌, ◌/◌, ◌%◌, ◌^◌, ◌≤◌, ◌<◌, compare, Ordering}
use native.Mathlib.Nat.{lt_of_lt_of_le, le-div_iff_mul-le, le_trans, mul-pos}
use native.Mathlib.Omega.{arith}
use lib.IntN.{pos}
use lib.Dec.{T, lit<}
use lib.Pow.{pow-add, pow_pos, pow_mono, shl_lt}
use lib.Ieee.{Float, binary32, binary64, fin, nearest, round, units, is_nan, nan_bits, of_bits, to_bits, fits}
use lib.Ieee.Bits.{to_bits-of_bits}
use lib.Ieee.Exact.{HasValue, units_val, round_exact}
use lib.Ieee.Fits.{round-fits, sub-fits, mul-fits, fits_widens}
use lib.Ieee.Nearest.{closest, closest_mono, nearest-ge}
use lib.Ieee.Scale.{round_same}
use Rattle.exact.specs.F64.{f64, ◌⊕◌, ◌⊖◌, ◌⊗◌}
use Rattle.exact.proofs.Pattern.{mid_value, unique, rescaled, packed}
use Rattle.exact.proofs.Tests.{number_pattern}
use Rattle.narrow.specs.Narrow.{narrowed}
use Rattle.narrow.proofs.Units.{in_units, kept_le}
use Rattle.narrow.proofs.Fields.{field, digits, negative, normal}
use Rattle.narrow.proofs.Products.{times, not_nan}
use Rattle.narrow.proofs.Squares.{edge, Under}
use Rattle.narrow.proofs.Sums.{added, taken}
use Rattle.narrow.proofs.Laws.{narrow_fits}

-- ---- as the code has them
abbrev pub scaled : Float → Float
scaled x = x ⊗ f64 0x41c0_0000_0000_0000

abbrev pub leading : ℕ → ℕ
leading n = n / 2 ^ 52 * 2 ^ 52 % 2 ^ 64

abbrev pub power : Float → Float
power x = f64 (leading (to_bits binary64 (scaled x)))

abbrev pub answer : Float → Float
answer x = x ⊕ power x ⊖ power x

-- ---- sizes
abbrev c : ℕ
c = 2 ^ 1074

C : 0 < c
C = pow_pos 1074

finer : 0 < c * 2 ^ 29
finer = mul-pos C (pow_pos 29)

-- an f64 by its sign, d and i
abbrev Is : Float → Bool → ℕ → ℕ → Type 0
Is x s d i = HasValue x s (d * 2 ^ i) c

room : (q i : ℕ) → q ≤ 2 ^ 53 → i ≤ 1178 → q * 2 ^ i < 2 ^ 2098
room q i h l = lt_of_lt_of_le (shl_lt 54 i (omega arith)) (pow_mono {j = 2098} (omega arith))

held : (s : Bool) (q i : ℕ) → q < 2 ^ 53 → i ≤ 1178 → Is (round binary64 s (q * 2 ^ i) c) s q i
held s q i h l = round_exact binary64 s (q * 2 ^ i) c q i C h (room q i (omega arith) l) refl

-- ---- the pattern of such an f64
abbrev at : Bool → ℕ → ℕ → ℕ
at s d i = cond s (2 ^ 63) 0 + (i * 2 ^ 52 + d)

module _ (d i : ℕ) (lo : 2 ^ 52 ≤ d) (hi : d < 2 ^ 53) (l : i ≤ 1178) where
  a_word : (s : Bool) → at s d i < 2 ^ 64
  a_word true = omega arith
  a_word false = omega arith

  a_number : (s : Bool) → at s d i % 2 ^ 63 ≤ 0x7ff0_0000_0000_0000
  a_number true = omega arith
  a_number false = omega arith

  cut : (s : Bool) → leading (at s d i) ≡ at s (2 ^ 52) i
  cut true = omega arith
  cut false = omega arith

pattern : (x : Float) (s : Bool) (d i : ℕ) → 2 ^ 52 ≤ d → d < 2 ^ 53 → i ≤ 1178 → T (fits binary64 x) → Is x s d i → to_bits binary64 x ≡ at s d i
pattern x s d i lo hi l p v =
    let e : f64 (at s d i) ≡ x = packed binary64 s d i x p v (omega arith) (inr lo) in
    ap (to_bits binary64) (sym e) ∙ to_bits-of_bits binary64 (at s d i) (a_word d i lo hi l s) (subst (λ (y : Float). T (not (is_nan y))) (sym e) (not_nan x s (d * 2 ^ i) c v))

-- ---- the power
scale_is : f64 0x41c0_0000_0000_0000 ≡ fin false 1 (pos 29)
scale_is = unfold of_bits in refl

-- ---- the nearest whole number, with an even one added
even_more : (d : ℕ) → closest (d + 2 ^ 81) (2 ^ 29) ≡ closest d (2 ^ 29) + 2 ^ 52
even_more d =
    ap (λ (w : ℕ). nearest w (compare ((d + 2 ^ 81) % 2 ^ 29 * 2) (2 ^ 29))) (whole d)
    ∙ ap (λ (r : ℕ). nearest (d / 2 ^ 29 + 2 ^ 52) (compare (r * 2) (2 ^ 29))) (left d)
    ∙ go (d / 2 ^ 29) (compare (d % 2 ^ 29 * 2) (2 ^ 29))
  where
    whole : (d : ℕ) → (d + 2 ^ 81) / 2 ^ 29 ≡ d / 2 ^ 29 + 2 ^ 52
    whole d = omega arith

    left : (d : ℕ) → (d + 2 ^ 81) % 2 ^ 29 ≡ d % 2 ^ 29
    left d = omega arith

    tie : (w : ℕ) → w + 2 ^ 52 + (w + 2 ^ 52) % 2 ≡ w + w % 2 + 2 ^ 52
    tie w = omega arith

    up_one : (w : ℕ) → suc (w + 2 ^ 52) ≡ suc w + 2 ^ 52
    up_one w = omega arith

    go : (w : ℕ) (o : Ordering) → nearest (w + 2 ^ 52) o ≡ nearest w o + 2 ^ 52
    go w Ordering.lt = refl
    go w Ordering.eq = tie w
    go w Ordering.gt = up_one w

-- ---- the two additions
module _ (x z : Float) (s : Bool) (d i : ℕ) (lo : 2 ^ 52 ≤ d) (hi : d < 2 ^ 53) (l : i ≤ 1178) (v : HasValue x s (d * 2 ^ i) (c * 2 ^ 29)) (w : Is z s (2 ^ 52) i) where
  most : closest d (2 ^ 29) ≤ 2 ^ 24
  most = kept_le 24 d 29 hi

  some : 2 ^ 23 ≤ closest d (2 ^ 29)
  some = le_trans ((le-div_iff_mul-le (pow_pos 29)).1 lo) (nearest-ge (d / 2 ^ 29) (compare (d % 2 ^ 29 * 2) (2 ^ 29)))

  sum_is : x ⊕ z ≡ units binary64 s (closest d (2 ^ 29) + 2 ^ 52) i
  sum_is =
      added s x z (d * 2 ^ i) (2 ^ 81 * 2 ^ i) (c * 2 ^ 29) finer v (rescaled z s (2 ^ 52 * 2 ^ i) c (2 ^ 81 * 2 ^ i) (c * 2 ^ 29) C (finely (2 ^ i) c) w)
      ∙ ap (λ (n : ℕ). round binary64 s n (c * 2 ^ 29)) (together d (2 ^ i))
      ∙ in_units binary64 s (d + 2 ^ 81) 29 i (omega arith) (inr (omega arith))
      ∙ ap (λ (n : ℕ). units binary64 s n i) (even_more d)
    where
      finely : (p c : ℕ) → 2 ^ 52 * p * (c * 2 ^ 29) ≡ 2 ^ 81 * p * c
      finely p c = omega arith

      together : (d p : ℕ) → d * p + 2 ^ 81 * p ≡ (d + 2 ^ 81) * p
      together d p = omega arith

  sum_value : HasValue (x ⊕ z) s (closest d (2 ^ 29) * 2 ^ i + 2 ^ 52 * 2 ^ i) c
  sum_value =
      let q = closest d (2 ^ 29) in
      subst (λ (n : ℕ). HasValue (x ⊕ z) s n c) (apart q (2 ^ i))
      (subst (λ (y : Float). Is y s (q + 2 ^ 52) i) (sym sum_is) (units_val binary64 s (q + 2 ^ 52) i (room (q + 2 ^ 52) i (few q most) l)))
    where
      apart : (q p : ℕ) → (q + 2 ^ 52) * p ≡ q * p + 2 ^ 52 * p
      apart q p = omega arith

      few : (q : ℕ) → q ≤ 2 ^ 24 → q + 2 ^ 52 ≤ 2 ^ 53
      few q h = omega arith

  rest_value : Is (x ⊕ z ⊖ z) s (closest d (2 ^ 29)) i
  rest_value =
      let q = closest d (2 ^ 29) in
      subst (λ (y : Float). Is y s q i) (sym (taken s (x ⊕ z) z (q * 2 ^ i) (2 ^ 52 * 2 ^ i) c C sum_value w (mul-pos (lt_of_lt_of_le (lit< tt) some) (pow_pos i))))
      (held s q i (few q most) l)
    where
      few : (q : ℕ) → q ≤ 2 ^ 24 → q < 2 ^ 53
      few q h = omega arith

-- ---- of the pattern b
edge_field : (b : ℕ) → Under b → field b ≤ 1150
edge_field b (inl h) = omega arith
edge_field b (inr h) = omega (arith, h.0)

-- what is kept of them is below 2 ^ 128
fine : (b : ℕ) → Under b → closest (digits b) (2 ^ 29) * 2 ^ (field b - 897) < 2 ^ 277
fine b (inl h) = lt_of_lt_of_le (shl_lt 25 (field b - 897) (less (closest (digits b) (2 ^ 29)) (kept_le 24 (digits b) 29 (omega arith)))) (pow_mono {j = 277} (omega arith))
  where
    less : (q : ℕ) → q ≤ 2 ^ 24 → q < 2 ^ 25
    less q h = omega arith
fine b (inr h) =
    subst (λ (f : ℕ). closest (digits b) (2 ^ 29) * 2 ^ (f - 897) < 2 ^ 277) (sym h.0)
    (shl_lt 24 253 (less (closest (digits b) (2 ^ 29)) (closest_mono (digits b) (2 ^ 29) (edge - 1) (2 ^ 29) (pow_pos 29) (pow_pos 29) (most (digits b) h.1))))
  where
    less : (q : ℕ) → q ≤ closest (edge - 1) (2 ^ 29) → q < 2 ^ 24
    less q h = omega arith

    most : (d : ℕ) → d < edge → d * 2 ^ 29 ≤ (edge - 1) * 2 ^ 29
    most d h = omega arith

module _ (b : ℕ) (lo : 897 ≤ field b) (un : Under b) where
  hi : field b ≤ 1150
  hi = edge_field b un

  abbrev s : Bool
  s = negative b

  abbrev d : ℕ
  d = digits b

  abbrev i : ℕ
  i = field b + 28

  x_value : HasValue (f64 b) s (d * 2 ^ i) (c * 2 ^ 29)
  x_value = rescaled (f64 b) s (d * 2 ^ (field b - 1)) c (d * 2 ^ i) (c * 2 ^ 29) C (finely d (field b) lo) (mid_value binary64 b (omega (arith, hi)) (omega (arith, hi)))
    where
      same : (f : ℕ) → 897 ≤ f → f + 28 ≡ f - 1 + 29
      same f h = omega arith

      finely : (d f : ℕ) → 897 ≤ f → d * 2 ^ (f - 1) * (c * 2 ^ 29) ≡ d * 2 ^ (f + 28) * c
      finely d f h = moved d (2 ^ (f - 1)) c ∙ ap (λ (p : ℕ). d * p * c) (sym (pow-add 2 (f - 1) 29) ∙ ap (λ (j : ℕ). 2 ^ j) (sym (same f h)))
        where
          moved : (d p c : ℕ) → d * p * (c * 2 ^ 29) ≡ d * (p * 2 ^ 29) * c
          moved d p c = omega arith

  product_value : Is (scaled (f64 b)) s d i
  product_value =
      subst (λ (y : Float). Is y s d i)
      (sym (ap (λ (y : Float). f64 b ⊗ y) scale_is ∙ times (f64 b) s (d * 2 ^ i) (c * 2 ^ 29) (pos 29) finer x_value ∙ round_same binary64 s (d * 2 ^ i * 2 ^ 29) (c * 2 ^ 29 * 1) (d * 2 ^ i) c (mul-pos {n = 1} finer (lit< tt)) C (moved (d * 2 ^ i) c)))
      (held s d i (omega (arith, hi)) (omega (arith, hi)))
    where
      moved : (n c : ℕ) → n * 2 ^ 29 * c ≡ n * (c * 2 ^ 29 * 1)
      moved n c = omega arith

  pub product_number : T (not (is_nan (scaled (f64 b))))
  product_number = not_nan (scaled (f64 b)) s (d * 2 ^ i) c product_value

  power_bits : leading (to_bits binary64 (scaled (f64 b))) ≡ at s (2 ^ 52) i
  power_bits =
      ap leading (pattern (scaled (f64 b)) s d i (omega (arith, hi)) (omega (arith, hi)) (omega (arith, hi)) (mul-fits binary64 (f64 b) (f64 0x41c0_0000_0000_0000)) product_value)
      ∙ cut d i (omega (arith, hi)) (omega (arith, hi)) (omega (arith, hi)) s

  pub power_number : T (not (nan_bits binary64 (leading (to_bits binary64 (scaled (f64 b))))))
  power_number = number_pattern (leading (to_bits binary64 (scaled (f64 b)))) (subst (λ (n : ℕ). n % 2 ^ 63 ≤ 0x7ff0_0000_0000_0000) (sym power_bits) (a_number (2 ^ 52) i (omega (arith, hi)) (omega (arith, hi)) (omega (arith, hi)) s))

  power_value : Is (power (f64 b)) s (2 ^ 52) i
  power_value =
      let y = round binary64 s (2 ^ 52 * 2 ^ i) c in
      let v : Is y s (2 ^ 52) i = held s (2 ^ 52) i (lit< tt) (omega (arith, hi)) in
      subst (λ (z : Float). Is z s (2 ^ 52) i) (sym (ap (of_bits binary64) power_bits ∙ packed binary64 s (2 ^ 52) i y (round-fits binary64 s (2 ^ 52 * 2 ^ i) c) v (omega (arith, hi)) (inr (omega (arith, hi))))) v

  answer_value : Is (answer (f64 b)) s (closest d (2 ^ 29)) i
  answer_value = rest_value (f64 b) (power (f64 b)) s d i (omega (arith, hi)) (omega (arith, hi)) (omega (arith, hi)) x_value power_value

  nearest_value : Is (narrowed (f64 b)) s (closest d (2 ^ 29)) i
  nearest_value =
      let q = closest d (2 ^ 29) in
      let k = field b - 897 in
      let e : narrowed (f64 b) ≡ units binary32 s q k = normal b lo (omega (arith, hi)) ∙ in_units binary32 s d 29 k (omega (arith, hi)) (inr (omega (arith, hi))) in
      rescaled (narrowed (f64 b)) s (q * 2 ^ k) (2 ^ 149) (q * 2 ^ i) c (pow_pos 149) (finely q (field b) lo)
      (subst (λ (z : Float). HasValue z s (q * 2 ^ k) (2 ^ 149)) (sym e) (units_val binary32 s q k (fine b un)))
    where
      same : (f : ℕ) → 897 ≤ f → f + 28 ≡ f - 897 + 925
      same f h = omega arith

      moved : (q p r t : ℕ) → q * p * (r * t) ≡ q * (p * r) * t
      moved q p r t = omega arith

      finely : (q f : ℕ) → 897 ≤ f → q * 2 ^ (f - 897) * c ≡ q * 2 ^ (f + 28) * 2 ^ 149
      finely q f h =
          ap (λ (n : ℕ). q * 2 ^ (f - 897) * n) (pow-add 2 925 149)
          ∙ moved q (2 ^ (f - 897)) (2 ^ 925) (2 ^ 149)
          ∙ ap (λ (p : ℕ). q * p * 2 ^ 149) (sym (pow-add 2 (f - 897) 925) ∙ ap (λ (j : ℕ). 2 ^ j) (sym (same f h)))

  pub answer_is : answer (f64 b) ≡ narrowed (f64 b)
  answer_is =
      unique binary64 (answer (f64 b)) (narrowed (f64 b)) s (closest d (2 ^ 29) * 2 ^ i) c C
      (sub-fits binary64 (f64 b ⊕ power (f64 b)) (power (f64 b))) (fits_widens (narrowed (f64 b)) (narrow_fits (f64 b))) answer_value nearest_value

  pub answer_number : T (not (is_nan (answer (f64 b))))
  answer_number = not_nan (answer (f64 b)) s (closest d (2 ^ 29) * 2 ^ i) c answer_value
