-- How far a rounding goes (`rounded`): at most half a unit in the last place, in either format, for subnormal results and up to the step to infinity. Assumes nothing.
use mathlib.Core.Path.{◌≡◌, sym, ap, ◌∙◌, subst}
use mathlib.Core.Logic.{◌⊎◌, inl, inr}
use Prim.Native.Nat.{ℕ, zero, suc, ◌+◌, ◌-◌, ◌*◌, ◌/◌, ◌%◌, ◌^◌, ◌≤◌, ◌<◌, compare, Ordering}
use native.Mathlib.Nat.{le_trans, eq-zero-or-pos, mul_assoc, mul_comm, mul-le-mul_right, mul-pos, div-mul-le_self, div-add-mod', mod-lt, add-mul, suc-mul, add-zero, one-mul, zero-lt-suc}
use native.Mathlib.Omega.{arith}
use mathlib.Core.Bool.{Bool, not}
use lib.Dec.{T, ltb, is_le, compare_is_eq, leb→le, nleb→lt, eqb→eq}
use lib.Arith.{le→nltb}
use lib.Pow.{pow_pos}
use lib.Ieee.{Float, inf, Format, prec, low, size, nearest, odd, units}
use lib.Ieee.Digits.{size_reaches}
use lib.Ieee.Fits.{round_is, two, two-le_pos}
use lib.Ieee.Exact.{HasValue, units_val}
use lib.Ieee.Nearest.{closest}
use lib.Ieee.Order.{drop, kept}
use lib.Ieee.Scale.{overflow}
use lib.Ieee.Bits.{cond_no}
use Rattle.exact.specs.Rounding.{Rounded}

-- ---- a fraction to the nearest whole number: at most a half away

-- which way twice the remainder compares with the divisor
abbrev Way : Ordering → ℕ → ℕ → Type 0
Way Ordering.lt a b = a ≤ b
Way Ordering.eq a b = a ≡ b
Way Ordering.gt a b = b < a

way : (a b : ℕ) → Way (compare a b) a b
way a b = go (compare a b) (leb→le a b) (nleb→lt a b) (eqb→eq a b)
  where
    go : (o : Ordering) → (T (is_le o) → a ≤ b) → (T (not (is_le o)) → b < a) → (T (compare_is_eq o) → a ≡ b) → Way o a b
    go Ordering.lt h k e = h tt
    go Ordering.eq h k e = e tt
    go Ordering.gt h k e = k tt

-- at a tie the rounded number is w or w + 1, and both are a half away
tie : (b w r u n : ℕ) → b < 2 → r * 2 ≡ u → w * u + r ≡ n → (2 * ((w + b) * u) ≤ 2 * n + u) × (2 * n ≤ 2 * ((w + b) * u) + u)
tie zero w r u n l h e = rw (add-zero w) (omega arith)
tie (suc zero) w r u n l h e = rw (add-mul w 1 u, one-mul u) (omega arith)
tie (suc (suc b)) w r u n l h e = absurd (big b l)
  where
    big : (b : ℕ) → suc (suc b) < 2 → ⊥
    big b l = omega arith

half_off : (w r u n : ℕ) (o : Ordering) → Way o (r * 2) u → r < u → w * u + r ≡ n
    → (2 * (nearest w o * u) ≤ 2 * n + u) × (2 * n ≤ 2 * (nearest w o * u) + u)
half_off w r u n Ordering.lt h l e = omega arith
half_off w r u n Ordering.eq h l e = tie (w % 2) w r u n (mod-lt w (zero-lt-suc 1)) h e
half_off w r u n Ordering.gt h l e = rw (suc-mul w u) (omega arith)

closest_near : (n u : ℕ) → 0 < u → (2 * (closest n u * u) ≤ 2 * n + u) × (2 * n ≤ 2 * (closest n u * u) + u)
closest_near n u h = half_off (n / u) (n % u) u n (compare (n % u * 2) u) (way (n % u * 2) u) (mod-lt n h) (div-add-mod' n u)

-- ---- where digits are dropped, the fraction has all the digits that the format keeps
reached : (p n c : ℕ) → 0 < p → 0 < c → (drop p n c ≡ 0) ⊎ (2 ^ (p - 1 + drop p n c) * c ≤ n)
reached p n c P C = elim (eq-zero-or-pos (drop p n c)) [
  | inl z ↦ inl z
  | inr h ↦ inr (le_trans (mul-le-mul_right c (size_reaches (n / c) (p - 1 + drop p n c) (all (size (n / c)) p P h))) (div-mul-le_self n c))
]
  where
    all : (z p : ℕ) → 0 < p → 0 < z - p → p - 1 + (z - p) < z
    all z p P h = omega arith

-- ---- from `overflow` units on
pub past : (f : Format) (s : Bool) (q k : ℕ) → overflow f ≤ q * 2 ^ k → units f s q k ≡ inf s
unfolding units
past f s q k h = cond_no (ltb (q * 2 ^ k) (overflow f)) (odd (suc (prec f)) s q k (low f)) (inf s) (le→nltb (q * 2 ^ k) (overflow f) h)

pub rounded : (f : Format) (s : Bool) (a c : ℕ) → 0 < c → Rounded f s a c
rounded f s a c C =
    let p = prec f in
    let n = a * 2 ^ low f in
    let k = drop p n c in
    let q = kept p n c in
    let near = closest_near n (c * 2 ^ k) (mul-pos C (pow_pos k)) in
    let same : q * (c * 2 ^ k) ≡ q * 2 ^ k * c = ap (λ (x : ℕ). q * x) (mul_comm c (2 ^ k)) ∙ sym (mul_assoc q (2 ^ k) c) in
    record {
      steps = q * 2 ^ k;
      last = k;
      not_above = subst (λ (x : ℕ). 2 * x ≤ 2 * n + c * 2 ^ k) same near.0;
      not_below = subst (λ (x : ℕ). 2 * n ≤ 2 * x + c * 2 ^ k) same near.1;
      place = reached p n c (two-le_pos p (two f)) C;
      under = λ (h : q * 2 ^ k < overflow f). subst (λ (x : Float). HasValue x s (q * 2 ^ k) (2 ^ low f)) (sym (round_is f s a c)) (units_val f s q k h);
      over = λ (h : overflow f ≤ q * 2 ^ k). round_is f s a c ∙ past f s q k h;
    }
