-- A number up to 1/2 counted in 2 ^ -60 (`counted`), and a count made a number again (`back`): what the cast asks for, and how far each lies from the exact one. Assumes nothing.
use Rattle.std.proofs.Common.{◌≡◌, ℕ, zero, suc, ◌+◌, ◌-◌, ◌*◌, ◌/◌, ◌^◌, ◌<◌, ◌≤◌, min, true, false, T, ◌⊎◌, pos, sym, refl, ap, ◌∙◌, subst, inl, inr, true≢false, mul-le-mul_right, zero-lt-suc, div-lt_iff_lt-mul, eq-zero-or-pos, eq-or-lt_of_le, mul-pos, zero-mul, div-mul-le_self, arith, lit≤, lt→ltb, pow_pos}
use native.Mathlib.Nat.{le-pred_of_lt, min-eq_left, div-le_of_le-mul, lt-div-mul-add}
use lib.Ieee.{Float, nan, inf, fin, binary64, up, down, round, mul, lt, of_int, of_bits, to_unsigned, fits}
use lib.Ieee.Fits.{up_pos, down_pos, round-fits}
use lib.Ieee.Exact.{HasValue}
use lib.Ieee.Scale.{finite}
use lib.Ieee.Back.{whole_unique}
use lib.Ieee.Nearest.{div_same}
use lib.Ieee.Positive.{num, den, den_pos}
use Rattle.exact.specs.F64.{◌⊗◌}
use Rattle.exact.specs.Fraction.{◌≼◌, ◌⊞◌, over, whole, opposite, Within, exactly}
use Rattle.exact.proofs.Fractions.{value, over-≼, ≼-≺-trans, ≈→≼, lt-≺, le-≼, within_same, exactly_proper}
use Rattle.exact.proofs.Laws.{rounding_monotone}
use Rattle.arctan.specs.Arctangent.{scale, unit, counted, back}
use Rattle.arctan.proofs.Rounds.{plain, plain_finite, plain_exactly, value_plain, apart, together, over-≺, PlainNear, round_near, scale_exact, unit_exact}

-- ---- a number that is not negative has no sign, or is -0

minus_zero : T (fits binary64 (fin true 0 (pos 0)))
unfolding fits
minus_zero = tt

pub no_sign : (x : Float) → T (fits binary64 x) → T (finite x) → whole 0 ≼ exactly x → T (plain x) ⊎ (x ≡ fin true 0 (pos 0))
unfolding exactly over opposite
no_sign (fin false m e) f p h = inl tt
no_sign (fin true zero e) f p h =
    inr (whole_unique binary64 (fin true zero e) (fin true 0 (pos 0)) true 0 f minus_zero (refl, ap (λ (z : ℕ). z * 1) (zero-mul (up e)) ∙ sym (zero-mul (down e))) (refl, refl))
no_sign (fin true (suc m) e) f p h = absurd (none (suc m * up e) (down e) (mul-pos (zero-lt-suc m) (up_pos e)) h.holds)
  where
    none : (a c : ℕ) → 0 < a → 0 * c + a * 1 ≤ 0 * 1 + 0 * c → ⊥
    none a c p h = omega arith
no_sign nan f p h = elim p [ ]
no_sign (inf _) f p h = elim p [ ]

-- ---- the cast cuts

cut : (w : Float) (a c : ℕ) → 0 < c → a < 2 ^ 64 * c → HasValue w false a c → to_unsigned 64 w ≡ a / c
unfolding to_unsigned
cut (fin false m e) a c C h v =
    ap (λ (x : ℕ). min x (2 ^ 64 - 1)) (div_same (m * up e) (down e) a c (down_pos e) C v.1) ∙ min-eq_left (le-pred_of_lt ((div-lt_iff_lt-mul C).1 h))
cut (fin true m e) a c C h v = absurd (true≢false v.0)
cut nan a c C h v = elim v [ ]
cut (inf _) a c C h v = elim v [ ]

-- ---- what the cast asks for: above -1, and below 2 ^ 64

above_minus_one : (w : Float) → T (plain w) → T (lt (fin true 1 (pos 0)) w)
unfolding lt
above_minus_one (fin false m e) p = lt→ltb 0 (1 * down e + m * up e * 1) (more (down e) (m * up e) (down_pos e))
  where
    more : (d a : ℕ) → 0 < d → 0 < 1 * d + a * 1
    more d a h = omega arith
above_minus_one nan p = elim p [ ]
above_minus_one (inf _) p = elim p [ ]
above_minus_one (fin true m e) p = elim p [ ]

under_top : (w : Float) (a c : ℕ) → 0 < c → a < 2 ^ 64 * c → HasValue w false a c → T (lt w (fin false 1 (pos 64)))
unfolding exactly
under_top w a c C h v =
    (lt-≺ w (fin false 1 (pos 64)) (plain_finite w (value_plain w a c v)) tt).1
    (≼-≺-trans (exactly_proper w) (≈→≼ (value w false a c v)) ((over-≺ a c (2 ^ 64) 1).1 (less a c (2 ^ 64) h)))
  where
    less : (a c b : ℕ) → a < b * c → a * 1 < b * c
    less a c b h = omega arith

-- what the cast asks for of z * 2 ^ 60, and how z's count lies to z
pub record Counted (z : Float) : Type 0 where
  pub above : T (lt (fin true 1 (pos 0)) (z ⊗ scale))
  pub under : T (lt (z ⊗ scale) (fin false 1 (pos 64)))
  pub most : counted z ≤ 2 ^ 59
  pub near : Within (over 1 (2 ^ 60)) (over (counted z) (2 ^ 60)) (exactly z)

-- -0 is counted 0
zero_counted : Counted (fin true 0 (pos 0))
unfolding counted to_unsigned mul of_bits lt exactly over opposite ◌⊞◌
zero_counted = record { above = tt; under = tt; most = lit≤ tt; near = record { left = record { above = lit≤ tt }; right = record { above = lit≤ tt }; not_above = record { holds = lit≤ tt }; not_below = record { holds = lit≤ tt } } }

-- s is n / d counted in 1 / u, cut
cut_near : (n d s u : ℕ) → 0 < d → 0 < u → s * d ≤ n * u → n * u < s * d + d → Within (over 1 u) (over s u) (over n d)
cut_near n d s u D U h k = together 1 u s u n d U D (omega (arith, mul-le-mul_right u h)) (omega (arith, mul-le-mul_right u k))

-- with no sign
plain_counted : (z : Float) → T (fits binary64 z) → T (plain z) → exactly z ≼ over 1 2 → Counted z
unfolding counted
plain_counted z f p h =
    let n = num z in
    let d = den z in
    let l : n * 2 ≤ 1 * d = (over-≼ n d 1 2).0 (rw (plain_exactly z p) at h) in
    let v = scale_exact z f p (rw (plain_exactly z p) ((over-≼ n d 1 1).1 (omega arith))) in
    let w = value_plain (z ⊗ scale) (n * 2 ^ 60) d v in
    let t : n * 2 ^ 60 < 2 ^ 64 * d = few n d l (den_pos z) in
    let e : to_unsigned 64 (z ⊗ scale) ≡ n * 2 ^ 60 / d = cut (z ⊗ scale) (n * 2 ^ 60) d (den_pos z) t v in
    record {
      above = above_minus_one (z ⊗ scale) w;
      under = under_top (z ⊗ scale) (n * 2 ^ 60) d (den_pos z) t v;
      most = rw e (div-le_of_le-mul d (half n d l));
      near = rw (e, plain_exactly z p) (cut_near n d (n * 2 ^ 60 / d) (2 ^ 60) (den_pos z) (pow_pos 60) (div-mul-le_self (n * 2 ^ 60) d) (lt-div-mul-add (den_pos z)));
    }
  where
    few : (n d : ℕ) → n * 2 ≤ 1 * d → 0 < d → n * 2 ^ 60 < 2 ^ 64 * d
    few n d h k = omega arith

    half : (n d : ℕ) → n * 2 ≤ 1 * d → n * 2 ^ 60 ≤ d * 2 ^ 59
    half n d h = omega arith

pub counted_near : (z : Float) → T (fits binary64 z) → T (finite z) → whole 0 ≼ exactly z → exactly z ≼ over 1 2 → Counted z
counted_near z f p lo hi = elim (no_sign z f p lo) [ inl q ↦ plain_counted z f q hi | inr e ↦ subst Counted (sym e) zero_counted ]

-- ---- back: the product by 2 ^ -60 is exact, so it is as far off as the whole number's own rounding

back_zero : PlainNear (back 0) (over 128 (2 ^ 60)) (over 0 (2 ^ 60))
unfolding back of_int mul of_bits exactly over opposite ◌⊞◌
back_zero = record { plain = tt; near = record { left = record { above = lit≤ tt }; right = record { above = lit≤ tt }; not_above = record { holds = lit≤ tt }; not_below = record { holds = lit≤ tt } } }

back_top : PlainNear (back (2 ^ 61)) (over 128 (2 ^ 60)) (over (2 ^ 61) (2 ^ 60))
unfolding back of_int mul of_bits exactly over opposite ◌⊞◌
back_top = record { plain = tt; near = record { left = record { above = lit≤ tt }; right = record { above = lit≤ tt }; not_above = record { holds = lit≤ tt }; not_below = record { holds = lit≤ tt } } }

one_rounded : round binary64 false 1 1 ≡ fin false 1 (pos 0)
unfolding round
one_rounded = refl

-- what is 1 at least rounds to 1 at least
from_one : (n : ℕ) → 0 < n → T (finite (round binary64 false n 1)) → whole 1 ≼ exactly (round binary64 false n 1)
unfolding exactly
from_one n h p = (le-≼ (fin false 1 (pos 0)) (round binary64 false n 1) tt p).0 (rw one_rounded at (rounding_monotone binary64 1 1 n 1 (zero-lt-suc 0) (zero-lt-suc 0) (up_to n h)))
  where
    up_to : (n : ℕ) → 0 < n → 1 * 1 ≤ n * 1
    up_to n h = omega arith

-- a whole number and its rounding, both counted in 1 / u
counted_in : (a c n u : ℕ) → 0 < c → 0 < u → Within (over (2 ^ 62) (2 ^ 55)) (over a c) (over n 1) → Within (over 128 u) (over a (c * u)) (over n u)
counted_in a c n u C U h =
    let k = apart (2 ^ 62) (2 ^ 55) a c n 1 h in
    together 128 u a (c * u) n u (mul-pos C U) U (times k.0) (times' k.1)
  where
    times : a * 1 * 2 ^ 55 ≤ n * c * 2 ^ 55 + 2 ^ 62 * (c * 1) → a * u * u ≤ n * (c * u) * u + 128 * (c * u * u)
    times h = let l : a ≤ n * c + 128 * c = omega arith in omega (arith, mul-le-mul_right (u * u) l)

    times' : n * c * 2 ^ 55 ≤ a * 1 * 2 ^ 55 + 2 ^ 62 * (c * 1) → n * (c * u) * u ≤ a * u * u + 128 * (c * u * u)
    times' h = let l : n * c ≤ a + 128 * c = omega arith in omega (arith, mul-le-mul_right (u * u) l)

back_between : (n : ℕ) → 0 < n → n < 2 ^ 61 → PlainNear (back n) (over 128 (2 ^ 60)) (over n (2 ^ 60))
unfolding back of_int
back_between n lo hi =
    let w = round binary64 false n 1 in
    let r = round_near n 1 62 (zero-lt-suc 0) (lit≤ tt) (less n hi) in
    let v = unit_exact w (round-fits binary64 false n 1) r.plain (from_one n lo (plain_finite w r.plain)) in
    record {
      plain = value_plain (w ⊗ unit) (num w) (den w * 2 ^ 60) v;
      near = within_same (exactly_proper (w ⊗ unit)) (value (w ⊗ unit) false (num w) (den w * 2 ^ 60) v)
          (counted_in (num w) (den w) n (2 ^ 60) (den_pos w) (pow_pos 60) (rw (plain_exactly w r.plain) at r.near));
    }
  where
    less : (n : ℕ) → n < 2 ^ 61 → 2 * n < 2 ^ 62 * 1
    less n h = omega arith

-- up to 2 ^ 61 at most 128 units off
pub back_near : (n : ℕ) → n ≤ 2 ^ 61 → PlainNear (back n) (over 128 (2 ^ 60)) (over n (2 ^ 60))
back_near n h = elim (eq-zero-or-pos n) [
  | inl z ↦ subst (λ (n : ℕ). PlainNear (back n) (over 128 (2 ^ 60)) (over n (2 ^ 60))) (sym z) back_zero
  | inr p ↦ elim (eq-or-lt_of_le h) [ inl t ↦ subst (λ (n : ℕ). PlainNear (back n) (over 128 (2 ^ 60)) (over n (2 ^ 60))) (sym t) back_top | inr l ↦ back_between n p l ]
]
