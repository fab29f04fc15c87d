-- What each test that arctangent makes of a finite f64 says of its number: against 0.4, 1, 2.5 and 2 ^ -20. The f64 0.4 lies above 2/5, and no f64 lies between the two. Assumes nothing.
use Rattle.std.proofs.Common.{◌≡◌, ℕ, ◌+◌, ◌-◌, ◌*◌, ◌^◌, ◌<◌, ◌≤◌, not, T, refl, ap, ◌∙◌, inl, inr, lt_of_le_of_lt, mul_assoc, lt_of_mul-lt-mul_right, arith, lit<, lit≤, T_not, pow_pos, pow-add, shl_lt}
use native.Mathlib.Nat.{eq_of_mul-eq-mul_right}
use lib.Ieee.{Float, binary64, lt, le, of_bits, fits}
use lib.Ieee.Scale.{finite}
use lib.Ieee.Positive.{num, den, den_pos, value→cross}
use Rattle.exact.specs.Fraction.{◌≼◌, ◌≺◌, over, whole, exactly}
use Rattle.exact.proofs.Fractions.{whole_proper, exactly_proper, over-≼, ≼-or-≺, ≼-≺-trans, ≺-≼-trans, lt-≺, le-≼}
use Rattle.exact.proofs.Pattern.{exponent_lt}
use Rattle.arctan.specs.Arctangent.{one, tiny, two_fifths, five_halves}
use Rattle.arctan.proofs.Rounds.{plain, plain_finite, plain_exactly, above_plain, over-≺, units_of, at_least}

-- ---- a test is one of the numbers

pub lt_says : (x c : Float) → T (finite x) → T (finite c) → T (lt x c) → exactly x ≺ exactly c
lt_says x c p q t = (lt-≺ x c p q).0 t

pub lt_denies : (x c : Float) → T (finite x) → T (finite c) → T (not (lt x c)) → exactly c ≼ exactly x
lt_denies x c p q t = elim (≼-or-≺ (exactly c) (exactly x)) [ inl h ↦ h | inr h ↦ absurd (T_not (lt x c) t ((lt-≺ x c p q).1 h)) ]

pub le_says : (x c : Float) → T (finite x) → T (finite c) → T (le x c) → exactly x ≼ exactly c
le_says x c p q t = (le-≼ x c p q).0 t

pub le_denies : (x c : Float) → T (finite x) → T (finite c) → T (not (le x c)) → exactly c ≺ exactly x
le_denies x c p q t = elim (≼-or-≺ (exactly x) (exactly c)) [ inl h ↦ absurd (T_not (le x c) t ((le-≼ x c p q).1 h)) | inr h ↦ h ]

-- ---- the numbers that the code compares with: 0.4, 2.5 and 2 ^ -20

-- ---- against 0.4: no f64 lies between 2/5 and it

fifths_finite : T (finite two_fifths)
unfolding of_bits
fifths_finite = tt

fifths_is : exactly two_fifths ≡ over 3602879701896397 (2 ^ 53)
unfolding of_bits exactly
fifths_is = refl

-- n / d is g / l and above 2/5, so above a quarter: g is at least m, a quarter of l
quarter_up : (n d m l : ℕ) → l ≡ 4 * m → 2 * d < n * 5 → (g : ℕ) → 0 < d → n * l ≡ g * d → m ≤ g
quarter_up n d m l e h g D k = at_least (4 * n) d g m D (k' ∙ k) (omega arith)
  where
    k' : 4 * n * m ≡ n * l
    k' = rw e (omega arith)

-- so it is a whole number j of 2 ^ -54: q * 2 ^ k units are j * 2 ^ 1020 of them
in_54 : (n d q k : ℕ) → 0 < d → 1072 < 53 + k → n * 2 ^ 1074 ≡ q * 2 ^ k * d → n * 2 ^ 54 ≡ q * 2 ^ (k - 1020) * d
in_54 n d q k D h e =
    let same : 2 ^ k ≡ 2 ^ (k - 1020) * 2 ^ 1020 = ap (λ (x : ℕ). 2 ^ x) (parts k h) ∙ pow-add 2 (k - 1020) 1020 in
    eq_of_mul-eq-mul_right (2 ^ 1020) (pow_pos 1020) (n * 2 ^ 54) (q * 2 ^ (k - 1020) * d) (mul_assoc n (2 ^ 54) (2 ^ 1020) ∙ e ∙ times q (2 ^ k) (2 ^ (k - 1020)) (2 ^ 1020) d same)
  where
    parts : (k : ℕ) → 1072 < 53 + k → k ≡ k - 1020 + 1020
    parts k h = omega arith

    times : (q g j m d : ℕ) → g ≡ j * m → q * g * d ≡ q * j * d * m
    times q g j m d e = rw e (omega arith)

-- 2/5 < j / 2 ^ 54 < 0.4 for no j
none_between : (n d j : ℕ) → 0 < d → n * 2 ^ 54 ≡ j * d → 2 * d < n * 5 → n * 2 ^ 53 < 3602879701896397 * d → ⊥
none_between n d j D e lo hi =
    let a : 2 * 2 ^ 54 < j * 5 = lt_of_mul-lt-mul_right d (omega arith) in
    let b : j < 2 * 3602879701896397 = lt_of_mul-lt-mul_right d (omega arith) in
    omega arith

pub below_fifths : (x : Float) → T (fits binary64 x) → T (finite x) → T (lt x two_fifths) → exactly x ≼ over 2 5
below_fifths x f p t = elim (≼-or-≺ (exactly x) (over 2 5)) [ inl h ↦ h | inr h ↦ absurd (none h) ]
  where
    none : over 2 5 ≺ exactly x → ⊥
    none h =
        let q = above_plain x p (≼-≺-trans (whole_proper 0) ((over-≼ 0 1 2 5).1 (lit≤ tt)) h) in
        let n = num x in
        let d = den x in
        let D = den_pos x in
        let u = units_of x f q in
        let k = u.zeros in
        let lo : 2 * d < n * 5 = (over-≺ 2 5 n d).0 (rw (plain_exactly x q) at h) in
        let hi : n * 2 ^ 53 < 3602879701896397 * d = (over-≺ n d 3602879701896397 (2 ^ 53)).0 (rw (plain_exactly x q, fifths_is) at (lt_says x two_fifths p fifths_finite t)) in
        let e = value→cross x (u.digits * 2 ^ k) (2 ^ 1074) u.value in
        let g = quarter_up n d (2 ^ 1072) (2 ^ 1074) refl lo (u.digits * 2 ^ k) D e in
        none_between n d (u.digits * 2 ^ (k - 1020)) D (in_54 n d u.digits k D (exponent_lt 1072 (53 + k) (lt_of_le_of_lt g (shl_lt 53 k u.few))) e) lo hi

pub from_fifths : (x : Float) → T (finite x) → T (not (lt x two_fifths)) → over 2 5 ≺ exactly x
from_fifths x p t = ≺-≼-trans (exactly_proper x) ((over-≺ 2 5 3602879701896397 (2 ^ 53)).1 (lit< tt)) (rw fifths_is at (lt_denies x two_fifths p fifths_finite t))

-- ---- against 1, 2.5 and 2 ^ -20

pub one_plain : T (plain one)
unfolding of_bits
one_plain = tt

pub one_is : exactly one ≡ whole 1
unfolding of_bits exactly
one_is = refl

halves_finite : T (finite five_halves)
unfolding of_bits
halves_finite = tt

halves_is : exactly five_halves ≡ over 5 2
unfolding of_bits exactly
halves_is = refl

pub up_to_one_lem : (x : Float) → T (finite x) → T (le x one) → exactly x ≼ whole 1
up_to_one_lem x p t = rw one_is at (le_says x one p (plain_finite one one_plain) t)

pub past_one : (x : Float) → T (finite x) → T (not (le x one)) → whole 1 ≺ exactly x
past_one x p t = rw one_is at (le_denies x one p (plain_finite one one_plain) t)

pub below_halves : (x : Float) → T (finite x) → T (lt x five_halves) → exactly x ≺ over 5 2
below_halves x p t = rw halves_is at (lt_says x five_halves p halves_finite t)

pub from_halves : (x : Float) → T (finite x) → T (not (lt x five_halves)) → over 5 2 ≼ exactly x
from_halves x p t = rw halves_is at (lt_denies x five_halves p halves_finite t)

tiny_finite : T (finite tiny)
unfolding of_bits
tiny_finite = tt

tiny_is : exactly tiny ≡ over 1 (2 ^ 20)
unfolding of_bits exactly
tiny_is = refl

pub below_tiny : (x : Float) → T (finite x) → T (lt x tiny) → exactly x ≺ over 1 (2 ^ 20)
below_tiny x p t = rw tiny_is at (lt_says x tiny p tiny_finite t)

pub from_tiny : (x : Float) → T (finite x) → T (not (lt x tiny)) → over 1 (2 ^ 20) ≼ exactly x
from_tiny x p t = rw tiny_is at (lt_denies x tiny p tiny_finite t)
