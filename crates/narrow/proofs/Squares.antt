-- The code's two tests of a square, and what they tell of the number: its exponent field is 897 at least or at most, and its size is below 2 ^ 128 - 2 ^ 103 or isn't. Assumes nothing.
use mathlib.Core.Path.{◌≡◌, refl, sym, ap, ◌∙◌, subst}
use mathlib.Core.Logic.{◌⊎◌, inl, inr}
use mathlib.Core.Bool.{Bool, true, false, not, true≢false}
use Prim.Native.Nat.{ℕ, ◌+◌, ◌-◌, ◌*◌, ◌%◌, ◌^◌, ◌≤◌, ◌<◌}
use native.Mathlib.Nat.{lt_of_lt_of_le, le_of_lt, le_trans, eq-or-lt_of_le, eq-zero-or-pos, mul-le-mul, mul-le-mul_right, mul-mul-mul_comm, mul-pos}
use native.Mathlib.Decide.{dec_le}
use native.Mathlib.Omega.{arith}
use lib.Dec.{T, lit<, lit≤}
use lib.Pow.{pow_pos, pow_mono, shl_lt}
use lib.Ieee.{Float, nan, inf, fin, binary64, up, down, unlike, round, le, mul, is_nan, of_bits}
use lib.Ieee.Exact.{HasValue}
use lib.Ieee.Fits.{down_pos}
use lib.Ieee.Positive.{positive, between, le_trans_positive}
use lib.Ieee.Scale.{round_same}
use Rattle.exact.specs.F64.{f64, ◌⊗◌}
use Rattle.exact.proofs.Laws.{rounding_monotone}
use Rattle.exact.proofs.Pattern.{low_value, mid_value}
use Rattle.narrow.proofs.Fields.{field, digits, negative, at_infinity}

-- ---- LEAST_SQUARE, 2 ^ -251, and LARGE_SQUARE, (2 ^ 128 - 2 ^ 103) ^ 2
abbrev pub least_square : Float
least_square = f64 0x3040_0000_0000_0000

abbrev pub large_square : Float
large_square = f64 0x4fef_ffff_e000_0008

-- the digits of 2 ^ 128 - 2 ^ 103, whose exponent field is 1150
abbrev pub edge : ℕ
edge = 2 ^ 53 - 2 ^ 28

-- ---- a square is no less than the f64 nearest to a fraction that its number's size squared isn't below, and so for no more
square_is : (x : Float) (s : Bool) (a c : ℕ) → 0 < c → HasValue x s a c → x ⊗ x ≡ round binary64 false (a * a) (c * c)
unfolding mul
square_is nan s a c C v = absurd v
square_is (inf t) s a c C v = absurd v
square_is (fin t m e) s a c C v =
    ap (λ (u : Bool). round binary64 u (m * up e * (m * up e)) (down e * down e)) (no_sign t)
    ∙ round_same binary64 false (m * up e * (m * up e)) (down e * down e) (a * a) (c * c) (mul-pos (down_pos e) (down_pos e)) (mul-pos C C)
    (mul-mul-mul_comm (m * up e) (m * up e) c c ∙ ap (λ (z : ℕ). z * z) v.1 ∙ mul-mul-mul_comm a (down e) a (down e))
  where
    no_sign : (t : Bool) → unlike t t ≡ false
    no_sign true = refl
    no_sign false = refl

unit : 0 < 2 ^ 1074
unit = pow_pos 1074

square_under : (x : Float) (s : Bool) (a n d : ℕ) → HasValue x s a (2 ^ 1074) → 0 < d → a * a * d ≤ n * (2 ^ 1074 * 2 ^ 1074) → T (le (x ⊗ x) (round binary64 false n d))
square_under x s a n d v D h =
    subst (λ (z : Float). T (le z (round binary64 false n d))) (sym (square_is x s a (2 ^ 1074) unit v)) (rounding_monotone binary64 (a * a) (2 ^ 1074 * 2 ^ 1074) n d (mul-pos unit unit) D h)

square_over : (x : Float) (s : Bool) (a n d : ℕ) → HasValue x s a (2 ^ 1074) → 0 < d → n * (2 ^ 1074 * 2 ^ 1074) ≤ a * a * d → T (le (round binary64 false n d) (x ⊗ x))
square_over x s a n d v D h =
    subst (λ (z : Float). T (le (round binary64 false n d) z)) (sym (square_is x s a (2 ^ 1074) unit v)) (rounding_monotone binary64 n d (a * a) (2 ^ 1074 * 2 ^ 1074) D (mul-pos unit unit) h)

-- a test that is passed, and a bound that wouldn't pass it
apart : (l x u : Float) → T (positive l) → T (positive u) → le l u ≡ false → T (le l x) → T (le x u) → ⊥
apart l x u L U e t h = subst T e (le_trans_positive l x u L (between l x u L U t h) U t h)

-- up to 2 ^ -126 the square is at most 2 ^ -252
too_small : (x : Float) (s : Bool) (a : ℕ) → HasValue x s a (2 ^ 1074) → a ≤ 2 ^ 948 → T (le least_square (x ⊗ x)) → ⊥
too_small x s a v h t =
    apart least_square (x ⊗ x) (round binary64 false 1 (2 ^ 252)) one two three t
    (square_under x s a 1 (2 ^ 252) v (pow_pos 252) (le_trans (mul-le-mul_right (2 ^ 252) (mul-le-mul h h)) (lit≤ tt)))
  where
    one : T (positive least_square)
    one = unfold of_bits in tt

    two : T (positive (round binary64 false 1 (2 ^ 252)))
    two = unfold round in tt

    three : le least_square (round binary64 false 1 (2 ^ 252)) ≡ false
    three = unfold le of_bits round in refl

-- from 2 ^ -125 on it is 2 ^ -250 at least
not_small : (x : Float) (s : Bool) (a : ℕ) → HasValue x s a (2 ^ 1074) → 2 ^ 949 ≤ a → T (le least_square (x ⊗ x))
not_small x s a v h = subst (λ (z : Float). T (le z (x ⊗ x))) is (square_over x s a 1 (2 ^ 251) v (pow_pos 251) (le_trans (lit≤ tt) (mul-le-mul_right (2 ^ 251) (mul-le-mul h h))))
  where
    is : round binary64 false 1 (2 ^ 251) ≡ least_square
    is = unfold of_bits round in refl

-- up to the f64 before 2 ^ 128 - 2 ^ 103 the square is below LARGE_SQUARE
not_large : (x : Float) (s : Bool) (a : ℕ) → HasValue x s a (2 ^ 1074) → a ≤ (edge - 1) * 2 ^ 1149 → T (le large_square (x ⊗ x)) → ⊥
not_large x s a v h t =
    apart large_square (x ⊗ x) (round binary64 false ((edge - 1) * (edge - 1) * 2 ^ 150) 1) one two three t
    (square_under x s a ((edge - 1) * (edge - 1) * 2 ^ 150) 1 v (lit< tt) (le_trans (mul-le-mul_right 1 (mul-le-mul h h)) (lit≤ tt)))
  where
    one : T (positive large_square)
    one = unfold of_bits in tt

    two : T (positive (round binary64 false ((edge - 1) * (edge - 1) * 2 ^ 150) 1))
    two = unfold round in tt

    three : le large_square (round binary64 false ((edge - 1) * (edge - 1) * 2 ^ 150) 1) ≡ false
    three = unfold le of_bits round in refl

-- and from there on it isn't
too_large : (x : Float) (s : Bool) (a : ℕ) → HasValue x s a (2 ^ 1074) → edge * 2 ^ 1149 ≤ a → T (le large_square (x ⊗ x))
too_large x s a v h =
    subst (λ (z : Float). T (le z (x ⊗ x))) is (square_over x s a (edge * edge * 2 ^ 150) 1 v (lit< tt) (le_trans (lit≤ tt) (mul-le-mul_right 1 (mul-le-mul h h))))
  where
    is : round binary64 false (edge * edge * 2 ^ 150) 1 ≡ large_square
    is = unfold of_bits round in refl

-- ---- what the tests tell of x
pub number : (x : Float) → le least_square (x ⊗ x) ≡ true → T (not (is_nan x))
unfolding is_nan mul le of_bits
number nan h = absurd (true≢false (sym h))
number (inf s) h = tt
number (fin s m e) h = tt

pub infinite_squares : (s : Bool) → (le least_square (inf s ⊗ inf s) ≡ true) × (le large_square (inf s ⊗ inf s) ≡ true)
unfolding mul le of_bits
infinite_squares true = (refl, refl)
infinite_squares false = (refl, refl)

-- d digits with k zeros behind them, compared with a power of two
narrower : (p l d k : ℕ) → d < 2 ^ p → p + k ≤ l → d * 2 ^ k ≤ 2 ^ l
narrower p l d k h m = le_of_lt (lt_of_lt_of_le (shl_lt p k h) (pow_mono {j = l} m))

wider : (l d k : ℕ) → 2 ^ 52 ≤ d → l ≤ k → 2 ^ 52 * 2 ^ l ≤ d * 2 ^ k
wider l d k h m = mul-le-mul h (pow_mono {i = l} m)

no_test : {t : Bool} → t ≡ false → T t → ⊥
no_test e t = subst T e t

-- a size below 2 ^ 128 - 2 ^ 103
abbrev pub Under : ℕ → Type 0
Under b = (field b < 1150) ⊎ ((field b ≡ 1150) × (digits b < edge))

module _ (b : ℕ) (f : field b < 2047) where
  abbrev Size : ℕ → Type 0
  Size a = HasValue (f64 b) (negative b) a (2 ^ 1074)

  size : 0 < field b → Size (digits b * 2 ^ (field b - 1))
  size p = mid_value binary64 b p f

  pub from : le least_square (f64 b ⊗ f64 b) ≡ true → 897 ≤ field b
  from h = elim (dec_le 897 (field b)) [
    | yes k ↦ k
    | no k ↦ absurd (elim (eq-zero-or-pos (field b)) [
      | inl e ↦ too_small (f64 b) (negative b) (b % 2 ^ 52 * 2 ^ 0) (low_value binary64 b e) (narrower 52 948 (b % 2 ^ 52) 0 (omega arith) (lit≤ tt)) (subst T (sym h) tt)
      | inr p ↦ too_small (f64 b) (negative b) (digits b * 2 ^ (field b - 1)) (size p) (narrower 53 948 (digits b) (field b - 1) (omega arith) (omega arith)) (subst T (sym h) tt)
    ])
  ]

  pub up_to : le least_square (f64 b ⊗ f64 b) ≡ false → field b ≤ 897
  up_to h = elim (dec_le (field b) 897) [
    | yes k ↦ k
    | no k ↦
        absurd (no_test h (not_small (f64 b) (negative b) (digits b * 2 ^ (field b - 1)) (size (omega arith)) (let e : 2 ^ 949 ≤ 2 ^ 52 * 2 ^ 897 = lit≤ tt in le_trans e (wider 897 (digits b) (field b - 1) (omega arith) (omega arith)))))
  ]

  far : 1150 < field b → edge * 2 ^ 1149 ≤ digits b * 2 ^ (field b - 1)
  far l = let e : edge * 2 ^ 1149 ≤ 2 ^ 52 * 2 ^ 1150 = lit≤ tt in le_trans e (wider 1150 (digits b) (field b - 1) (omega arith) (omega arith))

  there : field b ≡ 1150 → digits b * 2 ^ (field b - 1) ≡ digits b * 2 ^ 1149
  there e = ap (λ (z : ℕ). digits b * 2 ^ (z - 1)) e

  past_there : (field b ≡ 1150) → edge ≤ digits b → edge * 2 ^ 1149 ≤ digits b * 2 ^ (field b - 1)
  past_there e g = subst (λ (z : ℕ). edge * 2 ^ 1149 ≤ z) (sym (there e)) (mul-le-mul_right (2 ^ 1149) g)

  pub under : le large_square (f64 b ⊗ f64 b) ≡ false → Under b
  under h = elim (dec_le (field b) 1149) [
    | yes k ↦ inl (omega arith)
    | no k ↦ elim (dec_le (field b) 1150) [
      | no l ↦ absurd (never (omega arith) (far (omega arith)))
      | yes l ↦ elim (dec_le edge (digits b)) [
        | yes g ↦ absurd (never (omega arith) (past_there (omega arith) g))
        | no g ↦ inr (omega arith, omega arith)
      ]
    ]
  ]
    where
      never : 0 < field b → edge * 2 ^ 1149 ≤ digits b * 2 ^ (field b - 1) → ⊥
      never p g = no_test h (too_large (f64 b) (negative b) (digits b * 2 ^ (field b - 1)) (size p) g)

  pub past : 897 ≤ field b → le large_square (f64 b ⊗ f64 b) ≡ true → edge * 2 ^ 1149 ≤ digits b * 2 ^ (field b - 1)
  past m h = elim (dec_le (field b) 1149) [
    | yes k ↦ absurd (never (let e : 2 ^ 1201 ≤ (edge - 1) * 2 ^ 1149 = lit≤ tt in le_trans (narrower 53 1201 (digits b) (field b - 1) (omega arith) (omega arith)) e))
    | no k ↦ elim (dec_le (field b) 1150) [
      | no l ↦ far (omega arith)
      | yes l ↦ elim (dec_le edge (digits b)) [
        | yes g ↦ past_there (omega arith) g
        | no g ↦ absurd (never (subst (λ (z : ℕ). z ≤ (edge - 1) * 2 ^ 1149) (sym (there (omega arith))) (let d : digits b ≤ edge - 1 = omega arith in mul-le-mul_right (2 ^ 1149) d)))
      ]
    ]
  ]
    where
      never : digits b * 2 ^ (field b - 1) ≤ (edge - 1) * 2 ^ 1149 → ⊥
      never g = not_large (f64 b) (negative b) (digits b * 2 ^ (field b - 1)) (size (omega arith)) g (subst T (sym h) tt)

-- an f64 that isn't a NaN is an infinity, whose square is past all, or has a field below the last
pub infinite_or : (b : ℕ) → b % 2 ^ 63 ≤ 0x7ff0_0000_0000_0000 → (f64 b ≡ inf (negative b)) ⊎ (field b < 2047)
infinite_or b n = elim (eq-or-lt_of_le (last b n)) [
  | inl e ↦ inl (at_infinity b e (omega arith))
  | inr l ↦ inr l
]
  where
    last : (b : ℕ) → b % 2 ^ 63 ≤ 0x7ff0_0000_0000_0000 → field b ≤ 2047
    last b h = omega arith

pub never_infinite : (l x : Float) (s : Bool) → le l (inf s ⊗ inf s) ≡ true → x ≡ inf s → le l (x ⊗ x) ≡ false → ⊥
never_infinite l x s t e h = true≢false (sym t ∙ ap (λ (y : Float). le l (y ⊗ y)) (sym e) ∙ h)
