-- Zeros in the f64 operations: what a sum, a difference, a product or a quotient with a zero gives, whatever the zero's sign. Assumes nothing.
use mathlib.Core.Path.{◌≡◌, refl, sym, ap, ◌∙◌}
use mathlib.Core.Logic.{◌⊎◌, inl, inr}
use mathlib.Core.Bool.{Bool, true, false, not, ◌&&◌, true≢false, false≢true}
use Prim.Native.Nat.{ℕ, zero, suc, ◌+◌, ◌-◌, ◌*◌, ◌<◌}
use native.Mathlib.Nat.{zero-mul, mul-zero, mul-pos, mul_assoc, mul_comm, zero-add, add-zero, sub-zero, sub_self, zero-lt-suc, le_refl}
use native.Mathlib.Omega.{arith}
use borrow.Author.Tests.{le-ltb, lt-ltb}
use lib.IntN.{ℤ, pos}
use lib.Dec.{T, ltb, eqb-suc-zero}
use lib.Ieee.{Float, nan, inf, fin, Format, binary64, up, down, unlike, round, sum, add, sub, mul, div, neg, of_bits, fits}
use lib.Ieee.Fits.{down_pos}
use lib.Ieee.Scale.{finite, round_same}
use Rattle.exact.specs.F64.{f64, minus, ◌⊕◌, ◌⊖◌, ◌⊗◌, ◌⊘◌, is_zero}
use Rattle.exact.proofs.Pattern.{unique, itself}
use Rattle.exact.proofs.Tests.{size_pos}

-- what holds of every zero, however its sign and exponent are written
pub zero_elim : (P : Float → Type 0) → ((s : Bool) (e : ℤ) → P (fin s zero e)) → (x : Float) → is_zero x ≡ true → P x
unfolding is_zero
zero_elim P h nan z = absurd (false≢true z)
zero_elim P h (inf s) z = absurd (false≢true z)
zero_elim P h (fin s zero e) z = h s e
zero_elim P h (fin s (suc m) e) z = absurd (false≢true z)

a_zero : (s : Bool) (e : ℤ) → is_zero (fin s zero e) ≡ true
unfolding is_zero
a_zero s e = refl

-- ---- rounded

zero_fits : (f : Format) (s : Bool) → T (fits f (fin s 0 (pos 0)))
unfolding fits
zero_fits f s = tt

-- Zero rounds to the zero of its sign, in either format.
pub zero_rounds : (f : Format) (s : Bool) (a c : ℕ) → a ≡ 0 → 0 < c → round f s a c ≡ fin s 0 (pos 0)
zero_rounds f s a c e C = round_same f s a c (0 * 1) 1 C (zero-lt-suc 0) (ap (λ (x : ℕ). x * 1) e ∙ sym (zero-mul c)) ∙ itself f s 0 (pos 0) (zero_fits f s)

zero_rounded : (s : Bool) (a c : ℕ) → a ≡ 0 → 0 < c → is_zero (round binary64 s a c) ≡ true
zero_rounded s a c e C = ap is_zero (zero_rounds binary64 s a c e C) ∙ a_zero s (pos 0)

-- a zero's exponent is written 0
one_zero : (s : Bool) (e : ℤ) → T (fits binary64 (fin s zero e)) → fin s zero e ≡ fin s 0 (pos 0)
one_zero s e t =
    unique binary64 (fin s zero e) (fin s 0 (pos 0)) s 0 (down e) (down_pos e) t (zero_fits binary64 s) (refl, ap (λ (x : ℕ). x * down e) (zero-mul (up e))) (refl, cc (zero-mul (down e)))

-- ---- sizes

pub nought : (a b : ℕ) → 0 * a * b ≡ 0
nought a b = ap (λ (x : ℕ). x * b) (zero-mul a) ∙ zero-mul b

downs_pos : (e d : ℤ) → 0 < down e * down d
downs_pos e d = mul-pos (down_pos e) (down_pos d)

pub not_under : (a : ℕ) → ltb a 0 ≡ false
not_under a = le-ltb a 0 (omega arith)

-- ---- two zeros added: -0 only if both are

zeros_sum : (s t : Bool) (a b c : ℕ) → a ≡ 0 → b ≡ 0 → 0 < c → sum binary64 s a t b c ≡ fin (s && t) 0 (pos 0)
unfolding sum
zeros_sum true true a b c p q C = zero_rounds binary64 true (a + b) c (omega arith) C
zeros_sum false false a b c p q C = zero_rounds binary64 false (a + b) c (omega arith) C
zeros_sum true false a b c p q C = rw (p, q) (zero_rounds binary64 false 0 c refl C)
zeros_sum false true a b c p q C = rw (p, q) (zero_rounds binary64 false 0 c refl C)

zeros_added : (s t : Bool) (e d : ℤ) → fin s zero e ⊕ fin t zero d ≡ fin (s && t) 0 (pos 0)
unfolding add
zeros_added s t e d = zeros_sum s t (0 * up e * down d) (0 * up d * down e) (down e * down d) (nought (up e) (down d)) (nought (up d) (down e)) (downs_pos e d)

pub zero_plus_zero : (x y : Float) → is_zero x ≡ true → is_zero y ≡ true → is_zero (x ⊕ y) ≡ true
zero_plus_zero x y p q =
    zero_elim (λ (x : Float). is_zero (x ⊕ y) ≡ true)
    (λ s e. zero_elim (λ (y : Float). is_zero (fin s zero e ⊕ y) ≡ true) (λ t d. ap is_zero (zeros_added s t e d) ∙ a_zero (s && t) (pos 0)) y q) x p

-- ---- a zero added to a number that is none: that number rounded, whatever the zero

zero_sum : (s t : Bool) (b c : ℕ) → 0 < b → sum binary64 s 0 t b c ≡ round binary64 t b c
unfolding sum
zero_sum true true b c B = ap (λ (x : ℕ). round binary64 true x c) (zero-add b)
zero_sum false false b c B = ap (λ (x : ℕ). round binary64 false x c) (zero-add b)
zero_sum true false b c B = rw (lt-ltb 0 b B) (ap (λ (x : ℕ). round binary64 false x c) (sub-zero b))
zero_sum false true b c B = rw (lt-ltb 0 b B) (ap (λ (x : ℕ). round binary64 true x c) (sub-zero b))

sum_zero : (s t : Bool) (a c : ℕ) → 0 < a → sum binary64 s a t 0 c ≡ round binary64 s a c
unfolding sum
sum_zero true true a c A = ap (λ (x : ℕ). round binary64 true x c) (add-zero a)
sum_zero false false a c A = ap (λ (x : ℕ). round binary64 false x c) (add-zero a)
sum_zero true false a c A = rw (not_under a, lt-ltb 0 a A) (ap (λ (x : ℕ). round binary64 true x c) (sub-zero a))
sum_zero false true a c A = rw (not_under a) (ap (λ (x : ℕ). round binary64 false x c) (sub-zero a))

-- over the denominator that it has without the zero
reduced : (t : Bool) (n : ℕ) (d e : ℤ) → round binary64 t (suc n * up d * down e) (down e * down d) ≡ round binary64 t (suc n * up d) (down d)
reduced t n d e = round_same binary64 t (suc n * up d * down e) (down e * down d) (suc n * up d) (down d) (downs_pos e d) (down_pos d) (mul_assoc (suc n * up d) (down e) (down d))

zero_plus_other : (s : Bool) (e : ℤ) (t : Bool) (n : ℕ) (d : ℤ) → fin s zero e ⊕ fin t (suc n) d ≡ round binary64 t (suc n * up d) (down d)
unfolding add
zero_plus_other s e t n d =
    ap (λ (x : ℕ). sum binary64 s x t (suc n * up d * down e) (down e * down d)) (nought (up e) (down d)) ∙ zero_sum s t (suc n * up d * down e) (down e * down d) (size_pos n d e) ∙ reduced t n d e

other_plus_zero : (s : Bool) (e : ℤ) (t : Bool) (n : ℕ) (d : ℤ) → fin t (suc n) d ⊕ fin s zero e ≡ round binary64 t (suc n * up d) (down d)
unfolding add
other_plus_zero s e t n d =
    ap (λ (x : ℕ). sum binary64 t (suc n * up d * down e) s x (down d * down e)) (nought (up e) (down d))
    ∙ sum_zero t s (suc n * up d * down e) (down d * down e) (size_pos n d e)
    ∙ ap (round binary64 t (suc n * up d * down e)) (mul_comm (down d) (down e))
    ∙ reduced t n d e

-- so any zero will do
pub any_zero_plus : (s t : Bool) (e d : ℤ) (y : Float) → is_zero y ≡ false → fin s zero e ⊕ y ≡ fin t zero d ⊕ y
any_zero_plus s t e d nan n = unfold add in refl
any_zero_plus s t e d (inf b) n = unfold add in refl
any_zero_plus s t e d (fin b zero k) n = absurd (true≢false (sym (a_zero b k) ∙ n))
any_zero_plus s t e d (fin b (suc m) k) n = zero_plus_other s e b m k ∙ sym (zero_plus_other t d b m k)

pub plus_any_zero : (s t : Bool) (e d : ℤ) (y : Float) → is_zero y ≡ false → y ⊕ fin s zero e ≡ y ⊕ fin t zero d
plus_any_zero s t e d nan n = unfold add in refl
plus_any_zero s t e d (inf b) n = unfold add in refl
plus_any_zero s t e d (fin b zero k) n = absurd (true≢false (sym (a_zero b k) ∙ n))
plus_any_zero s t e d (fin b (suc m) k) n = other_plus_zero s e b m k ∙ sym (other_plus_zero t d b m k)

-- and an f64 comes back itself
pub zero_plus_itself : (z x : Float) → is_zero z ≡ true → is_zero x ≡ false → T (fits binary64 x) → z ⊕ x ≡ x
zero_plus_itself z x p n f = zero_elim (λ (z : Float). z ⊕ x ≡ x) (λ s e. go s e x n f) z p
  where
    go : (s : Bool) (e : ℤ) (x : Float) → is_zero x ≡ false → T (fits binary64 x) → fin s zero e ⊕ x ≡ x
    go s e nan n f = unfold add in refl
    go s e (inf t) n f = unfold add in refl
    go s e (fin t zero d) n f = absurd (true≢false (sym (a_zero t d) ∙ n))
    go s e (fin t (suc m) d) n f = zero_plus_other s e t m d ∙ itself binary64 t (suc m) d f

pub itself_plus_zero : (x z : Float) → is_zero x ≡ false → is_zero z ≡ true → T (fits binary64 x) → x ⊕ z ≡ x
itself_plus_zero x z n p f = zero_elim (λ (z : Float). x ⊕ z ≡ x) (λ s e. go s e x n f) z p
  where
    go : (s : Bool) (e : ℤ) (x : Float) → is_zero x ≡ false → T (fits binary64 x) → x ⊕ fin s zero e ≡ x
    go s e nan n f = unfold add in refl
    go s e (inf t) n f = unfold add in refl
    go s e (fin t zero d) n f = absurd (true≢false (sym (a_zero t d) ∙ n))
    go s e (fin t (suc m) d) n f = other_plus_zero s e t m d ∙ itself binary64 t (suc m) d f

-- ---- a zero added to any f64: that f64, but -0 may become +0

abbrev Added : Float → Float → Type 0
Added x z = (x ⊕ z ≡ x) ⊎ ((x ≡ f64 0x8000_0000_0000_0000) × (x ⊕ z ≡ f64 0))

both_added : (s t : Bool) (e d : ℤ) → T (fits binary64 (fin s zero e)) → Added (fin s zero e) (fin t zero d)
both_added false t e d f = inl (zeros_added false t e d ∙ sym (one_zero false e f))
both_added true true e d f = inl (zeros_added true true e d ∙ sym (one_zero true e f))
both_added true false e d f = unfold of_bits in inr (one_zero true e f, zeros_added true false e d)

pub zero_added : (x z : Float) → T (fits binary64 x) → is_zero z ≡ true → (x ⊕ z ≡ x) ⊎ ((x ≡ f64 0x8000_0000_0000_0000) × (x ⊕ z ≡ f64 0))
zero_added x z f p = go (is_zero x) refl
  where
    go : (b : Bool) → is_zero x ≡ b → Added x z
    go false n = inl (itself_plus_zero x z n p f)
    go true n = zero_elim (λ (x : Float). T (fits binary64 x) → Added x z) (λ s e f. zero_elim (Added (fin s zero e)) (λ t d. both_added s t e d f) z p) x n f

-- ---- the sign turned, and differences

pub minus_is_zero : (x : Float) → is_zero (minus x) ≡ is_zero x
unfolding neg is_zero
minus_is_zero nan = refl
minus_is_zero (inf s) = refl
minus_is_zero (fin s zero e) = refl
minus_is_zero (fin s (suc m) e) = refl

pub zero_minus : (x : Float) → is_zero x ≡ true → is_zero (minus x) ≡ true
zero_minus x p = minus_is_zero x ∙ p

pub zero_less_zero : (x y : Float) → is_zero x ≡ true → is_zero y ≡ true → is_zero (x ⊖ y) ≡ true
unfolding sub
zero_less_zero x y p q = zero_plus_zero x (minus y) p (zero_minus y q)

-- A number less itself is +0.
self_sum : (s : Bool) (a c : ℕ) → 0 < c → sum binary64 s a (not s) a c ≡ fin false 0 (pos 0)
unfolding sum
self_sum false a c C = rw (le-ltb a a (le_refl a)) (zero_rounds binary64 false (a - a) c (sub_self a) C)
self_sum true a c C = rw (le-ltb a a (le_refl a)) (zero_rounds binary64 false (a - a) c (sub_self a) C)

pub self_less : (x : Float) → T (finite x) → x ⊖ x ≡ f64 0
unfolding sub add neg of_bits
self_less (fin s m e) p = self_sum s (m * up e * down e) (down e * down e) (downs_pos e e)
self_less nan p = elim p [ ]
self_less (inf _) p = elim p [ ]

-- ---- products: a zero times a number is a zero

zero_left : (s : Bool) (e : ℤ) (t : Bool) (n : ℕ) (d : ℤ) → is_zero (fin s zero e ⊗ fin t n d) ≡ true
unfolding mul
zero_left s e t n d = zero_rounded (unlike s t) (0 * up e * (n * up d)) (down e * down d) (nought (up e) (n * up d)) (downs_pos e d)

zero_right : (s : Bool) (e : ℤ) (t : Bool) (n : ℕ) (d : ℤ) → is_zero (fin t n d ⊗ fin s zero e) ≡ true
unfolding mul
zero_right s e t n d = zero_rounded (unlike t s) (n * up d * (0 * up e)) (down d * down e) (ap (λ (x : ℕ). n * up d * x) (zero-mul (up e)) ∙ mul-zero (n * up d)) (downs_pos d e)

pub zero_times : (x y : Float) → is_zero x ≡ true → T (finite y) → is_zero (x ⊗ y) ≡ true
zero_times x (fin t n d) p f = zero_elim (λ (x : Float). is_zero (x ⊗ fin t n d) ≡ true) (λ s e. zero_left s e t n d) x p
zero_times x nan p f = elim f [ ]
zero_times x (inf _) p f = elim f [ ]

pub times_zero : (x y : Float) → T (finite x) → is_zero y ≡ true → is_zero (x ⊗ y) ≡ true
times_zero (fin t n d) y f p = zero_elim (λ (y : Float). is_zero (fin t n d ⊗ y) ≡ true) (λ s e. zero_right s e t n d) y p
times_zero nan y f p = elim f [ ]
times_zero (inf _) y f p = elim f [ ]

-- ---- quotients: a zero by what is none is a zero, of a NaN it is NaN

zero_over : (s : Bool) (e : ℤ) (b : Bool) (n : ℕ) (k : ℤ) → is_zero (fin s zero e ⊘ fin b (suc n) k) ≡ true
unfolding div
zero_over s e b n k = rw (eqb-suc-zero n) (zero_rounded (unlike s b) (0 * up e * down k) (suc n * up k * down e) (nought (up e) (down k)) (size_pos n k e))

pub zero_over_other : (x y : Float) → is_zero x ≡ true → T (finite y) → is_zero y ≡ false → is_zero (x ⊘ y) ≡ true
zero_over_other x (fin b zero k) p t n = absurd (true≢false (sym (a_zero b k) ∙ n))
zero_over_other x (fin b (suc m) k) p t n = zero_elim (λ (x : Float). is_zero (x ⊘ fin b (suc m) k) ≡ true) (λ s e. zero_over s e b m k) x p
zero_over_other x nan p t n = elim t [ ]
zero_over_other x (inf _) p t n = elim t [ ]
