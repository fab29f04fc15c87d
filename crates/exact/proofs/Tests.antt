-- What a comparison with zero or with an infinity says of an f64: the tests that the code makes are the definitions' cases. Assumes nothing.
use mathlib.Core.Path.{◌≡◌, refl, sym, ap, subst}
use mathlib.Core.Bool.{Bool, true, false, not, ◌&&◌, ◌||◌, beq, true≢false}
use Prim.Native.Nat.{ℕ, zero, suc, ◌+◌, ◌*◌, ◌%◌, ◌≤◌, ◌<◌}
use native.Mathlib.Nat.{zero-lt-suc, mul-pos, zero-mul, lt_irrefl}
use native.Mathlib.Omega.{arith}
use lib.IntN.{ℤ, pos}
use lib.Dec.{T, ltb, ltb→lt, lt→ltb, eqb-suc-zero, eqb-zero-suc}
use lib.Ieee.{Float, nan, inf, fin, binary64, up, down, level, lt, eq, ne, of_bits, is_nan, nan_bits}
use lib.Ieee.Fits.{up_pos, down_pos}
use lib.Ieee.Bits.{is_true, nan_bits_above}
use lib.Ieee.Compare.{differs_from_itself}
use lib.Arith.{le→nltb}
use lib.Ieee.Scale.{finite}
use Rattle.std.specs.Float.{float_is_finite, float_with_sign}
use Rattle.exact.specs.F64.{f64, magnitude, is_zero}

-- a size above zero is no zero
pub size_pos : (m : ℕ) (e d : ℤ) → 0 < suc m * up e * down d
size_pos m e d = mul-pos (mul-pos (zero-lt-suc m) (up_pos e)) (down_pos d)

never : (a c : ℕ) → ltb a (0 * c) ≡ true → ⊥
never a c h = no a (subst (λ (z : ℕ). a < z) (zero-mul c) (ltb→lt a (0 * c) (subst T (sym h) tt)))
  where
    no : (a : ℕ) → a < 0 → ⊥
    no a h = omega arith

pub plus_not_below : (m : ℕ) (e : ℤ) → lt (fin false m e) (f64 0) ≡ true → ⊥
unfolding lt of_bits
plus_not_below m e h = never (m * up e * 1) (down e) h

pub zero_not_below : (e : ℤ) → lt (fin true zero e) (f64 0) ≡ true → ⊥
unfolding lt of_bits
zero_not_below e h = no (0 * up e) (0 * down e) (zero-mul (up e)) (zero-mul (down e)) (ltb→lt 0 (0 * up e * 1 + 0 * down e) (subst T (sym h) tt))
  where
    no : (a b : ℕ) → a ≡ 0 → b ≡ 0 → 0 < a * 1 + b → ⊥
    no a b p q h = omega arith

pub above_zero : (m : ℕ) (e : ℤ) → lt (f64 0) (fin false (suc m) e) ≡ true
unfolding lt of_bits
above_zero m e = is_true (ltb (0 * down e) (suc m * up e * 1)) (lt→ltb (0 * down e) (suc m * up e * 1) (subst (λ (z : ℕ). z < suc m * up e * 1) (sym (zero-mul (down e))) (size_pos m e (pos 0))))

-- ---- the library's words

pub finite_is : (x : Float) → float_is_finite x ≡ finite x
unfolding float_is_finite
finite_is nan = refl
finite_is (inf s) = refl
finite_is (fin s m e) = refl

pub size_is : (x : Float) → float_with_sign false x ≡ magnitude x
unfolding float_with_sign magnitude
size_is nan = refl
size_is (inf s) = refl
size_is (fin s m e) = refl

-- ---- zero

level_zeros : (s t : Bool) → level s 0 t 0 ≡ true
level_zeros s t = go (beq s t)
  where
    go : (b : Bool) → (true && (b || true)) ≡ true
    go true = refl
    go false = refl

level_above : (s t : Bool) (a : ℕ) → 0 < a → level s a t 0 ≡ false
level_above s t zero h = absurd (lt_irrefl 0 h)
level_above s t (suc a) h = ap (λ (b : Bool). b && (beq s t || b)) (eqb-suc-zero a)

level_under : (s t : Bool) (a : ℕ) → 0 < a → level s 0 t a ≡ false
level_under s t zero h = absurd (lt_irrefl 0 h)
level_under s t (suc a) h = ap (λ (b : Bool). b && (beq s t || true)) (eqb-zero-suc a)

pub equals_zero : (x : Float) (s : Bool) (e : ℤ) → eq x (fin s zero e) ≡ is_zero x
unfolding eq is_zero
equals_zero nan s e = refl
equals_zero (inf t) s e = refl
equals_zero (fin t zero d) s e = simp zero-mul (level_zeros t s)
equals_zero (fin t (suc m) d) s e = simp zero-mul (level_above t s (suc m * up d * down e) (size_pos m d e))

pub zero_equals : (y : Float) (s : Bool) (e : ℤ) → eq (fin s zero e) y ≡ is_zero y
unfolding eq is_zero
zero_equals nan s e = refl
zero_equals (inf t) s e = refl
zero_equals (fin t zero d) s e = simp zero-mul (level_zeros s t)
zero_equals (fin t (suc m) d) s e = simp zero-mul (level_under s t (suc m * up d * down e) (size_pos m d e))

pub is_zero_lem : (x : Float) → eq x (f64 0) ≡ is_zero x
unfolding of_bits
is_zero_lem x = equals_zero x false (pos 0)

-- ---- below zero
pub below_zero : (m : ℕ) (e : ℤ) → lt (fin true (suc m) e) (f64 0) ≡ true
unfolding lt of_bits
below_zero m e = is_true (ltb 0 (suc m * up e * 1 + 0 * down e)) (lt→ltb 0 (suc m * up e * 1 + 0 * down e) (more (suc m * up e * 1) (0 * down e) (size_pos m e (pos 0))))
  where
    more : (a b : ℕ) → 0 < a → 0 < a + b
    more a b h = omega arith

-- ---- a NaN, by its difference from itself and by its pattern

pub no_nan : (x : Float) → ne x x ≡ false → T (not (is_nan x))
unfolding ne is_nan
no_nan nan h = absurd (true≢false h)
no_nan (inf s) h = tt
no_nan (fin s m e) h = tt

pub is_nan_lem : (x : Float) → ne x x ≡ true → nan ≡ x
is_nan_lem x h = sym (differs_from_itself x (subst T (sym h) tt))

-- up to the infinity's pattern, the sign aside, stands no NaN
pub number_pattern : (b : ℕ) → b % 0x8000_0000_0000_0000 ≤ 0x7ff0_0000_0000_0000 → T (not (nan_bits binary64 b))
number_pattern b h = subst (λ (t : Bool). T (not t)) (sym (nan_bits_above binary64 b)) (le→nltb 0x7ff0_0000_0000_0000 (b % 0x8000_0000_0000_0000) h)
