-- On which side of 0 a quotient and a product lie, from the sides of what they are of; and what it is not to be above 0. Nothing is asked of the operands: NaN,
-- infinities and zeros are cases. Assumes nothing.
use mathlib.Core.Path.{◌≡◌, refl, sym, ap, ◌∙◌, subst}
use mathlib.Core.Logic.{◌↔◌}
use mathlib.Core.Bool.{Bool, true, false, cond, ◌||◌, true≢false, false≢true}
use Prim.Native.Nat.{ℕ, zero, suc, ◌+◌, ◌*◌, ◌^◌, ◌<◌}
use native.Mathlib.Nat.{zero-mul, mul-zero, mul-pos}
use lib.IntN.{ℤ}
use lib.Dec.{ltb, eqb-suc-zero}
use lib.Ieee.{Float, nan, inf, fin, binary64, prec, low, emax, up, down, unlike, odd, units, round, lt, le, mul, div, of_bits, is_nan}
use lib.Ieee.Fits.{round_is, down_pos}
use lib.Ieee.Exact.{HasValue, odd_sign}
use Rattle.exact.specs.F64.{is_zero, ◌⊗◌, ◌⊘◌}
use Rattle.exact.proofs.Tests.{size_pos, plus_not_below, zero_not_below, above_zero, below_zero, is_zero_lem}
use Rattle.exact.proofs.Zeros.{zero_rounds, nought, not_under}
use Rattle.lens.specs.Constants.{zeros}

-- neither NaN nor a zero, and of the sign s
abbrev pub Lies : Bool → Float → Type 0
Lies s nan = ⊥
Lies s (inf t) = s ≡ t
Lies s (fin t zero e) = ⊥
Lies s (fin t (suc m) e) = s ≡ t

-- ---- as comparisons

not_above_plus : (e : ℤ) → lt zeros (fin false zero e) ≡ false
unfolding lt of_bits
not_above_plus e = ap (ltb (0 * down e)) (nought (up e) 1) ∙ not_under (0 * down e)

pub above_lies : (x : Float) → lt zeros x ≡ true → Lies false x
above_lies nan h = absurd (false≢true (unfold lt of_bits in h))
above_lies (inf true) h = absurd (false≢true (unfold lt of_bits in h))
above_lies (inf false) h = refl
above_lies (fin true zero e) h = absurd (false≢true (unfold lt of_bits in h))
above_lies (fin true (suc m) e) h = absurd (false≢true (unfold lt of_bits in h))
above_lies (fin false zero e) h = absurd (false≢true (sym (not_above_plus e) ∙ h))
above_lies (fin false (suc m) e) h = refl

pub lies_above : (x : Float) → Lies false x → lt zeros x ≡ true
lies_above nan h = absurd h
lies_above (inf true) h = absurd (false≢true h)
lies_above (inf false) h = unfold lt of_bits in refl
lies_above (fin true zero e) h = absurd h
lies_above (fin true (suc m) e) h = absurd (false≢true h)
lies_above (fin false zero e) h = absurd h
lies_above (fin false (suc m) e) h = above_zero m e

pub below_lies : (x : Float) → lt x zeros ≡ true → Lies true x
below_lies nan h = absurd (false≢true (unfold lt of_bits in h))
below_lies (inf t) h = sym (unfold lt of_bits in h)
below_lies (fin true zero e) h = absurd (zero_not_below e h)
below_lies (fin true (suc m) e) h = refl
below_lies (fin false m e) h = absurd (plus_not_below m e h)

pub lies_below : (x : Float) → Lies true x → lt x zeros ≡ true
lies_below nan h = absurd h
lies_below (inf true) h = unfold lt of_bits in refl
lies_below (inf false) h = absurd (true≢false h)
lies_below (fin true zero e) h = absurd h
lies_below (fin true (suc m) e) h = below_zero m e
lies_below (fin false zero e) h = absurd h
lies_below (fin false (suc m) e) h = absurd (true≢false h)

-- ---- ≤ 0 is said of the numbers that aren't above 0

either_true : (a b : Bool) → b ≡ true → (a || b) ≡ true
either_true true b h = refl
either_true false b h = h

not_below : (x : Float) → (lt x zeros ≡ true → ⊥) → lt x zeros ≡ false
not_below x n = go (lt x zeros) refl
  where
    go : (b : Bool) → lt x zeros ≡ b → b ≡ false
    go true e = absurd (n e)
    go false e = refl

le_is : (x : Float) → le x zeros ≡ (lt x zeros || is_zero x)
unfolding le
le_is x = ap (λ (b : Bool). lt x zeros || b) (is_zero_lem x)

zero_le : (s : Bool) (e : ℤ) → le (fin s zero e) zeros ≡ true
zero_le s e = le_is (fin s zero e) ∙ either_true (lt (fin s zero e) zeros) (is_zero (fin s zero e)) (unfold is_zero in refl)

below_le : (x : Float) → lt x zeros ≡ true → le x zeros ≡ true
below_le x h = le_is x ∙ ap (λ (b : Bool). b || is_zero x) h

above_not_le : (m : ℕ) (e : ℤ) → le (fin false (suc m) e) zeros ≡ false
above_not_le m e = le_is (fin false (suc m) e) ∙ ap (λ (b : Bool). b || is_zero (fin false (suc m) e)) (not_below (fin false (suc m) e) (plus_not_below (suc m) e)) ∙ unfold is_zero in refl

minus_not_above : (m : ℕ) (e : ℤ) → lt zeros (fin true m e) ≡ false
unfolding lt of_bits
minus_not_above m e = refl

pub not_above : (x : Float) → (le x zeros ≡ true) ↔ ((is_nan x ≡ false) × (lt zeros x ≡ false))
not_above nan = unfold le is_nan in (λ h. absurd (false≢true h), λ p. absurd (true≢false p.0))
not_above (inf true) = unfold le lt of_bits is_nan in (λ h. (refl, refl), λ p. refl)
not_above (inf false) = unfold le lt of_bits is_nan in (λ h. absurd (false≢true h), λ p. absurd (true≢false p.1))
not_above (fin true zero e) = (λ h. (unfold is_nan in refl, minus_not_above zero e), λ p. zero_le true e)
not_above (fin true (suc m) e) = (λ h. (unfold is_nan in refl, minus_not_above (suc m) e), λ p. below_le (fin true (suc m) e) (below_zero m e))
not_above (fin false zero e) = (λ h. (unfold is_nan in refl, not_above_plus e), λ p. zero_le false e)
not_above (fin false (suc m) e) = (λ h. absurd (false≢true (sym (above_not_le m e) ∙ h)), λ p. absurd (true≢false (sym (above_zero m e) ∙ p.1)))

-- ---- a rounded fraction has the sign it is given, and 0 rounds to a zero

value_lies : (x : Float) (s t : Bool) (a c : ℕ) → HasValue x s a c → Lies t x → t ≡ s
value_lies nan s t a c p h = absurd p
value_lies (inf v) s t a c p h = absurd p
value_lies (fin v zero e) s t a c p h = absurd h
value_lies (fin v (suc m) e) s t a c p h = h ∙ p.0

units_lies : (s t : Bool) (q k : ℕ) → Lies t (units binary64 s q k) → t ≡ s
unfolding units
units_lies s t q k h = go (ltb (q * 2 ^ k) (2 ^ (low binary64 + suc (emax binary64)))) h
  where
    go : (b : Bool) → Lies t (cond b (odd (suc (prec binary64)) s q k (low binary64)) (inf s)) → t ≡ s
    go true h = value_lies (odd (suc (prec binary64)) s q k (low binary64)) s t (q * 2 ^ k) (2 ^ low binary64) (odd_sign (suc (prec binary64)) s q k (low binary64)) h
    go false h = h

round_sign : (s t : Bool) (a c : ℕ) → Lies t (round binary64 s a c) → t ≡ s
round_sign s t a c h = units_lies s t _ _ (subst (Lies t) (round_is binary64 s a c) h)

round_none : (s t : Bool) (a c : ℕ) → a ≡ 0 → 0 < c → Lies t (round binary64 s a c) → ⊥
round_none s t a c z C h = subst (Lies t) (zero_rounds binary64 s a c z C) h

-- ---- a quotient, by what lies on the side u

turned_back : (s t u v : Bool) → t ≡ unlike s v → u ≡ v → unlike t u ≡ s
turned_back true t true v p q = rw (p, ← q) refl
turned_back true t false v p q = rw (p, ← q) refl
turned_back false t true v p q = rw (p, ← q) refl
turned_back false t false v p q = rw (p, ← q) refl

pub quotient_lies : (x y : Float) (t u : Bool) → Lies u y → Lies t (x ⊘ y) → Lies (unlike t u) x
unfolding div
quotient_lies nan y t u g h = absurd h
quotient_lies (inf s) nan t u g h = absurd g
quotient_lies (inf s) (inf v) t u g h = absurd h
quotient_lies (inf s) (fin v zero d) t u g h = absurd g
quotient_lies (inf s) (fin v (suc n) d) t u g h = turned_back s t u v h g
quotient_lies (fin s m e) nan t u g h = absurd g
quotient_lies (fin s m e) (inf v) t u g h = absurd h
quotient_lies (fin s m e) (fin v zero d) t u g h = absurd g
quotient_lies (fin s zero e) (fin v (suc n) d) t u g h =
    absurd (round_none (unlike s v) t _ _ (nought (up e) (down d)) (size_pos n d e) (rw (eqb-suc-zero n) at h))
quotient_lies (fin s (suc m) e) (fin v (suc n) d) t u g h =
    turned_back s t u v (round_sign (unlike s v) t (suc m * up e * down d) (suc n * up d * down e) (rw (eqb-suc-zero n) at h)) g

-- ---- a product: its second factor lies on some side, and so the first

pub product_lies : (x y : Float) (t : Bool) → Lies t (x ⊗ y) → (u : Bool) × (Lies u y × Lies (unlike t u) x)
unfolding mul
product_lies nan y t h = absurd h
product_lies (inf s) nan t h = absurd h
product_lies (inf s) (inf v) t h = (v, (refl, turned_back s t v v h refl))
product_lies (inf s) (fin v zero d) t h = absurd h
product_lies (inf s) (fin v (suc n) d) t h = (v, (refl, turned_back s t v v (rw (eqb-suc-zero n) at h) refl))
product_lies (fin s m e) nan t h = absurd h
product_lies (fin s zero e) (inf v) t h = absurd h
product_lies (fin s (suc m) e) (inf v) t h = (v, (refl, turned_back s t v v (rw (eqb-suc-zero m) at h) refl))
product_lies (fin s zero e) (fin v n d) t h = absurd (round_none (unlike s v) t _ _ (nought (up e) (n * up d)) (mul-pos (down_pos e) (down_pos d)) h)
product_lies (fin s (suc m) e) (fin v zero d) t h =
    absurd
    (round_none (unlike s v) t _ _ (ap (λ (z : ℕ). suc m * up e * z) (zero-mul (up d)) ∙ mul-zero (suc m * up e)) (mul-pos (down_pos e) (down_pos d)) h)
product_lies (fin s (suc m) e) (fin v (suc n) d) t h = (v, (refl, turned_back s t v v (round_sign (unlike s v) t (suc m * up e * (suc n * up d)) (down e * down d) h) refl))

pub over_nan : (x : Float) → x ⊘ nan ≡ nan
unfolding div
over_nan nan = refl
over_nan (inf s) = refl
over_nan (fin s m e) = refl

unturned : (t : Bool) → unlike t false ≡ t
unturned true = refl
unturned false = refl

pub turned_twice : (t u : Bool) → unlike (unlike t u) u ≡ t
turned_twice true true = refl
turned_twice true false = refl
turned_twice false true = refl
turned_twice false false = refl

-- ---- a quotient by what isn't ≤ 0, be it NaN, lies where the number does that is divided

pub forward : (x k : Float) (t : Bool) → le k zeros ≡ false → Lies t (x ⊘ k) → Lies t x
forward x nan t g h = absurd (subst (Lies t) (over_nan x) h)
forward x (inf true) t g h = absurd (true≢false (sym (below_le (inf true) (lies_below (inf true) refl)) ∙ g))
forward x (inf false) t g h = subst (λ (u : Bool). Lies u x) (unturned t) (quotient_lies x (inf false) t false refl h)
forward x (fin s zero e) t g h = absurd (true≢false (sym (zero_le s e) ∙ g))
forward x (fin true (suc m) e) t g h = absurd (true≢false (sym (below_le (fin true (suc m) e) (below_zero m e)) ∙ g))
forward x (fin false (suc m) e) t g h = subst (λ (u : Bool). Lies u x) (unturned t) (quotient_lies x (fin false (suc m) e) t false refl h)
