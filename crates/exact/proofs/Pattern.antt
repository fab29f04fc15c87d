-- A float by its size. Its bit pattern is worked out from its size alone (`bits_of_value`), so two floats of one size and sign are one (`unique`). A size may be given by any fraction that equals it (`rescaled`).
-- What a pattern's fields stand for (`low_value`, `mid_value`), and the pattern of a number of steps, for whoever puts a float together (`packed`). Assumes nothing.
use mathlib.Core.Path.{◌≡◌, refl, sym, ap, ◌∙◌, subst}
use mathlib.Core.Logic.{◌⊎◌, inl, inr}
use Prim.Native.Nat.{ℕ, zero, suc, ◌+◌, ◌-◌, ◌*◌, ◌/◌, ◌%◌, ◌^◌, ◌≤◌, ◌<◌}
use native.Mathlib.Nat.{le_antisymm, lt_of_lt_of_le, lt_of_le_of_lt, eq-or-lt_of_le, lt_irrefl, lt_of_not-le, div-one, mul-one, one-mul, add_assoc, suc-mul, mul_comm, mul_right_comm, mul-div_cancel, mul-le-mul_right, pow-succ', pow-suc, zero-mul, zero-add, le_refl, mul_assoc, eq_of_mul-eq-mul_right, mul-pos, le_trans, le_of_eq, add-mul, add-lt-add_of_le_of_lt, mul-lt-mul_of_pos_right, div-lt_iff_lt-mul, le_of_suc-le-suc, lt_of_mul-lt-mul_right}
use native.Mathlib.Omega.{arith}
use mathlib.Core.Bool.{Bool, false, cond, ◌&&◌}
use lib.IntN.{ℤ, pos, negsuc}
use lib.Dec.{T, leb, ltb, eqb, eqb→eq, ltb→lt, leb→le, not_T}
use lib.Pow.{pow-add, pow_pos, pow_mono, shl_lt, pow-lt}
use lib.Ieee.{Float, nan, inf, fin, Format, prec, emax, low, up, down, size, odd, hid, ones, top, round, of_fields, of_bits, to_bits, fits}
use lib.Ieee.Digits.{size-lt, size-le}
use lib.Ieee.Fits.{up_pos, down_pos, two, two-le_pos, reach, kept-lt, round-fits, and_l, and_r}
use lib.Ieee.Exact.{HasValue, odd_sign, round_exact}
use lib.Ieee.Nearest.{div_same}
use lib.Ieee.Bits.{of_bits-to_bits, cond_no}

-- ---- the pattern of a size of n units, with its sign
abbrev pub written : Format → Bool → ℕ → ℕ
written f s n = cond s (top f) 0 + (size n - prec f) * hid f + n / 2 ^ (size n - prec f)

pub bits_of_value : (f : Format) (x : Float) (s : Bool) (a c : ℕ) → 0 < c → HasValue x s a c → to_bits f x ≡ written f s (a * 2 ^ low f / c)
unfolding to_bits
bits_of_value f nan s a c C h = absurd h
bits_of_value f (inf t) s a c C h = absurd h
bits_of_value f (fin t m e) s a c C h =
    ap (λ (b : Bool). written f b (m * up e * 2 ^ low f / down e)) h.0
    ∙ ap (λ (n : ℕ). written f s n)
    (div_same (m * up e * 2 ^ low f) (down e) (a * 2 ^ low f) c (down_pos e) C
    (mul_right_comm (m * up e) (2 ^ low f) c ∙ ap (λ (z : ℕ). z * 2 ^ low f) h.1 ∙ mul_right_comm a (down e) (2 ^ low f)))

pub unique : (f : Format) (x y : Float) (s : Bool) (a c : ℕ) → 0 < c → T (fits f x) → T (fits f y) → HasValue x s a c → HasValue y s a c → x ≡ y
unique f x y s a c C p q v w =
    sym (of_bits-to_bits f x p) ∙ ap (of_bits f) (bits_of_value f x s a c C v ∙ sym (bits_of_value f y s a c C w)) ∙ of_bits-to_bits f y q

-- one size by two fractions
pub rescaled : (x : Float) (s : Bool) (a c b d : ℕ) → 0 < c → a * d ≡ b * c → HasValue x s a c → HasValue x s b d
rescaled nan s a c b d C h v = v
rescaled (inf t) s a c b d C h v = v
rescaled (fin t m e) s a c b d C h v = (
  v.0,
  eq_of_mul-eq-mul_right c C (m * up e * d) (b * down e)
      (mul_right_comm (m * up e) d c ∙ ap (λ (z : ℕ). z * d) v.1 ∙ mul_right_comm a (down e) d ∙ ap (λ (z : ℕ). z * down e) h ∙ mul_right_comm b c (down e)),
)

-- ---- powers of two are in their exponents' order
pub exponent_lt : (i j : ℕ) → 2 ^ i < 2 ^ j → i < j
exponent_lt i j h = lt_of_not-le (λ (g : j ≤ i). lt_irrefl (2 ^ i) (lt_of_lt_of_le h (pow_mono g)))

pub exponent_le : (i j : ℕ) → 2 ^ i ≤ 2 ^ j → i ≤ j
exponent_le i j h = le_of_suc-le-suc (lt_of_not-le (λ (g : suc j ≤ i). lt_irrefl (2 ^ j) (lt_of_lt_of_le (pow-lt g) h)))

-- ---- how many digits a number has
pub size_exact : (a n : ℕ) → 2 ^ a ≤ n → n < 2 ^ suc a → size n ≡ suc a
size_exact a n lo hi = le_antisymm (size-le n (suc a) hi) (exponent_lt a (size n) (lt_of_le_of_lt lo (size-lt n)))

none_dropped : (z p : ℕ) → z ≤ p → z - p ≡ 0
none_dropped z p h = omega arith

suc_pred : (p : ℕ) → 0 < p → suc (p - 1) ≡ p
suc_pred p h = omega arith

pub twice_hid : (f : Format) → 2 ^ prec f ≡ 2 * hid f
twice_hid f = ap (λ (x : ℕ). 2 ^ x) (sym (suc_pred (prec f) (two-le_pos (prec f) (two f)))) ∙ pow-succ' 2 (prec f - 1)

-- ---- q steps of 2 ^ k units: written out, the field is k and the leading digit of q adds one to it
few : (f : Format) (s : Bool) (q : ℕ) → q < 2 ^ prec f → written f s (q * 2 ^ 0) ≡ cond s (top f) 0 + (0 * hid f + q)
few f s q h =
    let e : q * 2 ^ 0 ≡ q = mul-one q in
    ap (written f s) e
    ∙ ap (λ (k : ℕ). cond s (top f) 0 + k * hid f + q / 2 ^ k) (none_dropped (size q) (prec f) (size-le q (prec f) h))
    ∙ ap (λ (x : ℕ). cond s (top f) 0 + 0 * hid f + x) (div-one q)
    ∙ add_assoc (cond s (top f) 0) (0 * hid f) q

drops : (z p k : ℕ) → 0 < p → z ≡ suc (p - 1 + k) → z - p ≡ k
drops z p k P e = omega arith

one_more : (p k : ℕ) → 0 < p → p + k ≡ suc (p - 1 + k)
one_more p k h = omega arith

full : (f : Format) (s : Bool) (q k : ℕ) → hid f ≤ q → q < 2 ^ prec f → written f s (q * 2 ^ k) ≡ cond s (top f) 0 + (k * hid f + q)
full f s q k lo hi =
    let P = two-le_pos (prec f) (two f) in
    let n = q * 2 ^ k in
    let n_lo : 2 ^ (prec f - 1 + k) ≤ n = subst (λ (x : ℕ). x ≤ n) (sym (pow-add 2 (prec f - 1) k)) (mul-le-mul_right (2 ^ k) lo) in
    let n_hi : n < 2 ^ suc (prec f - 1 + k) = subst (λ (x : ℕ). n < 2 ^ x) (one_more (prec f) k P) (shl_lt (prec f) k hi) in
    ap (λ (j : ℕ). cond s (top f) 0 + j * hid f + n / 2 ^ j) (drops (size n) (prec f) k P (size_exact (prec f - 1 + k) n n_lo n_hi))
    ∙ ap (λ (x : ℕ). cond s (top f) 0 + k * hid f + x) (mul-div_cancel q (pow_pos k))
    ∙ add_assoc (cond s (top f) 0) (k * hid f) q

-- a carry into a digit more: half as many steps of twice the size, and the same pattern
carried : (f : Format) (s : Bool) (q k : ℕ) → q ≡ 2 ^ prec f → written f s (q * 2 ^ k) ≡ cond s (top f) 0 + (k * hid f + q)
carried f s q k e =
    let h = hid f in
    let same : q * 2 ^ k ≡ h * 2 ^ suc k =
    ap (λ (x : ℕ). x * 2 ^ k) (e ∙ twice_hid f ∙ mul_comm 2 h) ∙ regroup h (2 ^ k) ∙ ap (λ (x : ℕ). h * x) (sym (pow-suc 2 k)) in
    ap (written f s) same
    ∙ full f s h (suc k) (le_refl h) (below f)
    ∙ ap (λ (x : ℕ). cond s (top f) 0 + x) (ap (λ (x : ℕ). x + h) (suc-mul k h) ∙ add_assoc (k * h) h h ∙ ap (λ (x : ℕ). k * h + x) (double h ∙ sym (twice_hid f) ∙ sym e))
  where
    regroup : (h p : ℕ) → h * 2 * p ≡ h * (p * 2)
    regroup h p = mul_assoc h 2 p ∙ ap (λ (x : ℕ). h * x) (mul_comm 2 p)

    less : (p : ℕ) → 0 < p → p - 1 < p
    less p h = omega arith

    below : (f : Format) → hid f < 2 ^ prec f
    below f = pow-lt (less (prec f) (two-le_pos (prec f) (two f)))

    double : (h : ℕ) → h + h ≡ 2 * h
    double h = omega arith

pub packed : (f : Format) (s : Bool) (q k : ℕ) (x : Float) → T (fits f x) → HasValue x s (q * 2 ^ k) (2 ^ low f) → q ≤ 2 ^ prec f → (k ≡ 0) ⊎ (hid f ≤ q)
    → of_bits f (cond s (top f) 0 + (k * hid f + q)) ≡ x
packed f s q k x p v hi lo =
    ap (of_bits f) (sym (bits_of_value f x s (q * 2 ^ k) (2 ^ low f) (pow_pos (low f)) v ∙ ap (written f s) (mul-div_cancel (q * 2 ^ k) (pow_pos (low f))) ∙ is (eq-or-lt_of_le hi) lo))
    ∙ of_bits-to_bits f x p
  where
    is : (q ≡ 2 ^ prec f) ⊎ (q < 2 ^ prec f) → (k ≡ 0) ⊎ (hid f ≤ q) → written f s (q * 2 ^ k) ≡ cond s (top f) 0 + (k * hid f + q)
    is (inl e) b = carried f s q k e
    is (inr l) (inl z) = subst (λ (j : ℕ). written f s (q * 2 ^ j) ≡ cond s (top f) 0 + (j * hid f + q)) (sym z) (few f s q l)
    is (inr l) (inr g) = full f s q k g l

-- ---- the pattern of a finite number that is not negative stands below the infinity's
pub in_range : (f : Format) (m : ℕ) (e : ℤ) → T (fits f (fin false m e)) → m * up e < 2 ^ suc (emax f) * down e
unfolding fits
in_range f zero e t = subst (λ (x : ℕ). x < 2 ^ suc (emax f) * down e) (sym (zero-mul (up e))) (mul-pos (pow_pos (suc (emax f))) (down_pos e))
in_range f (suc m) e t =
    ltb→lt (suc m * up e) (2 ^ suc (emax f) * down e)
    (and_r (eqb (suc m % 2) 1 && ltb (suc m) (2 ^ prec f) && leb (down e) (2 ^ low f)) (ltb (suc m * up e) (2 ^ suc (emax f) * down e)) t)

few_fields : (z p e k q h : ℕ) → 2 ≤ p → p ≤ suc e → z ≤ suc e + (e + p - 2) → k ≡ z - p → q < 2 * h → k * h + q < (2 * e + 1) * h
few_fields z p e k q h a b c d l = lt_of_lt_of_le (add-lt-add_of_le_of_lt (le_refl (k * h)) l) (le_trans (le_of_eq (sym (add-mul k 2 h))) (mul-le-mul_right h (fewer z p e k a b c d)))
  where
    fewer : (z p e k : ℕ) → 2 ≤ p → p ≤ suc e → z ≤ suc e + (e + p - 2) → k ≡ z - p → k + 2 ≤ 2 * e + 1
    fewer z p e k a b c d = omega arith

pub finite_bits : (f : Format) (m : ℕ) (e : ℤ) → T (fits f (fin false m e)) → to_bits f (fin false m e) < ones f * hid f
finite_bits f m e t =
    let n = m * up e * 2 ^ low f / down e in
    let k = size n - prec f in
    let n_lt : n < 2 ^ (suc (emax f) + low f) =
    (div-lt_iff_lt-mul (down_pos e)).1
    (lt_of_lt_of_le (mul-lt-mul_of_pos_right (in_range f m e t) (pow_pos (low f)))
    (le_of_eq (mul_right_comm (2 ^ suc (emax f)) (down e) (2 ^ low f) ∙ ap (λ (x : ℕ). x * down e) (sym (pow-add 2 (suc (emax f)) (low f)))))) in
    subst (λ (x : ℕ). x < ones f * hid f) (sym (bits_of_value f (fin false m e) false (m * up e) (down e) (down_pos e) (refl, refl) ∙ add_assoc 0 (k * hid f) (n / 2 ^ k) ∙ zero-add (k * hid f + n / 2 ^ k)))
    (few_fields (size n) (prec f) (emax f) k (n / 2 ^ k) (hid f) (two f) (reach f) (size-le n (suc (emax f) + low f) n_lt) refl
    (lt_of_lt_of_le (kept-lt (prec f) n) (le_of_eq (twice_hid f))))

-- ---- what the fields of a pattern stand for, in units
fields_of : (f : Format) (b : ℕ) → of_bits f b ≡ of_fields f (leb (top f) b) (b % top f / hid f) (b % hid f)
unfolding of_bits
fields_of f b = refl

at_zero : (f : Format) (s : Bool) (t x : ℕ) → x ≡ 0 → HasValue (of_fields f s x t) s (t * 2 ^ 0) (2 ^ low f)
unfolding of_fields
at_zero f s t x e = subst (λ (y : ℕ). HasValue (of_fields f s y t) s (t * 2 ^ 0) (2 ^ low f)) (sym e) (odd_sign (prec f) s t 0 (low f))

pub low_value : (f : Format) (b : ℕ) → b % top f / hid f ≡ 0 → HasValue (of_bits f b) (leb (top f) b) (b % hid f * 2 ^ 0) (2 ^ low f)
low_value f b e = rw (fields_of f b) (at_zero f (leb (top f) b) (b % hid f) (b % top f / hid f) e)

differs : (x y : ℕ) → x < y → x ≡ y → ⊥
differs x y h e = omega arith

at_mid : (f : Format) (s : Bool) (t x : ℕ) → 0 < x → x < ones f → HasValue (of_fields f s x t) s ((hid f + t) * 2 ^ (x - 1)) (2 ^ low f)
unfolding of_fields
at_mid f s t zero h l = absurd (lt_irrefl 0 h)
at_mid f s t (suc x) h l =
    subst (λ (v : Float). HasValue v s ((hid f + t) * 2 ^ (suc x - 1)) (2 ^ low f))
    (sym (cond_no (eqb (suc x) (ones f)) (cond (eqb t 0) (inf s) nan) (odd (prec f) s (hid f + t) x (low f)) (not_T (eqb (suc x) (ones f)) (λ u. differs (suc x) (ones f) l (eqb→eq (suc x) (ones f) u)))))
    (subst (λ (y : ℕ). HasValue (odd (prec f) s (hid f + t) x (low f)) s ((hid f + t) * 2 ^ y) (2 ^ low f)) (back x) (odd_sign (prec f) s (hid f + t) x (low f)))
  where
    back : (x : ℕ) → x ≡ suc x - 1
    back x = omega arith

pub mid_value : (f : Format) (b : ℕ) → 0 < b % top f / hid f → b % top f / hid f < ones f
    → HasValue (of_bits f b) (leb (top f) b) ((hid f + b % hid f) * 2 ^ (b % top f / hid f - 1)) (2 ^ low f)
mid_value f b h l = rw (fields_of f b) (at_mid f (leb (top f) b) (b % hid f) (b % top f / hid f) h l)

-- ---- a finite value is a whole number of units: an m of at most prec digits, and zeros after it
pub record InUnits (f : Format) (x : Float) (s : Bool) : Type 0 where
  pub digits : ℕ
  pub zeros : ℕ
  pub few : digits < 2 ^ prec f
  pub value : HasValue x s (digits * 2 ^ zeros) (2 ^ low f)

placed : (f : Format) (s : Bool) (m : ℕ) (e : ℤ) → m < 2 ^ prec f → down e ≤ 2 ^ low f → InUnits f (fin s m e) s
placed f s m (pos a) h l = record {
  digits = m;
  zeros = a + low f;
  few = h;
  value = (refl, mul_assoc m (2 ^ a) (2 ^ low f) ∙ ap (λ (z : ℕ). m * z) (sym (pow-add 2 a (low f))) ∙ sym (mul-one (m * 2 ^ (a + low f))));
}
placed f s m (negsuc a) h l =
    let le = exponent_le (suc a) (low f) l in
    record {
      digits = m;
      zeros = low f - suc a;
      few = h;
      value = (
        refl,
        ap (λ (z : ℕ). z * 2 ^ low f) (mul-one m)
            ∙ ap (λ (z : ℕ). m * z) (ap (λ (z : ℕ). 2 ^ z) (sym (back (low f) (suc a) le)) ∙ pow-add 2 (low f - suc a) (suc a))
            ∙ sym (mul_assoc m (2 ^ (low f - suc a)) (2 ^ suc a)),
      );
    }
  where
    back : (l a : ℕ) → a ≤ l → l - a + a ≡ l
    back l a h = omega arith

flat : (e : ℤ) (l : ℕ) → up e * down e ≡ 1 → down e ≤ 2 ^ l
flat e l h = le_trans (at_most_lem (up e) (down e) (up_pos e) h) (pow_pos l)
  where
    at_most_lem : (u d : ℕ) → 0 < u → u * d ≡ 1 → d ≤ 1
    at_most_lem u d p e = le_trans (le_of_eq (sym (one-mul d))) (le_trans (mul-le-mul_right d p) (le_of_eq e))

pub in_units : (f : Format) (s : Bool) (m : ℕ) (e : ℤ) → T (fits f (fin s m e)) → InUnits f (fin s m e) s
unfolding fits
in_units f s zero e t = placed f s zero e (pow_pos (prec f)) (flat e (low f) (eqb→eq (up e * down e) 1 t))
in_units f s (suc m) e t =
    let A = eqb (suc m % 2) 1 in
    let B = ltb (suc m) (2 ^ prec f) in
    let C = leb (down e) (2 ^ low f) in
    let D = ltb (suc m * up e) (2 ^ suc (emax f) * down e) in
    placed f s (suc m) e (ltb→lt (suc m) (2 ^ prec f) (and_r A B (and_l (A && B) C (and_l (A && B && C) D t)))) (leb→le (down e) (2 ^ low f) (and_r (A && B) C (and_l (A && B && C) D t)))

-- two fractions of one size and one denominator have one numerator
pub same_units : (x : Float) (s : Bool) (a b c : ℕ) → 0 < c → HasValue x s a c → HasValue x s b c → a ≡ b
same_units nan s a b c C v w = absurd v
same_units (inf t) s a b c C v w = absurd v
same_units (fin t m e) s a b c C v w = eq_of_mul-eq-mul_right (down e) (down_pos e) a b (sym v.1 ∙ w.1)

-- ---- a value of a format is rounded to itself

pub unsigned : (f : Format) (s : Bool) (m : ℕ) (e : ℤ) → T (fits f (fin s m e)) → T (fits f (fin false m e))
unfolding fits
unsigned f s zero e t = t
unsigned f s (suc m) e t = t

-- the units of a value are fewer than those of the least power of two past the largest number
pub units_small : (f : Format) (s : Bool) (m : ℕ) (e : ℤ) (t : T (fits f (fin s m e))) → (in_units f s m e t).digits * 2 ^ (in_units f s m e t).zeros < 2 ^ (low f + suc (emax f))
units_small f s m e t =
    lt_of_mul-lt-mul_right (down e)
    (lt_of_lt_of_le (subst (λ (x : ℕ). x < 2 ^ suc (emax f) * down e * 2 ^ low f) (in_units f s m e t).value.1 (mul-lt-mul_of_pos_right (in_range f m e (unsigned f s m e t)) (pow_pos (low f))))
    (le_of_eq (mul_right_comm (2 ^ suc (emax f)) (down e) (2 ^ low f) ∙ ap (λ (x : ℕ). x * down e) (mul_comm (2 ^ suc (emax f)) (2 ^ low f) ∙ sym (pow-add 2 (low f) (suc (emax f)))))))

pub itself : (f : Format) (s : Bool) (m : ℕ) (e : ℤ) → T (fits f (fin s m e)) → round f s (m * up e) (down e) ≡ fin s m e
itself f s m e t =
    let u = in_units f s m e t in
    unique f (round f s (m * up e) (down e)) (fin s m e) s (m * up e) (down e) (down_pos e) (round-fits f s (m * up e) (down e)) t
    (round_exact f s (m * up e) (down e) u.digits u.zeros (down_pos e) u.few (units_small f s m e t) u.value.1) (refl, refl)
