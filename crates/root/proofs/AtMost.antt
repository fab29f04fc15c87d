-- Which f64s have a root up to a limit: those from zero up to the last below a certain square, that of the middle between the limit and the next f64, past which roots round past the limit. Assumes nothing.
use mathlib.Core.Path.{◌≡◌, refl, sym, ap, ◌∙◌, subst}
use mathlib.Core.Logic.{◌⊎◌, inl, inr}
use mathlib.Core.Bool.{Bool, true, false, not, ◌&&◌, ◌||◌, true≢false}
use Prim.Native.Nat.{ℕ, zero, suc, ◌+◌, ◌-◌, ◌*◌, ◌/◌, ◌%◌, ◌^◌, ◌≤◌, ◌<◌}
use native.Mathlib.Nat.{le_trans, le_of_eq, le_of_lt, lt_of_lt_of_le, lt_of_le_of_lt, lt_of_not-le, not-le_of_lt, lt_irrefl, le_of_suc-le-suc, eq-or-lt_of_le, mul_assoc, mul_comm, mul-le-mul, mul-le-mul_left, mul-le-mul_right, mul-lt-mul_of_pos_right, lt_of_mul-lt-mul_right, le_of_mul-le-mul_right, mul-pos, zero-mul, zero-lt-suc, pow-suc, mod-eq_of_lt}
use native.Mathlib.Omega.{arith}
use lib.Arith.{lt→nleb}
use lib.Dec.{T, leb, ltb, eqb, leb→le, le→leb, nleb→lt, ltb→lt, lt→ltb, eqb→eq, eqb-zero-suc, lit<}
use lib.IntN.{ℤ}
use lib.Pow.{pow-add, pow_pos, pow_mono}
use lib.Ieee.{Float, nan, inf, fin, binary64, up, down, below, level, eq, le, of_bits, fits, top}
use lib.Ieee.Bits.{is_true, is_false, of_bits-fits}
use lib.Ieee.Exact.{HasValue}
use lib.Ieee.Fits.{up_pos, down_pos, and_l}
use lib.Ieee.Order.{transfer, le_of_values}
use lib.Ieee.Positive.{positive_of_value}
use Rattle.exact.specs.F64.{f64}
use Rattle.exact.proofs.Pattern.{mid_value, in_units, same_units}
use Rattle.exact.proofs.Tests.{above_zero}
use Rattle.root.specs.Limit.{Normal, units}

le_suc : (n : ℕ) → n ≤ suc n
le_suc n = omega arith

-- ---- a normal pattern's number, and the next one
units_value : (b : ℕ) → 2 ^ 52 ≤ b → b < 0x7ff0_0000_0000_0000 → HasValue (f64 b) false (units b) (2 ^ 1074)
units_value b lo hi =
    let whole : b % top binary64 ≡ b = mod-eq_of_lt (omega arith) in
    let plus : leb (top binary64) b ≡ false = is_false (leb (top binary64) b) (lt→nleb (top binary64) b (omega arith)) in
    subst (λ (s : Bool). HasValue (f64 b) s (units b) (2 ^ 1074)) plus
    (subst (λ (z : ℕ). HasValue (f64 b) (leb (top binary64) b) ((2 ^ 52 + b % 2 ^ 52) * 2 ^ (z / 2 ^ 52 - 1)) (2 ^ 1074)) whole
    (mid_value binary64 b (subst (λ (z : ℕ). 0 < z / 2 ^ 52) (sym whole) (omega arith)) (subst (λ (z : ℕ). z / 2 ^ 52 < 2047) (sym whole) (omega arith))))

pub normal_value : (b : ℕ) → Normal b → HasValue (f64 b) false (units b) (2 ^ 1074)
normal_value b B = units_value b B.least (lt_of_le_of_lt (le_suc b) B.most)

pub units_pos : (b : ℕ) → 0 < units b
units_pos b = mul-pos {m = 2 ^ 52 + b % 2 ^ 52} (omega arith) (pow_pos (b / 2 ^ 52 - 1))

-- the next number is one step further, whether or not the step carries
next : (b : ℕ) → 2 ^ 52 ≤ b → units (suc b) ≡ suc (2 ^ 52 + b % 2 ^ 52) * 2 ^ (b / 2 ^ 52 - 1)
next b lo = go (eq-or-lt_of_le {n = suc (b % 2 ^ 52)} {m = 2 ^ 52} (omega arith))
  where
    go : (suc (b % 2 ^ 52) ≡ 2 ^ 52) ⊎ (suc (b % 2 ^ 52) < 2 ^ 52) → units (suc b) ≡ suc (2 ^ 52 + b % 2 ^ 52) * 2 ^ (b / 2 ^ 52 - 1)
    go (inl e) =
        let k = b / 2 ^ 52 - 1 in
        let d : suc b % 2 ^ 52 ≡ 0 = omega arith in
        let z : suc b / 2 ^ 52 - 1 ≡ suc k = omega arith in
        let t : 2 ^ 52 * 2 ≡ suc (2 ^ 52 + b % 2 ^ 52) = omega arith in
        ap (λ (a : ℕ). (2 ^ 52 + a) * 2 ^ (suc b / 2 ^ 52 - 1)) d
        ∙ ap (λ (a : ℕ). 2 ^ 52 * 2 ^ a) z
        ∙ ap (λ (a : ℕ). 2 ^ 52 * a) (pow-suc 2 k ∙ mul_comm (2 ^ k) 2)
        ∙ sym (mul_assoc (2 ^ 52) 2 (2 ^ k))
        ∙ ap (λ (a : ℕ). a * 2 ^ k) t
    go (inr l) =
        let d : 2 ^ 52 + suc b % 2 ^ 52 ≡ suc (2 ^ 52 + b % 2 ^ 52) = omega arith in
        let z : suc b / 2 ^ 52 ≡ b / 2 ^ 52 = omega arith in
        ap (λ (a : ℕ). a * 2 ^ (suc b / 2 ^ 52 - 1)) d ∙ ap (λ (a : ℕ). suc (2 ^ 52 + b % 2 ^ 52) * 2 ^ (a - 1)) z

step : (b : ℕ) → 2 ^ 52 ≤ b → units b < units (suc b)
step b lo = lt_of_lt_of_le (mul-lt-mul_of_pos_right (lt_suc (2 ^ 52 + b % 2 ^ 52)) (pow_pos (b / 2 ^ 52 - 1))) (le_of_eq (sym (next b lo)))
  where
    lt_suc : (n : ℕ) → n < suc n
    lt_suc n = omega arith

-- ---- no f64 lies between the two
gap : (p k d z : ℕ) → 2 ^ 52 ≤ p → d < 2 ^ 53 → p * 2 ^ k < d * 2 ^ z → suc p * 2 ^ k ≤ d * 2 ^ z
gap p k d z lo few h = go (leb k z) (leb→le k z) (nleb→lt k z)
  where
    back : (k z : ℕ) → k ≤ z → z - k + k ≡ z
    back k z l = omega arith

    go : (t : Bool) → (T t → k ≤ z) → (T (not t) → z < k) → suc p * 2 ^ k ≤ d * 2 ^ z
    go true l g =
        let same : d * 2 ^ z ≡ d * 2 ^ (z - k) * 2 ^ k = ap (λ (a : ℕ). d * 2 ^ a) (sym (back k z (l tt))) ∙ ap (λ (a : ℕ). d * a) (pow-add 2 (z - k) k) ∙ sym (mul_assoc d (2 ^ (z - k)) (2 ^ k)) in
        le_trans (mul-le-mul_right (2 ^ k) (lt_of_mul-lt-mul_right (2 ^ k) (lt_of_lt_of_le h (le_of_eq same)))) (le_of_eq (sym same))
    go false l g =
        absurd (lt_irrefl (d * 2 ^ z)
        (lt_of_lt_of_le (mul-lt-mul_of_pos_right few (pow_pos z))
        (le_trans (le_of_eq (mul_assoc (2 ^ 52) 2 (2 ^ z) ∙ ap (λ (a : ℕ). 2 ^ 52 * a) (mul_comm 2 (2 ^ z) ∙ sym (pow-suc 2 z))))
        (le_trans (mul-le-mul lo (pow_mono {i = suc z} {j = k} (g tt))) (le_of_lt h)))))

pub neighbours : (b : ℕ) → 2 ^ 52 ≤ b → (x : Float) (u : ℕ) → T (fits binary64 x) → HasValue x false u (2 ^ 1074) → units b < u → units (suc b) ≤ u
neighbours b lo nan u f v h = absurd v
neighbours b lo (inf t) u f v h = absurd v
neighbours b lo (fin t m e) u f v h =
    let I = in_units binary64 t m e f in
    let d = I.digits * 2 ^ I.zeros in
    let same : d ≡ u = same_units (fin t m e) false d u (2 ^ 1074) (pow_pos 1074) (subst (λ (s : Bool). HasValue (fin t m e) s d (2 ^ 1074)) v.0 I.value) v in
    subst (λ (z : ℕ). units (suc b) ≤ z) same
    (le_trans (le_of_eq (next b lo)) (gap (2 ^ 52 + b % 2 ^ 52) (b / 2 ^ 52 - 1) I.digits I.zeros (omega arith) I.few (subst (λ (z : ℕ). units b < z) (sym same) h)))

-- ---- the order of two f64s that are not negative is that of their units
same_test : (a b : Bool) → (T a → T b) → (T b → T a) → a ≡ b
same_test true true p q = refl
same_test true false p q = absurd (p tt)
same_test false true p q = absurd (q tt)
same_test false false p q = refl

lt_or_eq : (a b : ℕ) → T (ltb a b || (eqb a b && true)) → a ≤ b
lt_or_eq a b t = go (ltb a b) (ltb→lt a b) t
  where
    go : (c : Bool) → (T c → a < b) → T (c || (eqb a b && true)) → a ≤ b
    go true p t = le_of_lt (p tt)
    go false p t = le_of_eq (eqb→eq a b (and_l (eqb a b) true t))

units_of_le : (x y : Float) (a b c : ℕ) → 0 < c → HasValue x false a c → HasValue y false b c → T (le x y) → a ≤ b
unfolding le
units_of_le nan y a b c C v w h = absurd v
units_of_le (inf s) y a b c C v w h = absurd v
units_of_le (fin true m e) y a b c C v w h = absurd (true≢false v.0)
units_of_le (fin false m e) nan a b c C v w h = absurd w
units_of_le (fin false m e) (inf s) a b c C v w h = absurd w
units_of_le (fin false m e) (fin true n d) a b c C v w h = absurd (true≢false w.0)
units_of_le (fin false m e) (fin false n d) a b c C v w h =
    le_of_mul-le-mul_right (transfer a b c c (m * up e) (n * up d) (down e) (down d) (down_pos e) (down_pos d) (sym v.1) (sym w.1) (lt_or_eq (m * up e * down d) (n * up d * down e) h)) C

le_is : (x y : Float) (a b c : ℕ) → 0 < c → HasValue x false a c → HasValue y false b c → le x y ≡ leb a b
le_is x y a b c C v w =
    same_test (le x y) (leb a b) (λ t. le→leb a b (units_of_le x y a b c C v w t)) (λ t. le_of_values x y a c b c C C v w (mul-le-mul_right c (leb→le a b t)))

-- ---- what is no number above zero: NaN, infinity, the zeros, below zero
pub nan_first : (y : Float) → le nan y ≡ false
unfolding le
nan_first y = refl

pub inf_first : (y : Float) (a c : ℕ) → HasValue y false a c → le (inf false) y ≡ false
unfolding le
inf_first nan a c v = absurd v
inf_first (inf s) a c v = absurd v
inf_first (fin s m e) a c v = refl

pub zero_first : (s : Bool) (e : ℤ) (y : Float) (a c : ℕ) → 0 < a → HasValue y false a c → le (fin s 0 e) y ≡ true
unfolding le
zero_first s e nan a c A v = absurd v
zero_first s e (inf t) a c A v = absurd v
zero_first s e (fin true m d) a c A v = absurd (true≢false v.0)
zero_first s e (fin false m d) a c A v = simp zero-mul (go s (m * up d * down e) (mul-pos (mul-pos (ltb→lt 0 m (positive_of_value (fin false m d) a c v A)) (up_pos d)) (down_pos e)))
  where
    go : (s : Bool) (n : ℕ) → 0 < n → (below s 0 false n || level s 0 false n) ≡ true
    go true n h = ap (λ (t : Bool). t || level true 0 false n) (is_true (ltb 0 (0 + n)) (lt→ltb 0 (0 + n) (omega arith)))
    go false n h = ap (λ (t : Bool). t || level false 0 false n) (is_true (ltb 0 n) (lt→ltb 0 n h))

pub from_zero : (s : Bool) (e : ℤ) → le (f64 0) (fin s 0 e) ≡ true
unfolding le of_bits
from_zero true e = simp zero-mul refl
from_zero false e = simp zero-mul refl

pub from_below : (m : ℕ) (e : ℤ) → le (f64 0) (fin true (suc m) e) ≡ false
unfolding le of_bits
from_below m e = simp zero-mul (go (suc m * up e * 1) (mul-pos (mul-pos (zero-lt-suc m) (up_pos e)) (lit< tt)))
  where
    go : (n : ℕ) → 0 < n → level false 0 true n ≡ false
    go zero h = absurd (lt_irrefl 0 h)
    go (suc n) h = ap (λ (b : Bool). b && true) (eqb-zero-suc n)

pub from_above : (m : ℕ) (e : ℤ) → le (f64 0) (fin false (suc m) e) ≡ true
unfolding le
from_above m e = ap (λ (b : Bool). b || eq (f64 0) (fin false (suc m) e)) (above_zero m e)

-- ---- x is u units, and r units are the f64 nearest to its root
abbrev pub Closest : ℕ → ℕ → Type 0
Closest u r = (y : Float) (w : ℕ) → T (fits binary64 y) → HasValue y false w (2 ^ 1074) → (w < r → (w + r) * (w + r) ≤ 4 * (u * 2 ^ 1074)) × (r < w → 4 * (u * 2 ^ 1074) ≤ (w + r) * (w + r))

square_le : (a b : ℕ) → a ≤ b → a * a ≤ b * b
square_le a b h = mul-le-mul h h

more : (a b c : ℕ) → b ≤ c → a + b ≤ a + c
more a b c h = omega arith

less : (a r b : ℕ) → r ≤ b → a + r ≤ b + a
less a r b h = omega arith

four_le : (a b c : ℕ) → a ≤ b → 4 * (a * c) ≤ 4 * (b * c)
four_le a b c h = mul-le-mul_left 4 (mul-le-mul_right c h)

pub decided : (e b u r : ℕ) (x y : Float) → Normal e → Normal b
    → 4 * (units b * 2 ^ 1074) < (units e + units (suc e)) * (units e + units (suc e))
    → (units e + units (suc e)) * (units e + units (suc e)) < 4 * (units (suc b) * 2 ^ 1074)
    → T (fits binary64 x) → T (fits binary64 y) → HasValue x false u (2 ^ 1074) → HasValue y false r (2 ^ 1074) → Closest u r
    → le y (f64 e) ≡ le x (f64 b)
decided e b u r x y E B lo hi f g v w near =
    le_is y (f64 e) r (units e) (2 ^ 1074) (pow_pos 1074) w (normal_value e E)
    ∙ same_test (leb r (units e)) (leb u (units b)) (λ t. le→leb u (units b) (only (leb→le r (units e) t))) (λ t. le→leb r (units e) (all (leb→le u (units b) t)))
    ∙ sym (le_is x (f64 b) u (units b) (2 ^ 1074) (pow_pos 1074) v (normal_value b B))
  where
    -- a root above the limit is no nearer than the limit's neighbour, so x is past the middle's square
    all : u ≤ units b → r ≤ units e
    all h = le_of_suc-le-suc (lt_of_not-le (λ (l : units e < r).
        not-le_of_lt lo
        (le_trans (square_le (units e + units (suc e)) (units e + r) (more (units e) (units (suc e)) r (neighbours e E.least y r g w l)))
        (le_trans ((near (f64 e) (units e) (of_bits-fits binary64 e) (normal_value e E)).0 l) (four_le u (units b) (2 ^ 1074) h)))))

    -- an x above b is at least b's neighbour, past the middle's square, so its root is nearer to the limit's neighbour
    only : r ≤ units e → u ≤ units b
    only h = le_of_suc-le-suc (lt_of_not-le (λ (l : units b < u).
        not-le_of_lt hi
        (le_trans (four_le (units (suc b)) u (2 ^ 1074) (neighbours b B.least x u f v l))
        (le_trans ((near (f64 (suc e)) (units (suc e)) (of_bits-fits binary64 (suc e)) (units_value (suc e) (le_trans E.least (le_suc e)) E.most)).1 (lt_of_le_of_lt h (step e E.least)))
        (square_le (units (suc e) + r) (units e + units (suc e)) (less (units (suc e)) r (units e) h))))))
