-- Each f64 operation against the exact one (specs/Operations.antt), for operands of either sign: what it gives is the exact result rounded once (`sum_rounds`, ..), and a result that is a number
-- lies within 2^-53 of any bound on the exact one, as long as the bound isn't below the least normal number (`sum_near`, ..). An exact result that an f64 holds comes back unchanged (`rounds_held`).
-- A sum, a difference or a product is a number only if both of its sides are (`sum_finite`, ..). Assumes nothing.
use mathlib.Core.Path.{◌≡◌, refl, sym, ap, subst}
use mathlib.Core.Logic.{◌⊎◌, inl, inr}
use mathlib.Core.Bool.{Bool, true, false, not, ◌&&◌, cond, beq, false≢true}
use Prim.Native.Nat.{ℕ, zero, suc, ◌+◌, ◌-◌, ◌*◌, ◌^◌, ◌≤◌, ◌<◌}
use native.Mathlib.Nat.{mul-pos, zero-lt-suc, zero-mul, sub-zero}
use native.Mathlib.Omega.{arith}
use borrow.Author.Tests.{ltb-true, ltb-false}
use lib.Dec.{T, ltb, eqb, lit≤, eqb-suc-zero}
use lib.Pow.{pow-add, pow_pos}
use lib.Ieee.{Float, nan, inf, fin, binary64, up, down, round, sum, add, sub, mul, div, neg, fits, unlike}
use lib.Ieee.Fits.{up_pos, down_pos}
use lib.Ieee.Exact.{round_exact}
use lib.Ieee.Scale.{finite}
use Rattle.exact.specs.F64.{◌⊕◌, ◌⊖◌, ◌⊗◌, ◌⊘◌, is_zero}
use Rattle.exact.specs.Fraction.{Fraction, Proper, ◌≼◌, ◌≺◌, ◌≈◌, over, whole, opposite, ◌⊞◌, ◌⊟◌, ◌⊠◌, ◌⧄◌, signed, Within, exactly, half_units}
use Rattle.exact.specs.Operations.{Rounds, Bounded, half_place, least_normal, Held, Unchanged}
use Rattle.exact.proofs.Fractions.{value, over_proper, over-≼, over-≈, over-⊞, over-⊠, opposite_cong, opposite-⊞, opposite_opposite, signed_proper, opposite_proper, exactly_proper, ⊞-proper, ⊟-proper, ⊠-proper, ⧄-proper, ⊞-cong, ⊠-mono, ≼_trans, ≈→≼, ≈-sym, ≈-trans, within_to, within_wider, near_finite, half_units_proper, exactly_neg}
use Rattle.exact.proofs.Rounding.{rounded}
use Rattle.exact.proofs.Pattern.{in_units, units_small}
use Rattle.exact.proofs.Infinite.{has_value}

-- ---- the operands of a finite result

-- A sum is a number only if both of its sides are; and so a difference and a product.
pub sum_finite : (x y : Float) → T (finite (x ⊕ y)) → T (finite x) × T (finite y)
unfolding add
sum_finite nan y t = absurd t
sum_finite (inf s) nan t = absurd t
sum_finite (inf s) (inf r) t = absurd (never (beq s r) s t)
  where
    never : (b : Bool) (s : Bool) → T (finite (cond b (inf s) nan)) → ⊥
    never true s t = t
    never false s t = t
sum_finite (inf s) (fin r n d) t = absurd t
sum_finite (fin s m e) nan t = absurd t
sum_finite (fin s m e) (inf r) t = absurd t
sum_finite (fin s m e) (fin r n d) t = (tt, tt)

pub neg_finite : (x : Float) → T (finite x) → T (finite (neg x))
unfolding neg
neg_finite (fin s m e) t = tt
neg_finite nan t = elim t [ ]
neg_finite (inf _) t = elim t [ ]

pub minus_finite : (x : Float) → T (finite (neg x)) → T (finite x)
unfolding neg
minus_finite nan t = t
minus_finite (inf s) t = t
minus_finite (fin s m e) t = tt

pub difference_finite : (x y : Float) → T (finite (x ⊖ y)) → T (finite x) × T (finite y)
unfolding sub
difference_finite x y t = let both = sum_finite x (neg y) t in (both.0, minus_finite y both.1)

neither : (b : Bool) (s : Bool) → T (finite (cond b nan (inf s))) → ⊥
neither true s t = t
neither false s t = t

pub product_finite : (x y : Float) → T (finite (x ⊗ y)) → T (finite x) × T (finite y)
unfolding mul
product_finite nan y t = absurd t
product_finite (inf s) nan t = absurd t
product_finite (inf s) (inf r) t = absurd t
product_finite (inf s) (fin r n d) t = absurd (neither (eqb n 0) (unlike s r) t)
product_finite (fin s m e) nan t = absurd t
product_finite (fin s m e) (inf r) t = absurd (neither (eqb m 0) (unlike s r) t)
product_finite (fin s m e) (fin r n d) t = (tt, tt)

-- A quotient is one only if what is divided is, and by no zero. By an infinity it is a zero.
pub quotient_finite : (x y : Float) → T (finite (x ⊘ y)) → T (finite x) × (is_zero y ≡ false)
unfolding div is_zero
quotient_finite nan y t = absurd t
quotient_finite (inf r) nan t = absurd t
quotient_finite (inf r) (inf s) t = absurd t
quotient_finite (inf r) (fin s n e) t = absurd t
quotient_finite (fin r m d) nan t = absurd t
quotient_finite (fin r m d) (inf s) t = (tt, refl)
quotient_finite (fin r m d) (fin s zero e) t = absurd (neither (eqb m 0) (unlike r s) t)
quotient_finite (fin r m d) (fin s (suc n) e) t = (tt, refl)

-- ---- an operation is the exact one, rounded once

rounds : {x : Float} {v : Fraction} (s : Bool) (a c : ℕ) → 0 < c → x ≡ round binary64 s a c → v ≈ signed s (over a c) → Rounds x v
rounds s a c C e h = record { negative = s; top = a; bottom = c; some = C; is = e; value = h }

-- the same of another name for the number
pub rounds_same : {x : Float} {v w : Fraction} → Proper v → w ≈ v → Rounds x v → Rounds x w
rounds_same P e r = rounds r.negative r.top r.bottom r.some r.is (≈-trans P e r.value)

-- of like signs
both_signs : (s : Bool) (a b c : ℕ) → signed s (over a c) ⊞ signed s (over b c) ≈ signed s (over (a + b) c)
both_signs false a b c = over-⊞ a b c
both_signs true a b c = rw (← (opposite-⊞ (over a c) (over b c))) (opposite_cong (over-⊞ a b c))

-- of unlike ones: by which size is the larger
less_sum : (s : Bool) (a b c k : ℕ) → b + k ≡ a → signed s (over a c) ⊞ signed (not s) (over b c) ≈ signed s (over k c)
unfolding over ◌⊞◌ opposite
less_sum false a b c k e = record { holds = omega (arith, ap (λ (x : ℕ). x * (c * c)) e) }
less_sum true a b c k e = record { holds = omega (arith, ap (λ (x : ℕ). x * (c * c)) e) }

more_sum : (s : Bool) (a b c k : ℕ) → a + k ≡ b → signed s (over a c) ⊞ signed (not s) (over b c) ≈ signed (not s) (over k c)
unfolding over ◌⊞◌ opposite
more_sum false a b c k e = record { holds = omega (arith, ap (λ (x : ℕ). x * (c * c)) e) }
more_sum true a b c k e = record { holds = omega (arith, ap (λ (x : ℕ). x * (c * c)) e) }

unlike_sum :
    (s : Bool) (a b c : ℕ) → 0 < c → (l k : Bool) → ltb a b ≡ l → ltb b a ≡ k
    → Rounds (cond l (round binary64 (not s) (b - a) c) (round binary64 (s && k) (a - b) c)) (signed s (over a c) ⊞ signed (not s) (over b c))
unlike_sum s a b c C true k e f = rounds (not s) (b - a) c C refl (more_sum s a b c (b - a) (omega (arith, ltb-true a b e)))
unlike_sum false a b c C false k e f = rounds false (a - b) c C refl (less_sum false a b c (a - b) (omega (arith, ltb-false a b e)))
unlike_sum true a b c C false true e f = rounds true (a - b) c C refl (less_sum true a b c (a - b) (omega (arith, ltb-false a b e)))
unlike_sum true a b c C false false e f = rounds false (a - b) c C refl (more_sum true a b c (a - b) (omega (arith, ltb-false a b e, ltb-false b a f)))

any_sum : (s t : Bool) (a b c : ℕ) → 0 < c → Rounds (sum binary64 s a t b c) (signed s (over a c) ⊞ signed t (over b c))
unfolding sum
any_sum false false a b c C = rounds false (a + b) c C refl (both_signs false a b c)
any_sum true true a b c C = rounds true (a + b) c C refl (both_signs true a b c)
any_sum false true a b c C = unlike_sum false a b c C (ltb a b) (ltb b a) refl refl
any_sum true false a b c C = unlike_sum true a b c C (ltb a b) (ltb b a) refl refl

-- over a common denominator
wider : (s : Bool) (a c b d : ℕ) → a * d ≡ b * c → signed s (over a c) ≈ signed s (over b d)
wider false a c b d e = (over-≈ a c b d).1 e
wider true a c b d e = opposite_cong ((over-≈ a c b d).1 e)

-- Of finite operands: what a sum gives is the exact sum, rounded once; and so for the other three.
pub sum_rounds : (x y : Float) → T (finite x) → T (finite y) → Rounds (x ⊕ y) (exactly x ⊞ exactly y)
unfolding add exactly
sum_rounds (fin s m e) (fin t n d) p q =
    let a = m * up e in
    let b = n * up d in
    let c = down e in
    let u = down d in
    let C = mul-pos (down_pos e) (down_pos d) in
    rounds_same (⊞-proper (signed_proper s (over_proper (a * u) (c * u) C)) (signed_proper t (over_proper (b * c) (c * u) C)))
    (⊞-cong (wider s a c (a * u) (c * u) (turned a c u)) (wider t b u (b * c) (c * u) (twisted b c u))) (any_sum s t (a * u) (b * c) (c * u) C)
  where
    turned : (a c u : ℕ) → a * (c * u) ≡ a * u * c
    turned a c u = omega arith

    twisted : (b c u : ℕ) → b * (c * u) ≡ b * c * u
    twisted b c u = omega arith
sum_rounds nan y p q = elim p [ ]
sum_rounds (inf _) y p q = elim p [ ]
sum_rounds (fin s m e) nan p q = elim q [ ]
sum_rounds (fin s m e) (inf _) p q = elim q [ ]

pub difference_rounds : (x y : Float) → T (finite x) → T (finite y) → Rounds (x ⊖ y) (exactly x ⊟ exactly y)
unfolding sub
difference_rounds x y p q = rw (exactly_neg y) at (sum_rounds x (neg y) p (neg_finite y q))

product_signs : (s t : Bool) (a c b d : ℕ) → signed s (over a c) ⊠ signed t (over b d) ≈ signed (unlike s t) (over (a * b) (c * d))
unfolding over opposite ◌⊠◌
product_signs false false a c b d = omega arith
product_signs false true a c b d = omega arith
product_signs true false a c b d = omega arith
product_signs true true a c b d = omega arith

pub product_rounds : (x y : Float) → T (finite x) → T (finite y) → Rounds (x ⊗ y) (exactly x ⊠ exactly y)
unfolding mul exactly
product_rounds (fin s m e) (fin t n d) p q =
    rounds (unlike s t) (m * up e * (n * up d)) (down e * down d) (mul-pos (down_pos e) (down_pos d)) refl (product_signs s t (m * up e) (down e) (n * up d) (down d))
product_rounds nan y p q = elim p [ ]
product_rounds (inf _) y p q = elim p [ ]
product_rounds (fin s m e) nan p q = elim q [ ]
product_rounds (fin s m e) (inf _) p q = elim q [ ]

-- by a number above zero
quotient_signs : (s : Bool) (a c b d : ℕ) → signed s (over a c) ⧄ over b d ≈ signed (unlike s false) (over (a * d) (b * c))
unfolding over opposite ◌⧄◌
quotient_signs false a c b d = record { holds = simp sub-zero (omega arith) }
quotient_signs true a c b d = record { holds = simp sub-zero (omega arith) }

not_above : (s : Bool) (a c : ℕ) → whole 0 ≺ signed s (over a c) → (s ≡ true) ⊎ (a ≡ 0) → ⊥
unfolding over opposite
not_above true a c h k = omega (arith, h.holds)
not_above false a c h (inl e) = false≢true e
not_above false a c h (inr e) = omega (arith, h.holds)

pub quotient_rounds : (x y : Float) → T (finite x) → T (finite y) → whole 0 ≺ exactly y → Rounds (x ⊘ y) (exactly x ⧄ exactly y)
unfolding div exactly
quotient_rounds x (fin true n d) p q h = absurd (not_above true (n * up d) (down d) h (inl refl))
quotient_rounds x (fin false zero d) p q h = absurd (not_above false (0 * up d) (down d) h (inr (zero-mul (up d))))
quotient_rounds (fin s m e) (fin false (suc n) d) p q h =
    rounds (unlike s false) (m * up e * down d) (suc n * up d * down e) (mul-pos (mul-pos (zero-lt-suc n) (up_pos d)) (down_pos e))
    (ap (λ (b : Bool). cond b (cond (eqb m 0) nan (inf (unlike s false))) (round binary64 (unlike s false) (m * up e * down d) (suc n * up d * down e))) (eqb-suc-zero n))
    (quotient_signs s (m * up e) (down e) (suc n * up d) (down d))
quotient_rounds x nan p q h = elim q [ ]
quotient_rounds x (inf _) p q h = elim q [ ]
quotient_rounds nan (fin false (suc n) d) p q h = elim p [ ]
quotient_rounds (inf _) (fin false (suc n) d) p q h = elim p [ ]

-- ---- how far a rounding goes, by a bound on the exact number

-- its size as a fraction of two whole numbers
sized : (s : Bool) (v B : Fraction) (a c : ℕ) → Proper v → v ≈ signed s (over a c) → Bounded B v → over a c ≼ B
sized false v B a c P e h = ≼_trans P (≈→≼ (≈-sym e)) h.not_above
sized true v B a c P e h = ≼_trans (opposite_proper P) (rw (opposite_opposite (over a c)) at (≈→≼ (≈-sym (opposite_cong e)))) h.not_below

half_not_negative : whole 0 ≼ half_place
half_not_negative = (over-≼ 0 1 1 (2 ^ 53)).1 (lit≤ tt)

last_place : (B : Fraction) (a c l : ℕ) → 0 < c → over a c ≼ B → least_normal ≼ B → (l ≡ 0) ⊎ (2 ^ (52 + l) * c ≤ a * 2 ^ 1074) → half_units binary64 l ≼ B ⊠ half_place
unfolding half_units
last_place B a c l C h n (inl z) =
    rw z
    (≼_trans (over_proper (1 * 1) (2 ^ 1022 * 2 ^ 53) (lit≤ tt)) ((over-≼ (2 ^ 0) (2 * 2 ^ 1074) (1 * 1) (2 ^ 1022 * 2 ^ 53)).1 (lit≤ tt))
    (rw (over-⊠ 1 (2 ^ 1022) 1 (2 ^ 53)) at (⊠-mono half_not_negative n)))
last_place B a c l C h n (inr p) =
    ≼_trans (over_proper (a * 1) (c * 2 ^ 53) (mul-pos C (pow_pos 53))) ((over-≼ (2 ^ l) (2 * 2 ^ 1074) (a * 1) (c * 2 ^ 53)).1 (twice (2 ^ l) c a (2 ^ 1074) (rw (pow-add 2 52 l) at p)))
    (rw (over-⊠ a c 1 (2 ^ 53)) at (⊠-mono half_not_negative h))
  where
    twice : (w c a l : ℕ) → 2 ^ 52 * w * c ≤ a * l → w * (c * 2 ^ 53) ≤ a * 1 * (2 * l)
    twice w c a l h = omega arith

-- A finite x that is v rounded lies within 2^-53 times B of v, B being a bound on v that isn't below the least normal number.
pub rounds_near : {x : Float} {v B : Fraction} → Proper v → Rounds x v → T (finite x) → Bounded B v → least_normal ≼ B → Within (B ⊠ half_place) (exactly x) v
rounds_near {x} {v} {B} P r f h n =
    let s = r.negative in
    let a = r.top in
    let c = r.bottom in
    let near = rounded binary64 s a c r.some in
    let w = near_finite r.some near (subst (λ (y : Float). T (finite y)) r.is f) in
    let wide = within_wider (half_units_proper binary64 near.last) (last_place B a c near.last r.some (sized s v B a c P r.value h) n near.place) w in
    subst (λ (y : Float). Within (B ⊠ half_place) (exactly y) v) (sym r.is) (within_to P (≈-sym r.value) wide)

-- So of each operation: where it gives a number, that lies within 2^-53 times B of the exact result, B being such a bound on the exact result.
pub sum_near : (x y : Float) {B : Fraction} → T (finite (x ⊕ y)) → Bounded B (exactly x ⊞ exactly y) → least_normal ≼ B → Within (B ⊠ half_place) (exactly (x ⊕ y)) (exactly x ⊞ exactly y)
sum_near x y f = let both = sum_finite x y f in rounds_near (⊞-proper (exactly_proper x) (exactly_proper y)) (sum_rounds x y both.0 both.1) f

pub difference_near : (x y : Float) {B : Fraction} → T (finite (x ⊖ y)) → Bounded B (exactly x ⊟ exactly y) → least_normal ≼ B → Within (B ⊠ half_place) (exactly (x ⊖ y)) (exactly x ⊟ exactly y)
difference_near x y f = let both = difference_finite x y f in rounds_near (⊟-proper (exactly_proper x) (exactly_proper y)) (difference_rounds x y both.0 both.1) f

pub product_near : (x y : Float) {B : Fraction} → T (finite (x ⊗ y)) → Bounded B (exactly x ⊠ exactly y) → least_normal ≼ B → Within (B ⊠ half_place) (exactly (x ⊗ y)) (exactly x ⊠ exactly y)
product_near x y f = let both = product_finite x y f in rounds_near (⊠-proper (exactly_proper x) (exactly_proper y)) (product_rounds x y both.0 both.1) f

pub quotient_near : (x y : Float) {B : Fraction} → T (finite y) → whole 0 ≺ exactly y → T (finite (x ⊘ y)) → Bounded B (exactly x ⧄ exactly y) → least_normal ≼ B → Within (B ⊠ half_place) (exactly (x ⊘ y)) (exactly x ⧄ exactly y)
quotient_near x y q h f = rounds_near (⧄-proper (exactly_proper x) h) (quotient_rounds x y (quotient_finite x y f).0 q h) f

-- ---- an exact result that an f64 holds

same_size : (s t : Bool) (a c b d : ℕ) → signed s (over a c) ≈ signed t (over b d) → a * d ≡ b * c
unfolding over opposite
same_size false false a c b d h = omega (arith, h.holds)
same_size false true a c b d h = omega (arith, h.holds)
same_size true false a c b d h = omega (arith, h.holds)
same_size true true a c b d h = omega (arith, h.holds)

-- It comes back unchanged.
pub rounds_held : {x : Float} {v : Fraction} → Proper v → Rounds x v → Held v → Unchanged x v
rounds_held {x} {v} P r h =
    let s = r.negative in
    let a = r.top in
    let c = r.bottom in
    let q = h.digits in
    let k = h.zeros in
    let e = same_size s h.negative a c (q * 2 ^ k) (2 ^ 1074) (≈-trans P (≈-sym r.value) h.is) in
    let w = round_exact binary64 s a c q k r.some h.few h.small e in
    subst (λ (y : Float). Unchanged y v) (sym r.is)
    (record { number = has_value (round binary64 s a c) s a c w; is = ≈-trans (signed_proper s (over_proper a c r.some)) (value (round binary64 s a c) s a c w) (≈-sym r.value) })

pub held_same : {v w : Fraction} → Proper v → w ≈ v → Held v → Held w
held_same P e h = record { negative = h.negative; digits = h.digits; zeros = h.zeros; few = h.few; small = h.small; is = ≈-trans P e h.is }

pub held_zero : Held (whole 0)
held_zero = record { negative = false; digits = 0; zeros = 0; few = lit≤ tt; small = lit≤ tt; is = (over-≈ 0 1 (0 * 2 ^ 0) (2 ^ 1074)).1 refl }

pub held_float : (x : Float) → T (fits binary64 x) → T (finite x) → Held (exactly x)
held_float (fin s m e) f p =
    let u = in_units binary64 s m e f in
    record {
      negative = s;
      digits = u.digits;
      zeros = u.zeros;
      few = u.few;
      small = units_small binary64 s m e f;
      is = value (fin s m e) s (u.digits * 2 ^ u.zeros) (2 ^ 1074) u.value;
    }
held_float nan f p = elim p [ ]
held_float (inf _) f p = elim p [ ]
