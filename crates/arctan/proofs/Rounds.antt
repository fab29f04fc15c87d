-- The f64 operations that arctangent makes, each against the exact one: finite operands with no sign, and a bound on how far the result lies from the exact one. Assumes nothing.
use Rattle.std.proofs.Common.{◌≡◌, ℕ, suc, ◌+◌, ◌-◌, ◌*◌, ◌^◌, ◌<◌, ◌≤◌, Bool, true, false, cond, T, eqb, ltb, ◌⊎◌, ◌↔◌, sym, refl, ap, ◌∙◌, subst, inl, inr, true≢false, le_trans, le_of_eq, lt_of_le_of_lt, mul-le-mul_right, zero-lt-suc, mul_assoc, add-sub_of_le, lt_of_mul-lt-mul_right, mul-le-mul_left, mul-lt-mul_of_pos_right, mul-pos, mul-one, le_of_mul-le-mul_right, sub-le, arith, lit<, lit≤, eqb→eq, pow_pos, pow_mono, pow-add, shl_lt}
use native.Mathlib.Nat.{sub-zero, pow-succ'}
use lib.Dec.{not_T}
use lib.Arith.{le→nltb}
use lib.Ieee.{Float, nan, inf, fin, binary64, up, down, round, add, sub, mul, div, of_bits, fits}
use lib.Ieee.Exact.{HasValue, round_exact}
use lib.Ieee.Scale.{finite, grid, round_val, round_under}
use lib.Ieee.Bits.{cond_no}
use lib.Ieee.Positive.{num, den, den_pos, first_pos, value→cross}
use Rattle.exact.specs.F64.{◌⊕◌, ◌⊖◌, ◌⊗◌, ◌⊘◌}
use Rattle.exact.specs.Rounding.{limit}
use Rattle.exact.specs.Fraction.{Fraction, Proper, ◌≼◌, ◌≺◌, ◌≈◌, over, whole, ◌⊞◌, ◌⊟◌, opposite, ◌⊠◌, ◌⧄◌, Within, exactly, half_units}
use Rattle.exact.proofs.Fractions.{value, over_proper, over-≼, over-⊠, ≼-≺-trans, ≈→≼, ≈-sym, within_to, within_wider, near_finite, half_units_proper, exactly_proper, ⊞-proper, ⊟-proper, ⧄-proper}
use Rattle.exact.proofs.Pattern.{exponent_lt, InUnits, in_units, in_range, rescaled}
use Rattle.exact.proofs.Rounding.{rounded}
use Rattle.exact.proofs.Laws.{rounding_finite}
use Rattle.arctan.specs.Arctangent.{scale, unit}

-- ---- finite, and with no sign: +0 and what lies above it

abbrev pub plain : Float → Bool
plain nan = false
plain (inf s) = false
plain (fin true m e) = false
plain (fin false m e) = true

pub plain_finite : (x : Float) → T (plain x) → T (finite x)
plain_finite nan p = p
plain_finite (inf s) p = p
plain_finite (fin s m e) p = tt

-- its number is a fraction of two whole numbers
pub plain_exactly : (x : Float) → T (plain x) → exactly x ≡ over (num x) (den x)
unfolding exactly
plain_exactly nan p = absurd p
plain_exactly (inf s) p = absurd p
plain_exactly (fin true m e) p = absurd p
plain_exactly (fin false m e) p = refl

-- it is not negative
pub plain_low : (x : Float) → T (plain x) → whole 0 ≼ exactly x
plain_low x p = rw (plain_exactly x p) ((over-≼ 0 1 (num x) (den x)).1 (omega arith))

-- what has a size and no sign
pub value_plain : (x : Float) (a c : ℕ) → HasValue x false a c → T (plain x)
value_plain nan a c h = h
value_plain (inf s) a c h = h
value_plain (fin true m e) a c h = absurd (true≢false h.0)
value_plain (fin false m e) a c h = tt

-- above zero there is no sign
pub above_plain : (x : Float) → T (finite x) → whole 0 ≺ exactly x → T (plain x)
unfolding exactly over opposite
above_plain nan p h = p
above_plain (inf s) p h = p
above_plain (fin true m e) p h = absurd (none (m * up e) (down e) h.holds)
  where
    none : (a c : ℕ) → 0 * c + a * 1 < 0 * 1 + 0 * c → ⊥
    none a c h = omega arith
above_plain (fin false m e) p h = tt

-- ---- nearness of two such fractions, in whole numbers

pub apart : (e u a c b d : ℕ) → Within (over e u) (over a c) (over b d) → (a * d * u ≤ b * c * u + e * (c * d)) × (b * c * u ≤ a * d * u + e * (c * d))
unfolding over ◌⊞◌ opposite
apart e u a c b d h = (omega (arith, h.not_above.holds), omega (arith, h.not_below.holds))

pub together : (e u a c b d : ℕ) → 0 < c → 0 < d → a * d * u ≤ b * c * u + e * (c * d) → b * c * u ≤ a * d * u + e * (c * d) → Within (over e u) (over a c) (over b d)
unfolding over ◌⊞◌ opposite
together e u a c b d C D h k = record { left = record { above = C }; right = record { above = D }; not_above = record { holds = omega arith }; not_below = record { holds = omega arith } }

-- ---- a fraction a / c below 2 ^ t / 2, rounded: the last place is at most 2 ^ (t - 54)

below : (p a c l w : ℕ) → 0 < l → p * c ≤ a * l → 2 * a < w * c → 2 * p < w * l
below p a c l w L h k = lt_of_mul-lt-mul_right c (omega (arith, mul-lt-mul_of_pos_right k L))

last_le : (a c t l : ℕ) → 2 * a < 2 ^ t * c → (l ≡ 0) ⊎ (2 ^ (52 + l) * c ≤ a * 2 ^ 1074) → l ≤ t + 1020
last_le a c t l h (inl z) = omega arith
last_le a c t l h (inr p) =
    back (exponent_lt (suc (52 + l)) (t + 1074) (rw (pow-succ' 2 (52 + l), pow-add 2 t 1074) (below (2 ^ (52 + l)) a c (2 ^ 1074) (2 ^ t) (pow_pos 1074) p h)))
  where
    back : suc (52 + l) < t + 1074 → l ≤ t + 1020
    back h = omega arith

half_le : (t l : ℕ) → l ≤ t + 1020 → half_units binary64 l ≼ over (2 ^ t) (2 ^ 55)
unfolding half_units
half_le t l h =
    (over-≼ (2 ^ l) (2 * 2 ^ 1074) (2 ^ t) (2 ^ 55)).1
    (le_trans (le_of_eq (sym (pow-add 2 l 55))) (le_trans (pow_mono (more l t h)) (le_of_eq (pow-add 2 t 1075))))
  where
    more : (l t : ℕ) → l ≤ t + 1020 → l + 55 ≤ t + 1075
    more l t h = omega arith

-- x is finite and has no sign, and lies within ε of v
pub record PlainNear (x : Float) (ε v : Fraction) : Type 0 where
  pub plain : T (plain x)
  pub near : Within ε (exactly x) v

small : (a c w l : ℕ) → 2 * a < w * c → w ≤ l → a < l * c
small a c w l h k = omega (arith, mul-le-mul_right c k)

pub round_near : (a c t : ℕ) → 0 < c → t ≤ 100 → 2 * a < 2 ^ t * c → PlainNear (round binary64 false a c) (over (2 ^ t) (2 ^ 55)) (over a c)
round_near a c t C t≤ h =
    let r = rounded binary64 false a c C in
    let f = rounding_finite binary64 false a c C (small a c (2 ^ t) (limit binary64) h (le_trans (pow_mono t≤) (lit≤ tt))) in
    record {
      plain = value_plain (round binary64 false a c) (grid binary64 a c) (2 ^ 1074) (round_val binary64 a c (round_under binary64 a c f));
      near = within_wider (half_units_proper binary64 r.last) (half_le t r.last (last_le a c t r.last h r.place)) (near_finite C r f);
    }

-- the same of a float that is such a rounding, and of a number that is the fraction
pub over-≺ : (a c b d : ℕ) → (over a c ≺ over b d) ↔ (a * d < b * c)
unfolding over
over-≺ a c b d = (λ h. omega arith, λ h. omega arith)

as_rounded : (z : Float) (v : Fraction) (a c t : ℕ) → Proper v → z ≡ round binary64 false a c → v ≈ over a c → 0 < c → t ≤ 100 → v ≺ over (2 ^ t) 2 → PlainNear z (over (2 ^ t) (2 ^ 55)) v
as_rounded z v a c t N e q C t≤ h =
    let P = over_proper a c C in
    let l = (over-≺ a c (2 ^ t) 2).0 (≼-≺-trans P (≈→≼ (≈-sym q)) h) in
    let r = round_near a c t C t≤ (omega arith) in
    subst (λ (x : Float). PlainNear x (over (2 ^ t) (2 ^ 55)) v) (sym e) (record { plain = r.plain; near = within_to N (≈-sym q) r.near })

-- ---- the sum

pub over_sum : (a c b d : ℕ) → over a c ⊞ over b d ≈ over (a * d + b * c) (c * d)
unfolding over ◌⊞◌
over_sum a c b d = omega arith

sum_is : (x y : Float) → T (plain x) → T (plain y) → x ⊕ y ≡ round binary64 false (num x * den y + num y * den x) (den x * den y)
unfolding add
sum_is (fin false m e) (fin false n d) p q = refl
sum_is nan y p q = elim p [ ]
sum_is (inf _) y p q = elim p [ ]
sum_is (fin false m e) nan p q = elim q [ ]
sum_is (fin false m e) (inf _) p q = elim q [ ]
sum_is (fin false m e) (fin true n d) p q = elim q [ ]
sum_is (fin true m e) y p q = elim p [ ]

-- below 2 ^ t / 2 it is at most 2 ^ (t - 55) off: 2 ^ -53 below 2, and 2 ^ -52 below 4
pub sum_near : (x y : Float) (t : ℕ) → T (plain x) → T (plain y) → t ≤ 100 → exactly x ⊞ exactly y ≺ over (2 ^ t) 2 → PlainNear (x ⊕ y) (over (2 ^ t) (2 ^ 55)) (exactly x ⊞ exactly y)
sum_near x y t p q t≤ h =
    as_rounded (x ⊕ y) (exactly x ⊞ exactly y) (num x * den y + num y * den x) (den x * den y) t (⊞-proper (exactly_proper x) (exactly_proper y)) (sum_is x y p q)
    (rw (plain_exactly x p, plain_exactly y q) (over_sum (num x) (den x) (num y) (den y))) (mul-pos (den_pos x) (den_pos y)) t≤ h

-- ---- the difference of y from an x that is no smaller

pub over_difference : (a c b d k : ℕ) → b * c + k ≡ a * d → over a c ⊟ over b d ≈ over k (c * d)
unfolding over ◌⊞◌ opposite
over_difference a c b d k e = record { holds = omega (arith, ap (λ (x : ℕ). x * (c * d)) e) }

pub in_order : (x y : Float) → T (plain x) → T (plain y) → exactly y ≼ exactly x → num y * den x ≤ num x * den y
unfolding over
in_order x y p q h = (over-≼ (num y) (den y) (num x) (den x)).0 (rw (plain_exactly x p, plain_exactly y q) at h)

pub difference_is : (x y : Float) → T (plain x) → T (plain y) → num y * den x ≤ num x * den y → x ⊖ y ≡ round binary64 false (num x * den y - num y * den x) (den x * den y)
unfolding sub
difference_is (fin false m e) (fin false n d) p q h =
    let a = m * up e * down d in
    let b = n * up d * down e in
    let c = down e * down d in
    cond_no (ltb a b) (round binary64 true (b - a) c) (round binary64 false (a - b) c) (le→nltb a b h)
difference_is nan y p q h = elim p [ ]
difference_is (inf _) y p q h = elim p [ ]
difference_is (fin false m e) nan p q h = elim q [ ]
difference_is (fin false m e) (inf _) p q h = elim q [ ]
difference_is (fin false m e) (fin true n d) p q h = elim q [ ]
difference_is (fin true m e) y p q h = elim p [ ]

pub difference_near : (x y : Float) (t : ℕ) → T (plain x) → T (plain y) → t ≤ 100 → exactly y ≼ exactly x → exactly x ⊟ exactly y ≺ over (2 ^ t) 2
    → PlainNear (x ⊖ y) (over (2 ^ t) (2 ^ 55)) (exactly x ⊟ exactly y)
difference_near x y t p q t≤ o h =
    let l = in_order x y p q o in
    as_rounded (x ⊖ y) (exactly x ⊟ exactly y) (num x * den y - num y * den x) (den x * den y) t (⊟-proper (exactly_proper x) (exactly_proper y)) (difference_is x y p q l)
    (rw (plain_exactly x p, plain_exactly y q) (over_difference (num x) (den x) (num y) (den y) (num x * den y - num y * den x) (add-sub_of_le l))) (mul-pos (den_pos x) (den_pos y)) t≤ h

-- ---- the quotient by a y above zero

pub over_quotient : (a c b d : ℕ) → over a c ⧄ over b d ≈ over (a * d) (b * c)
unfolding over ◌⧄◌
over_quotient a c b d = record { holds = simp (sub-zero) (omega arith) }

pub num_above : (y : Float) → T (plain y) → whole 0 ≺ exactly y → 0 < num y
num_above y q h = let l = (over-≺ 0 1 (num y) (den y)).0 (rw (plain_exactly y q) at h) in omega arith

quotient_is : (x y : Float) → T (plain x) → T (plain y) → 0 < num y → x ⊘ y ≡ round binary64 false (num x * den y) (num y * den x)
unfolding div
quotient_is (fin false m e) (fin false n d) p q h =
    cond_no (eqb n 0) (cond (eqb m 0) nan (inf false)) (round binary64 false (m * up e * down d) (n * up d * down e)) (not_T (eqb n 0) (λ u. differs n (first_pos n (up d) h) (eqb→eq n 0 u)))
  where
    differs : (n : ℕ) → 0 < n → n ≡ 0 → ⊥
    differs n h e = omega arith
quotient_is nan y p q h = elim p [ ]
quotient_is (inf _) y p q h = elim p [ ]
quotient_is (fin false m e) nan p q h = elim q [ ]
quotient_is (fin false m e) (inf _) p q h = elim q [ ]
quotient_is (fin false m e) (fin true n d) p q h = elim q [ ]
quotient_is (fin true m e) y p q h = elim p [ ]

pub quotient_near : (x y : Float) (t : ℕ) → T (plain x) → T (plain y) → t ≤ 100 → whole 0 ≺ exactly y → exactly x ⧄ exactly y ≺ over (2 ^ t) 2
    → PlainNear (x ⊘ y) (over (2 ^ t) (2 ^ 55)) (exactly x ⧄ exactly y)
quotient_near x y t p q t≤ o h =
    let n = num_above y q o in
    as_rounded (x ⊘ y) (exactly x ⧄ exactly y) (num x * den y) (num y * den x) t (⧄-proper (exactly_proper x) o) (quotient_is x y p q n)
    (rw (plain_exactly x p, plain_exactly y q) (over_quotient (num x) (den x) (num y) (den y))) (mul-pos n (den_pos x)) t≤ h

-- ---- a product by a power of two, exact where nothing is lost at either end

pub units_of : (x : Float) → T (fits binary64 x) → T (plain x) → InUnits binary64 x false
units_of (fin false m e) f p = in_units binary64 false m e f
units_of nan f p = elim p [ ]
units_of (inf _) f p = elim p [ ]
units_of (fin true m e) f p = elim p [ ]

up_is : (z : Float) → T (plain z) → z ⊗ scale ≡ round binary64 false (num z * 2 ^ 60) (den z * 1)
unfolding mul of_bits
up_is (fin false m e) p = refl
up_is nan p = elim p [ ]
up_is (inf _) p = elim p [ ]
up_is (fin true m e) p = elim p [ ]

down_is : (z : Float) → T (plain z) → z ⊗ unit ≡ round binary64 false (num z * 1) (den z * 2 ^ 60)
unfolding mul of_bits
down_is (fin false m e) p = refl
down_is nan p = elim p [ ]
down_is (inf _) p = elim p [ ]
down_is (fin true m e) p = elim p [ ]

-- z is n / d, and g units of 1 / l
at_most_lem : (n d g l : ℕ) → 0 < d → n * l ≡ g * d → n ≤ d → g ≤ l
at_most_lem n d g l D e h = le_of_mul-le-mul_right (omega (arith, mul-le-mul_right l h)) D

pub at_least : (n d g l : ℕ) → 0 < d → n * l ≡ g * d → d ≤ n → l ≤ g
at_least n d g l D e h = le_of_mul-le-mul_right (omega (arith, mul-le-mul_right l h)) D

-- a number up to 1, times 2 ^ 60
pub scale_exact : (z : Float) → T (fits binary64 z) → T (plain z) → exactly z ≼ whole 1 → HasValue (z ⊗ scale) false (num z * 2 ^ 60) (den z)
scale_exact z f p h =
    let u = units_of z f p in
    let q = u.digits in
    let k = u.zeros in
    let D = mul-pos (den_pos z) (zero-lt-suc 0) in
    let e = value→cross z (q * 2 ^ k) (2 ^ 1074) u.value in
    let g = at_most_lem (num z) (den z) (q * 2 ^ k) (2 ^ 1074) (den_pos z) e (fewer (num z) (den z) ((over-≼ (num z) (den z) 1 1).0 (rw (plain_exactly z p) at h))) in
    let same : q * 2 ^ (k + 60) ≡ q * 2 ^ k * 2 ^ 60 = ap (λ (x : ℕ). q * x) (pow-add 2 k 60) ∙ sym (mul_assoc q (2 ^ k) (2 ^ 60)) in
    subst (λ (x : Float). HasValue x false (num z * 2 ^ 60) (den z)) (sym (up_is z p))
    (rescaled (round binary64 false (num z * 2 ^ 60) (den z * 1)) false (num z * 2 ^ 60) (den z * 1) (num z * 2 ^ 60) (den z) D (rw (mul-one (den z)) refl)
    (round_exact binary64 false (num z * 2 ^ 60) (den z * 1) q (k + 60) D u.few
    (lt_of_le_of_lt (le_trans (le_of_eq same) (mul-le-mul_right (2 ^ 60) g)) (lit< tt))
    (rw same (times (num z) (den z) (q * 2 ^ k) (2 ^ 1074) (2 ^ 60) e))))
  where
    fewer : (n d : ℕ) → n * 1 ≤ 1 * d → n ≤ d
    fewer n d h = omega arith

    times : (n d g l s : ℕ) → n * l ≡ g * d → n * s * l ≡ g * s * (d * 1)
    times n d g l s e = omega (arith, ap (λ (x : ℕ). x * s) e)

-- a number from 1 on, times 2 ^ -60
pub unit_exact : (w : Float) → T (fits binary64 w) → T (plain w) → whole 1 ≼ exactly w → HasValue (w ⊗ unit) false (num w) (den w * 2 ^ 60)
unit_exact w f p h =
    let u = units_of w f p in
    let q = u.digits in
    let k = u.zeros in
    let D = mul-pos (den_pos w) (pow_pos 60) in
    let e = value→cross w (q * 2 ^ k) (2 ^ 1074) u.value in
    let g = at_least (num w) (den w) (q * 2 ^ k) (2 ^ 1074) (den_pos w) e (more (num w) (den w) ((over-≼ 1 1 (num w) (den w)).0 (rw (plain_exactly w p) at h))) in
    let far : 1074 < 53 + k = exponent_lt 1074 (53 + k) (lt_of_le_of_lt g (shl_lt 53 k u.few)) in
    let same : 2 ^ k ≡ 2 ^ (k - 60) * 2 ^ 60 = ap (λ (x : ℕ). 2 ^ x) (parts k far) ∙ pow-add 2 (k - 60) 60 in
    subst (λ (x : Float). HasValue x false (num w) (den w * 2 ^ 60)) (sym (down_is w p))
    (rescaled (round binary64 false (num w * 1) (den w * 2 ^ 60)) false (num w * 1) (den w * 2 ^ 60) (num w) (den w * 2 ^ 60) D (rw (mul-one (num w)) refl)
    (round_exact binary64 false (num w * 1) (den w * 2 ^ 60) q (k - 60) D u.few
    (lt_of_le_of_lt (mul-le-mul_left q (pow_mono (sub-le k 60))) (under (num w) (den w) (q * 2 ^ k) (2 ^ 1074) (2 ^ 1024) (pow_pos 1074) e (range w f p)))
    (times (num w) (den w) q (2 ^ (k - 60)) (2 ^ k) (2 ^ 1074) (2 ^ 60) same e)))
  where
    more : (n d : ℕ) → 1 * d ≤ n * 1 → d ≤ n
    more n d h = omega arith

    parts : (k : ℕ) → 1074 < 53 + k → k ≡ k - 60 + 60
    parts k h = omega arith

    times : (n d q j g l s : ℕ) → g ≡ j * s → n * l ≡ q * g * d → n * 1 * l ≡ q * j * (d * s)
    times n d q j g l s p e = omega (arith, ap (λ (x : ℕ). q * x * d) p)

    range : (w : Float) → T (fits binary64 w) → T (plain w) → num w < 2 ^ 1024 * den w
    range (fin false m e) f p = in_range binary64 m e f
    range nan f p = elim p [ ]
    range (inf _) f p = elim p [ ]
    range (fin true m e) f p = elim p [ ]

    under : (n d g l b : ℕ) → 0 < l → n * l ≡ g * d → n < b * d → g < l * b
    under n d g l b L e h = lt_of_mul-lt-mul_right d (omega (arith, mul-lt-mul_of_pos_right h L))

-- and so as fractions
pub product_scale : (z : Float) → T (fits binary64 z) → T (plain z) → exactly z ≼ whole 1 → exactly (z ⊗ scale) ≈ exactly z ⊠ whole (2 ^ 60)
product_scale z f p h =
    rw (plain_exactly z p, over-⊠ (num z) (den z) (2 ^ 60) 1, mul-one (den z)) (value (z ⊗ scale) false (num z * 2 ^ 60) (den z) (scale_exact z f p h))

pub unit_scale : (w : Float) → T (fits binary64 w) → T (plain w) → whole 1 ≼ exactly w → exactly (w ⊗ unit) ≈ exactly w ⊠ over 1 (2 ^ 60)
unit_scale w f p h =
    rw (plain_exactly w p, over-⊠ (num w) (den w) 1 (2 ^ 60), mul-one (num w)) (value (w ⊗ unit) false (num w) (den w * 2 ^ 60) (unit_exact w f p h))
