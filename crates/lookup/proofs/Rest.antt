-- The fraction of an index is the index without its whole part, exactly, from 0 to below 1 (`rest_part`). Assumes nothing.
use Rattle.std.proofs.Common.{◌≡◌, ℕ, ◌+◌, ◌-◌, ◌*◌, ◌^◌, ◌<◌, ◌≤◌, Bool, true, false, T, ap, lt_of_lt_of_le, lt_of_mul-lt-mul_right, le_of_mul-le-mul_right, arith, lit≤, pow_pos}
use native.Mathlib.Decide.{dec_le}
use lib.Ieee.{Float, nan, inf, fin, binary64, fits}
use lib.Ieee.Fits.{sub-fits}
use lib.Ieee.Scale.{finite}
use Rattle.exact.specs.Fraction.{Fraction, ◌≼◌, ◌≺◌, ◌≈◌, over, whole, opposite, ◌⊞◌, ◌⊟◌, signed, exactly}
use Rattle.exact.specs.Operations.{Held, Unchanged}
use Rattle.exact.proofs.Fractions.{value, over_proper, whole_proper, signed_proper, exactly_proper, ⊟-proper, ⊞-cong, opposite_cong, ≼-≈, ≼-≺-trans, ≈→≼, ≈-sym, ≈-refl}
use Rattle.exact.proofs.Operations.{difference_rounds, rounds_same, rounds_held, held_same, held_zero}
use Rattle.exact.proofs.Pattern.{in_units}
use Rattle.monotone.proofs.Laws.{power_split}
use Rattle.region.specs.Size.{float}
use Rattle.lookup.specs.Asked.{Inside}
use Rattle.lookup.specs.Lookup.{whole_part, fraction}
use Rattle.lookup.proofs.Among.{cut, float_finite, float_exactly}
use Rattle.lookup.proofs.Way.{Part, rest_not_negative}

-- ---- X units of 1 / l, less w

less_units : (X w l y : ℕ) → y + w * l ≡ X → over X l ⊟ whole w ≈ over y l
unfolding over ◌⊞◌ opposite
less_units X w l y e = record { holds = omega (arith, ap (λ (x : ℕ). x * l) e) }

-- with a sign it can only be nothing
no_units : (X w l : ℕ) → whole w ≼ opposite (over X l) → opposite (over X l) ⊟ whole w ≈ whole 0
unfolding over ◌⊞◌ opposite
no_units X w l h = record { holds = omega (arith, h.holds) }

reaches : (X w l : ℕ) → whole w ≼ over X l → w * l ≤ X
unfolding over
reaches X w l h = omega (arith, h.holds)

stops : (X w l : ℕ) → over X l ≺ whole (w + 1) → X < (w + 1) * l
unfolding over
stops X w l h = omega (arith, h.holds)

one_less : (x : Fraction) (w : ℕ) → x ≺ whole (w + 1) → x ⊟ whole w ≺ whole 1
unfolding over ◌⊞◌ opposite
one_less x w b = record { holds = omega (arith, b.holds) }

-- the digits below the point: q * g units, of which p * g come to 1
finer : (q g p l w : ℕ) → 0 < g → p * g ≡ l → w * l ≤ q * g → q * g < (w + 1) * l → ((q - w * p) * g + w * l ≡ q * g) × (q - w * p ≤ q) × ((q - w * p) * g < l)
finer q g p l w G e h k =
    let m : w * p ≤ q = le_of_mul-le-mul_right (omega (arith, ap (λ (x : ℕ). w * x) e)) G in
    let b = taken (w * p) q m in
    let s : (q - w * p) * g + w * l ≡ q * g = omega (arith, ap (λ (x : ℕ). x * g) b, ap (λ (x : ℕ). w * x) e) in
    (s, less (w * p) q, omega arith)
  where
    taken : (a b : ℕ) → a ≤ b → b - a + a ≡ b
    taken a b h = omega arith

    less : (a b : ℕ) → b - a ≤ b
    less a b = omega arith

-- no digits below the point: q * p whole ones
coarser : (q g p l w : ℕ) → 0 < l → p * l ≡ g → w * l ≤ q * g → q * g < (w + 1) * l → 0 + w * l ≡ q * g
coarser q g p l w L e h k =
    let f : q * g ≡ q * p * l = omega (arith, ap (λ (x : ℕ). q * x) e) in
    let m : w ≤ q * p = le_of_mul-le-mul_right (omega arith) L in
    let n : q * p < w + 1 = lt_of_mul-lt-mul_right l (omega arith) in
    let same : q * p ≡ w = omega arith in
    omega (arith, ap (λ (x : ℕ). x * l) same)

held_units : (q k w : ℕ) → q < 2 ^ 53 → w * 2 ^ 1074 ≤ q * 2 ^ k → q * 2 ^ k < (w + 1) * 2 ^ 1074 → Held (over (q * 2 ^ k) (2 ^ 1074) ⊟ whole w)
held_units q k w few h b = elim (dec_le k 1074) [
  | yes l ↦
      let p = 2 ^ (1074 - k) in
      let f = finer q (2 ^ k) p (2 ^ 1074) w (pow_pos k) (power_split k 1074 l) h b in
      record {
        negative = false;
        digits = q - w * p;
        zeros = k;
        few = fewer (q - w * p) q (2 ^ 53) f.1 few;
        small = lt_of_lt_of_le f.2 (lit≤ tt);
        is = less_units (q * 2 ^ k) w (2 ^ 1074) ((q - w * p) * 2 ^ k) f.0;
      }
  | no l ↦ record {
    negative = false;
    digits = 0;
    zeros = 0;
    few = lit≤ tt;
    small = lit≤ tt;
    is = less_units (q * 2 ^ k) w (2 ^ 1074) 0 (coarser q (2 ^ k) (2 ^ (k - 1074)) (2 ^ 1074) w (pow_pos 1074) (power_split 1074 k (omega arith)) h b);
  }
]
  where
    fewer : (a b c : ℕ) → a ≤ b → b < c → a < c
    fewer a b c h k = omega arith

held_signed : (s : Bool) (q k w : ℕ) → q < 2 ^ 53 → whole w ≼ signed s (over (q * 2 ^ k) (2 ^ 1074)) → signed s (over (q * 2 ^ k) (2 ^ 1074)) ≺ whole (w + 1) → Held (signed s (over (q * 2 ^ k) (2 ^ 1074)) ⊟ whole w)
held_signed false q k w few h b = held_units q k w few (reaches (q * 2 ^ k) w (2 ^ 1074) h) (stops (q * 2 ^ k) w (2 ^ 1074) b)
held_signed true q k w few h b = held_same (whole_proper 0) (no_units (q * 2 ^ k) w (2 ^ 1074) h) held_zero

-- ---- a float without a whole number that it reaches, less than 1 above

pub held_rest : (i : Float) (w : ℕ) → T (fits binary64 i) → T (finite i) → whole w ≼ exactly i → exactly i ≺ whole (w + 1) → Held (exactly i ⊟ whole w)
held_rest nan w f t h b = elim t [ ]
held_rest (inf _) w f t h b = elim t [ ]
held_rest (fin s m e) w f t h b =
    let u = in_units binary64 s m e f in
    let q = u.digits in
    let k = u.zeros in
    let x = fin s m e in
    let X = signed_proper s (over_proper (q * 2 ^ k) (2 ^ 1074) (pow_pos 1074)) in
    let is : exactly x ≈ signed s (over (q * 2 ^ k) (2 ^ 1074)) = value x s (q * 2 ^ k) (2 ^ 1074) u.value in
    held_same (⊟-proper X (whole_proper w)) (⊞-cong is (≈-refl (opposite (whole w))))
    (held_signed s q k w u.few (≼-≈ (exactly_proper x) h is) (≼-≺-trans X (≈→≼ (≈-sym is)) b))

-- ---- the fraction of an index

module _ (i : Float) (cells : ℕ) (f : T (fits binary64 i)) (h : Inside i cells) where
  rest_unchanged : Unchanged (fraction i) (exactly i ⊟ whole (whole_part i))
  rest_unchanged =
      let c = cut i cells h in
      let w = whole_part i in
      let few : w ≤ 4096 = omega arith in
      let I = exactly_proper i in
      rounds_held (⊟-proper I (whole_proper w))
      (rounds_same (⊟-proper I (exactly_proper (float w))) (⊞-cong (≈-refl (exactly i)) (opposite_cong (≈-sym (float_exactly w few)))) (difference_rounds i (float w) c.number (float_finite w few)))
      (held_rest i w f c.number c.not_above c.not_below)

  -- it is exact, and from 0 to below 1
  pub rest_part : Part (fraction i)
  rest_part =
      let c = cut i cells h in
      let I = ⊟-proper (exactly_proper i) (whole_proper (whole_part i)) in
      let is = rest_unchanged.is in
      record {
        number = rest_unchanged.number;
        held = sub-fits binary64 i (float (whole_part i));
        low = ≼-≈ I (rest_not_negative c.not_above) (≈-sym is);
        high = ≼-≺-trans (exactly_proper (fraction i)) (≈→≼ is) (one_less (exactly i) (whole_part i) c.not_below);
      }
