-- Between two f64s by a fraction below 1, as it is rounded: no further than either of the two (`between_inside`), and the first where both are one number (`between_level`). Assumes nothing.
use Rattle.std.proofs.Common.{◌≡◌, ℕ, ◌+◌, ◌-◌, ◌*◌, ◌^◌, ◌<◌, ◌≤◌, Bool, true, false, T, ap, ◌∙◌, inl, inr, lt_of_lt_of_le, add-sub_of_le, lt_of_mul-lt-mul_right, mul-le-mul_left, mul-lt-mul_of_pos_right, mul-one, le_of_mul-le-mul_right, arith, lit≤, pow_pos}
use lib.Ieee.{Float, nan, inf, fin, binary64, fits, neg, of_bits}
use lib.Ieee.Fits.{add-fits}
use lib.Ieee.Scale.{finite}
use Rattle.exact.specs.Alike.{◌≐◌}
use Rattle.exact.specs.F64.{◌⊖◌, ◌⊗◌, is_zero}
use Rattle.exact.specs.Fraction.{Fraction, Proper, ◌≼◌, ◌≺◌, ◌≈◌, over, whole, opposite, ◌⊞◌, ◌⊟◌, ◌⊠◌, signed, exactly}
use Rattle.exact.specs.Operations.{Rounds, Bounded, Held, half_place, least_normal}
use Rattle.exact.proofs.Alike.{◌⟨⊖⟩◌, its, ≐-isZero, plus_zero}
use Rattle.exact.proofs.Fractions.{value, over_proper, signed_proper, exactly_proper, over-≼, over-⊠, opposite_cong, opposite_opposite, opposite-⊞, opposite-⊠, ⊞-proper, ⊟-proper, ⊠-proper, ⊞-comm, ⊞-zero, ⊞-mono, ⊞-cong, ⊠-comm, ⊠-assoc, ⊠-one, ⊠-mono, ⊠-⊞, ⊠-not-negative, ≼_refl, ≼_trans, ≼-≺-trans, ≺-≼-trans, ≺→≼, ≺-not-≼, ≼-or-≺, ≼-total, ≼-≈, ≈→≼, ≈-sym, move, exactly_neg}
use Rattle.exact.proofs.Operations.{sum_finite, difference_finite, product_finite, sum_rounds, difference_rounds, product_rounds, neg_finite, rounds_near, rounds_held, held_same}
use Rattle.exact.proofs.Laws.{value_in_units}
use Rattle.exact.proofs.Zeros.{self_less, times_zero}
use Rattle.monotone.proofs.Laws.{rounds_fits, rounds_turned, rounds_not_above, rounds_not_below, rounds_not_negative, below_one}
use Rattle.lookup.specs.Lookup.{between}

-- a fraction as a lookup has it: an f64 from 0 to below 1
pub record Part (a : Float) : Type 0 where
  pub number : T (finite a)
  pub held : T (fits binary64 a)
  pub low : whole 0 ≼ exactly a
  pub high : exactly a ≺ whole 1

-- ---- fractions

-- a number above zero isn't a part of itself
steeper : (p m j l : ℕ) → m < p → j < l → p * j + m * l < p * l + m * j
steeper p m j l h k = rw (← add-sub_of_le (less h)) (omega (arith, mul-le-mul_left (p - m) k))
  where
    less : {m p : ℕ} → m < p → m ≤ p
    less h = omega arith

no_part_of_itself : (y : Fraction) (j l : ℕ) → Proper y → whole 0 ≺ y → j < l → y ≼ y ⊠ over j l → ⊥
unfolding over ◌⊠◌
no_part_of_itself y j l P h k g = omega (arith, g.holds, mul-lt-mul_of_pos_right (steeper y.plus y.minus j l (omega (arith, h.holds)) k) P.above)

times : {x c d : Fraction} → whole 0 ≼ x → c ≼ d → x ⊠ c ≼ x ⊠ d
times {x} {c} {d} h k = rw (⊠-comm x c, ⊠-comm x d) (⊠-mono h k)

added : (j d k e l f : ℕ) → (j * e + k * d) * f ≤ l * (d * e) → over j d ⊞ over k e ≼ over l f
unfolding over ◌⊞◌
added j d k e l f h = record { holds = omega arith }

below_zero : (x : Fraction) → whole 0 ≼ x → opposite x ≼ whole 0
unfolding over opposite
below_zero x h = record { holds = omega (arith, h.holds) }

bounded : {B x : Fraction} → Proper x → whole 0 ≼ x → x ≼ B → Bounded B x
bounded {x = x} P n h = record { not_above = h; not_below = ≼_trans P (turned x n) h }
  where
    turned : (x : Fraction) → whole 0 ≼ x → opposite x ≼ x
    turned x n = ≼_trans (over_proper 0 1 (lit≤ tt)) (below_zero x n) n

-- what is at most the rest goes on top
pub rest_not_negative : {a b : Fraction} → a ≼ b → whole 0 ≼ b ⊟ a
unfolding ◌⊞◌ opposite over
rest_not_negative h = record { holds = omega (arith, h.holds) }

on_top : (a b c : Fraction) → b ≼ c ⊟ a → a ⊞ b ≼ c
unfolding ◌⊞◌ opposite
on_top a b c h = record { holds = omega (arith, h.holds) }

off_top : (w c d : Fraction) → opposite w ≼ c ⊟ d → d ≼ c ⊞ w
unfolding ◌⊞◌ opposite
off_top w c d h = record { holds = omega (arith, h.holds) }

no_more : (x : Fraction) → whole 0 ≼ opposite x → x ≼ whole 0
unfolding over opposite
no_more x h = record { holds = omega (arith, h.holds) }

-- ---- the difference of two f64s is a whole number of units, so a small one is exact

record Units (v : Fraction) (l : ℕ) : Type 0 where
  count : ℕ
  is : v ≈ over count l

units : (s t : Bool) (x y l : ℕ) → 0 < l → whole 0 ≼ signed s (over x l) ⊟ signed t (over y l) → Units (signed s (over x l) ⊟ signed t (over y l)) l
unfolding over ◌⊞◌ opposite
units false false x y l L h =
    let e : y + (x - y) ≡ x = add-sub_of_le (le_of_mul-le-mul_right (omega (arith, h.holds)) L) in
    record { count = x - y; is = record { holds = omega (arith, ap (λ (n : ℕ). n * (l * l)) e) } }
units false true x y l L h = record { count = x + y; is = record { holds = omega arith } }
units true false x y l L h =
    let e : x * l + y * l ≡ 0 = omega (arith, h.holds) in
    record { count = 0; is = record { holds = omega (arith, ap (λ (n : ℕ). n * l) e) } }
units true true x y l L h =
    let e : x + (y - x) ≡ y = add-sub_of_le (le_of_mul-le-mul_right (omega (arith, h.holds)) L) in
    record { count = y - x; is = record { holds = omega (arith, ap (λ (n : ℕ). n * (l * l)) e) } }

-- below 2^-1021, which is 2^53 units
few : (n g : ℕ) → 0 < g → over n (2 ^ 53 * g) ≺ over 1 g → n < 2 ^ 53
unfolding over
few n g G h = lt_of_mul-lt-mul_right g (omega (arith, h.holds))

pub small_held : (c d : Float) → T (fits binary64 c) → T (fits binary64 d) → T (finite c) → T (finite d)
    → whole 0 ≼ exactly d ⊟ exactly c → exactly d ⊟ exactly c ≺ over 1 (2 ^ 1021) → Held (exactly d ⊟ exactly c)
small_held nan d f g p q h b = elim p [ ]
small_held (inf _) d f g p q h b = elim p [ ]
small_held (fin t n e) nan f g p q h b = elim q [ ]
small_held (fin t n e) (inf _) f g p q h b = elim q [ ]
small_held (fin t n e) (fin s m k) f g p q h b =
    let x = value_in_units binary64 s m k g in
    let y = value_in_units binary64 t n e f in
    let X = x.digits * 2 ^ x.zeros in
    let Y = y.digits * 2 ^ y.zeros in
    let l : 0 < 2 ^ 1074 = pow_pos 1074 in
    let same = ⊞-cong (value (fin s m k) s X (2 ^ 1074) x.value) (opposite_cong (value (fin t n e) t Y (2 ^ 1074) y.value)) in
    let D = ⊟-proper (exactly_proper (fin s m k)) (exactly_proper (fin t n e)) in
    let E = ⊟-proper (signed_proper s (over_proper X (2 ^ 1074) l)) (signed_proper t (over_proper Y (2 ^ 1074) l)) in
    let u = units s t X Y (2 ^ 1074) l (≼-≈ D h same) in
    let less = few u.count (2 ^ 1021) (pow_pos 1021) (≼-≺-trans (over_proper u.count (2 ^ 1074) l) (≈→≼ (≈-sym u.is)) (≼-≺-trans E (≈→≼ (≈-sym same)) b)) in
    held_same E same
    (record { negative = false; digits = u.count; zeros = 0; few = less; small = lt_of_lt_of_le {m = 2 ^ 53} (rw (mul-one u.count) less) (lit≤ tt); is = rw (mul-one u.count) u.is })

-- ---- a step by a fraction below 1 keeps within the exact difference

module _ (a r way : Float) {R : Fraction} (part : Part a) (P : Proper R) (n : whole 0 ≼ R) (q : Rounds r R) (w : Rounds way (exactly r ⊠ exactly a)) (fr : T (finite r)) (fw : T (finite way)) where
  abbrev v : Fraction
  v = exactly r ⊠ exactly a

  v_proper : Proper v
  v_proper = ⊠-proper (exactly_proper r) (exactly_proper a)

  r_not_negative : whole 0 ≼ exactly r
  r_not_negative = rounds_not_negative P q fr n

  v_not_negative : whole 0 ≼ v
  v_not_negative = ⊠-not-negative r_not_negative part.low

  way_not_negative : whole 0 ≼ exactly way
  way_not_negative = rounds_not_negative v_proper w fw v_not_negative

  -- the step isn't more than the rounded difference
  not_past_rounded : exactly way ≼ exactly r
  not_past_rounded = rounds_not_above r v_proper w fw (rounds_fits q) fr (rw (⊠-one (exactly r)) at (times r_not_negative (≺→≼ part.high)))

  -- were it more than the exact difference, it would be at least the rounded one
  module _ (past : R ≺ exactly way) where
    way_positive : whole 0 ≺ exactly way
    way_positive = ≼-≺-trans (over_proper 0 1 (lit≤ tt)) n past

    all_of_it : exactly r ≼ exactly way
    all_of_it = rounds_not_above way P q fr (rounds_fits w) fw (≺→≼ past)

    -- but by a fraction below 1 a normal number is rounded to less
    if_normal : least_normal ≼ v → ⊥
    if_normal h =
        let y = exactly way in
        let Y = exactly_proper way in
        let s = over (2 ^ 53 - 1) (2 ^ 53) in
        let S = over_proper (2 ^ 53 - 1) (2 ^ 53) (lit≤ tt) in
        let near = rounds_near v_proper w fw (bounded v_proper v_not_negative (≼_refl v)) h in
        let less : v ≼ y ⊠ s = ≼_trans (⊠-proper Y (exactly_proper a)) (⊠-mono part.low all_of_it) (times way_not_negative (below_one a part.held part.number part.high)) in
        let H = over_proper 1 (2 ^ 53) (lit≤ tt) in
        let sum : y ≼ y ⊠ s ⊞ y ⊠ s ⊠ half_place =
        ≼_trans (⊞-proper v_proper (⊠-proper v_proper H)) ((move y v (v ⊠ half_place)).0 near.not_above) (⊞-mono less (⊠-mono ((over-≼ 0 1 1 (2 ^ 53)).1 (lit≤ tt)) less)) in
        let one : y ≼ y ⊠ (s ⊞ s ⊠ half_place) = ≼-≈ (⊞-proper (⊠-proper Y S) (⊠-proper Y (⊠-proper S H))) (rw (⊠-assoc y s half_place) at sum) (≈-sym (⊠-⊞ y s (s ⊠ half_place))) in
        let part_of : s ⊞ s ⊠ half_place ≼ over (2 ^ 106 - 1) (2 ^ 106) = rw (over-⊠ (2 ^ 53 - 1) (2 ^ 53) 1 (2 ^ 53)) (added (2 ^ 53 - 1) (2 ^ 53) ((2 ^ 53 - 1) * 1) (2 ^ 53 * 2 ^ 53) (2 ^ 106 - 1) (2 ^ 106) (lit≤ tt)) in
        no_part_of_itself y (2 ^ 106 - 1) (2 ^ 106) Y way_positive (lit≤ tt) (≼_trans (⊠-proper Y (⊞-proper S (⊠-proper S H))) one (times way_not_negative part_of))

    -- and below the normal numbers the difference is exact
    if_small : (R ≺ over 1 (2 ^ 1021) → Held R) → v ≺ least_normal → ⊥
    if_small exact h =
        let H = over_proper 1 (2 ^ 53) (lit≤ tt) in
        let N = over_proper 1 (2 ^ 1022) (lit≤ tt) in
        let near = rounds_near v_proper w fw (bounded v_proper v_not_negative (≺→≼ h)) (≼_refl least_normal) in
        let under : exactly way ≼ over 1 (2 ^ 1021) =
        ≼_trans (⊞-proper v_proper (⊠-proper N H)) ((move (exactly way) v (least_normal ⊠ half_place)).0 near.not_above)
        (≼_trans (⊞-proper N (⊠-proper N H)) (⊞-mono (≺→≼ h) (≼_refl (least_normal ⊠ half_place)))
        (rw (over-⊠ 1 (2 ^ 1022) 1 (2 ^ 53)) (added 1 (2 ^ 1022) (1 * 1) (2 ^ 1022 * 2 ^ 53) 1 (2 ^ 1021) (lit≤ tt)))) in
        let is = (rounds_held P q (exact (≺-≼-trans (over_proper 1 (2 ^ 1021) (lit≤ tt)) past under))).is in
        ≺-not-≼ past (≼-≈ (exactly_proper r) not_past_rounded is)

  not_past : (R ≺ over 1 (2 ^ 1021) → Held R) → exactly way ≼ R
  not_past exact = elim (≼-or-≺ (exactly way) R) [
    | inl h ↦ h
    | inr h ↦ absurd (elim (≼-or-≺ least_normal v) [ inl k ↦ if_normal h k | inr k ↦ if_small h exact k ])
  ]

-- ---- between two f64s

-- what is finite on the way to a finite result
pub record Finite (c d a : Float) : Type 0 where
  pub from : T (finite c)
  pub to : T (finite d)
  pub by : T (finite a)
  pub rise : T (finite (d ⊖ c))
  pub way : T (finite (a ⊗ (d ⊖ c)))

pub between_finite : (c d a : Float) → T (finite (between c d a)) → Finite c d a
unfolding between
between_finite c d a t =
    let s = sum_finite c (a ⊗ (d ⊖ c)) t in
    let p = product_finite a (d ⊖ c) s.1 in
    record { from = s.0; to = (difference_finite d c p.1).0; by = p.0; rise = p.1; way = s.1 }

pub between_fits : (c d a : Float) → T (fits binary64 (between c d a))
unfolding between
between_fits c d a = add-fits binary64 c (a ⊗ (d ⊖ c))

module _ (c d a : Float) (fc : T (fits binary64 c)) (fd : T (fits binary64 d)) (part : Part a) (t : T (finite (between c d a))) where
  abbrev rise : Float
  rise = d ⊖ c

  abbrev way : Float
  way = a ⊗ rise

  abbrev f : Finite c d a
  f = between_finite c d a t

  rise_rounds : Rounds rise (exactly d ⊟ exactly c)
  rise_rounds = difference_rounds d c f.to f.from

  way_rounds : Rounds way (exactly rise ⊠ exactly a)
  way_rounds = rw (⊠-comm (exactly a) (exactly rise)) at (product_rounds a rise f.by f.rise)

  D : Proper (exactly d ⊟ exactly c)
  D = ⊟-proper (exactly_proper d) (exactly_proper c)

  -- the sum keeps what holds of the exact one
  not_above : (y : Float) → T (fits binary64 y) → T (finite y) → exactly c ⊞ exactly way ≼ exactly y → exactly (between c d a) ≼ exactly y
  unfolding between
  not_above y g p h = rounds_not_above y (⊞-proper (exactly_proper c) (exactly_proper way)) (sum_rounds c way f.from f.way) t g p h

  not_below : (y : Float) → T (fits binary64 y) → T (finite y) → exactly y ≼ exactly c ⊞ exactly way → exactly y ≼ exactly (between c d a)
  unfolding between
  not_below y g p h = rounds_not_below y (⊞-proper (exactly_proper c) (exactly_proper way)) (sum_rounds c way f.from f.way) t g p h

  rising : exactly c ≼ exactly d → (exactly c ≼ exactly (between c d a)) × (exactly (between c d a) ≼ exactly d)
  rising h =
      let n = rest_not_negative h in
      let low = way_not_negative a rise way part D n rise_rounds way_rounds f.rise f.way in
      let high = not_past a rise way part D n rise_rounds way_rounds f.rise f.way (small_held c d fc fd f.from f.to n) in
      (not_below c fc f.from (rw (⊞-zero (exactly c)) at (⊞-mono (≼_refl (exactly c)) low)), not_above d fd f.to (on_top (exactly c) (exactly way) (exactly d) high))

  -- with the signs turned it rises
  falling : exactly d ≼ exactly c → (exactly d ≼ exactly (between c d a)) × (exactly (between c d a) ≼ exactly c)
  falling h =
      let n = rest_not_negative h in
      let C = ⊟-proper (exactly_proper c) (exactly_proper d) in
      let q : Rounds (neg rise) (exactly c ⊟ exactly d) = rw (opposite-⊞ (exactly d) (opposite (exactly c)), opposite_opposite (exactly c), ⊞-comm (opposite (exactly d)) (exactly c)) at (rounds_turned rise_rounds) in
      let w : Rounds (neg way) (exactly (neg rise) ⊠ exactly a) = rw (opposite-⊠ (exactly rise) (exactly a), ← (exactly_neg rise)) at (rounds_turned way_rounds) in
      let fr = neg_finite rise f.rise in
      let fw = neg_finite way f.way in
      let low : whole 0 ≼ opposite (exactly way) = rw (exactly_neg way) at (way_not_negative a (neg rise) (neg way) part C n q w fr fw) in
      let high : opposite (exactly way) ≼ exactly c ⊟ exactly d = rw (exactly_neg way) at (not_past a (neg rise) (neg way) part C n q w fr fw (small_held d c fd fc f.to f.from n)) in
      (not_below d fd f.to (off_top (exactly way) (exactly c) (exactly d) high), not_above c fc f.from (rw (⊞-zero (exactly c)) at (⊞-mono (≼_refl (exactly c)) (no_more (exactly way) low))))

  pub between_inside : {L H : Fraction} → L ≼ exactly c → L ≼ exactly d → exactly c ≼ H → exactly d ≼ H → (L ≼ exactly (between c d a)) × (exactly (between c d a) ≼ H)
  between_inside lc ld hc hd =
      let C = exactly_proper c in
      let E = exactly_proper d in
      elim (≼-total (exactly c) (exactly d)) [
        | inl h ↦ let r = rising h in (≼_trans C lc r.0, ≼_trans E r.1 hd)
        | inr h ↦ let r = falling h in (≼_trans E ld r.0, ≼_trans C r.1 hc)
      ]

-- ---- one number twice

no_rise : (c d : Float) → T (finite c) → d ≐ c → is_zero (d ⊖ c) ≡ true
unfolding is_zero of_bits
no_rise c d t e = ≐-isZero (e ⟨⊖⟩ its c) ∙ ap is_zero (self_less c t)

pub between_level : (c d a : Float) → T (fits binary64 c) → T (finite (between c d a)) → d ≐ c → between c d a ≐ c
unfolding between
between_level c d a fit t e =
    let f = between_finite c d a t in
    plus_zero c (a ⊗ (d ⊖ c)) fit (times_zero a (d ⊖ c) f.by (no_rise c d f.from e))
