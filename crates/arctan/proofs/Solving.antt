-- What Newton's steps find is the tangent (`solved_leads`): A leads back from it to within 2 ^ -45 of the angle. Assumes nothing.
use Rattle.std.proofs.Common.{◌≡◌, ℕ, ◌+◌, ◌-◌, ◌*◌, ◌^◌, ◌<◌, ◌≤◌, min, Bool, true, false, cond, not, T, ◌⊎◌, sym, refl, inl, inr, le_trans, mul-le-mul_right, add-sub_of_le, lt_of_mul-lt-mul_right, mul-pos, arith, lit≤}
use native.Mathlib.Nat.{min-eq_left, min-eq_right}
use lib.Ieee.{Float, binary64, fits, round, lt, le, of_int, of_bits}
use lib.Ieee.Fits.{sub-fits}
use lib.Ieee.Scale.{finite}
use lib.Ieee.Positive.{num, den, den_pos}
use Rattle.exact.specs.F64.{◌⊖◌, ◌⊘◌}
use Rattle.exact.specs.Fraction.{Fraction, Proper, Within, over, whole, exactly, opposite, power, ◌≼◌, ◌≺◌, ◌≈◌, ◌⊞◌, ◌⊟◌, ◌⊠◌, ◌⧄◌}
use Rattle.exact.proofs.Fractions.{over_proper, whole_proper, exactly_proper, ⊞-proper, opposite_proper, ⊟-proper, ⊠-proper, ⧄-proper, ≼_refl, ≼_trans, ≼-total, ≼-or-≺, ≼-≺-trans, ≺-≼-trans, ≺→≼, ≺-not-≼, ≈-≼, ≈→≼, ≈-sym, ≈-refl, ≈-trans, ⊞-comm, ⊞-assoc, ⊞-zero, ⊞-mono, ⊞-cong, ⊟-mono, opposite_cong, move, ⊠-comm, ⊠-mono, over-≼, over-≈, over-⊠, within_sym, within_refl, within_wider, within_to, within-⊞}
use Rattle.exact.proofs.Laws.{rounding_monotone}
use Rattle.arctan.specs.Series.{A, G, P, up_to_one, sum, term, limit, tangent_bound}
use Rattle.arctan.specs.Owed.{Leads}
use Rattle.arctan.specs.Arctangent.{one, counted, Countable}
use Rattle.arctan.specs.Tangent.{rounds, refined, solution, ratio, leaving, seam, quarter_end, half_end, unity, two_fifths_cut, three_sevenths_cut, Acute, lower, Between, solved}
use Rattle.arctan.proofs.Rise.{G_proper, G_high, within_rest}
use Rattle.arctan.proofs.Rounds.{plain, plain_finite, plain_exactly, plain_low, above_plain, over-≺, apart, together, over_difference, over_quotient, in_order, PlainNear, round_near, difference_is, difference_near, quotient_near}
use Rattle.arctan.proofs.Counts.{counted_near}
use Rattle.arctan.proofs.Compared.{one_plain, one_is, lt_says, lt_denies, le_says, le_denies}
use Rattle.arctan.proofs.Reduced as reduced
use Rattle.arctan.proofs.Pieces.{u, unit_proper, both}
use Rattle.arctan.proofs.Cases.{P_proper, quotient_proper, A_low, A_mid, A_up, A_past}
use Rattle.arctan.proofs.Growth.{A_proper, growth, past_fifths, past_one, q, middle, middle_proper, mirror, reach_proper, up_proper}
use Rattle.arctan.proofs.Tested.{limit_proper}
use Rattle.arctan.proofs.Bent.{monotone, G_same}
use Rattle.arctan.proofs.Newton.{unit_in, unit_low, unit-≼, ≼-unit, unit_sum, refined_near}

-- ---- the solution, of what lies up to top

solution_near : (top n : ℕ) → n ≤ 13 * 2 ^ 55 → top ≤ 2 ^ 59 → u n ≼ G (u top) ⊞ u 1300 → (solution top n ≤ top) × Within (u 1300) (G (u (solution top n))) (u n)
unfolding solution
solution_near top n h t k = of (≼-total (u w) (u top))
  where
    w : ℕ
    w = refined rounds n n

    r : (w ≤ 2 ^ 59) × Within (u 1300) (G (u w)) (u n)
    r = refined_near n h

    of : (u w ≼ u top) ⊎ (u top ≼ u w) → (min w top ≤ top) × Within (u 1300) (G (u (min w top))) (u n)
    of (inl l) = rw (min-eq_left (≼-unit l)) (≼-unit l, r.1)
    of (inr l) =
        let g = G_proper (unit_proper top) in
        let m = ≼_trans (G_proper (unit_proper w)) (monotone (unit_in top t) (unit_in w r.0) l) ((move (G (u w)) (u n) (u 1300)).0 r.1.not_above) in
        rw (min-eq_right (≼-unit l)) (omega arith, record { left = g; right = unit_proper n; not_above = (move (G (u top)) (u n) (u 1300)).1 m; not_below = (move (u n) (G (u top)) (u 1300)).1 k })

-- ---- p / q, rounded thrice

-- a / c is within 128 of p
apart_128 : (a c p : ℕ) → Within (over (2 ^ 62) (2 ^ 55)) (over a c) (over p 1) → (a ≤ p * c + 128 * c) × (p * c ≤ a + 128 * c)
apart_128 a c p w = let h = apart (2 ^ 62) (2 ^ 55) a c p 1 w in (less h.0, more h.1)
  where
    less : a * 1 * 2 ^ 55 ≤ p * c * 2 ^ 55 + 2 ^ 62 * (c * 1) → a ≤ p * c + 128 * c
    less h = omega arith

    more : p * c * 2 ^ 55 ≤ a * 1 * 2 ^ 55 + 2 ^ 62 * (c * 1) → p * c ≤ a + 128 * c
    more h = omega arith

-- and b / d within 128 of k, which is at least 2 ^ 59
large : (b d k : ℕ) → 2 ^ 59 ≤ k → k * d ≤ b + 128 * d → 2 ^ 58 * d ≤ b
large b d k l h = omega (arith, mul-le-mul_right d l)

above : (a c b d p k : ℕ) → p ≤ k → a ≤ p * c + 128 * c → k * d ≤ b + 128 * d → a * d * k ≤ p * (b * c) + 256 * (c * d * k)
above a c b d p k h l m = omega (arith, mul-le-mul_right (d * k) l, mul-le-mul_right (p * c) m, mul-le-mul_right (c * d) h)

beneath : (a c b d p k : ℕ) → p ≤ k → p * c ≤ a + 128 * c → b ≤ k * d + 128 * d → p * (b * c) ≤ a * d * k + 256 * (c * d * k)
beneath a c b d p k h l m = omega (arith, mul-le-mul_right (d * k) l, mul-le-mul_right (p * c) m, mul-le-mul_right (c * d) h)

-- so their quotient is within 1024 units of p / k
units : (x y c d k b : ℕ) → 2 ^ 58 * d ≤ b → x ≤ y + 256 * (c * d * k) → x * 2 ^ 60 ≤ y * 2 ^ 60 + 1024 * (b * c * k)
units x y c d k b h l = omega (arith, mul-le-mul_right (c * k) h, l)

thrice : (a c b d p k : ℕ) → 0 < c → 0 < d → p ≤ k → 2 ^ 59 ≤ k → Within (over (2 ^ 62) (2 ^ 55)) (over a c) (over p 1) → Within (over (2 ^ 62) (2 ^ 55)) (over b d) (over k 1)
    → (2 ^ 58 * d ≤ b) × Within (u 1024) (over (a * d) (b * c)) (over p k)
thrice a c b d p k C D h l v w =
    let v' = apart_128 a c p v in
    let w' = apart_128 b d k w in
    let m = large b d k l w'.1 in
    let B : 0 < b = omega (arith, m) in
    let K : 0 < k = omega arith in (
      m,
      together 1024 (2 ^ 60) (a * d) (b * c) p k (mul-pos B C) K (units (a * d * k) (p * (b * c)) c d k b m (above a c b d p k h v'.0 w'.1))
          (units (p * (b * c)) (a * d * k) c d k b m (beneath a c b d p k h v'.1 w'.0)),
    )

under_two : (a c b d p k : ℕ) → 0 < c → 0 < d → p ≤ k → 2 ^ 58 * d ≤ b → a * d * k * 2 ^ 60 ≤ p * (b * c) * 2 ^ 60 + 1024 * (b * c * k) → 0 < k → a * d * 2 < 2 ^ 2 * (b * c)
under_two a c b d p k C D h m l K =
    let B : 0 < b = omega arith in
    let l' : a * d < 2 * (b * c) = lt_of_mul-lt-mul_right k (omega (arith, mul-le-mul_right (b * c) h, mul-pos (mul-pos B C) K)) in
    omega arith

ratio_near : (p k : ℕ) → p ≤ k → 2 ^ 59 ≤ k → k < 2 ^ 61 → PlainNear (ratio p k) (u 1152) (over p k)
unfolding ratio of_int
ratio_near p k h l m =
    let x = round binary64 false p 1 in
    let y = round binary64 false k 1 in
    let X = round_near p 1 62 (lit≤ tt) (lit≤ tt) (omega arith) in
    let Y = round_near k 1 62 (lit≤ tt) (lit≤ tt) (omega arith) in
    let K : 0 < k = omega arith in
    let a = num x in
    let c = den x in
    let b = num y in
    let d = den y in
    let t = thrice a c b d p k (den_pos x) (den_pos y) h l (rw (plain_exactly x X.plain) at X.near) (rw (plain_exactly y Y.plain) at Y.near) in
    let B : 0 < b = omega (arith, t.0, den_pos y) in
    let o : whole 0 ≺ exactly y = rw (plain_exactly y Y.plain) ((over-≺ 0 1 b d).1 (omega arith)) in
    let D = ⧄-proper (exactly_proper x) o in
    let is : exactly x ⧄ exactly y ≈ over (a * d) (b * c) = rw (plain_exactly x X.plain, plain_exactly y Y.plain) (over_quotient a c b d) in
    let few = under_two a c b d p k (den_pos x) (den_pos y) h t.0 (apart 1024 (2 ^ 60) (a * d) (b * c) p k t.1).0 K in
    let r = quotient_near x y 2 X.plain Y.plain (lit≤ tt) o (≼-≺-trans D (≈→≼ is) ((over-≺ (a * d) (b * c) (2 ^ 2) 2).1 few)) in
    let first = within_wider (over_proper (2 ^ 2) (2 ^ 55) (lit≤ tt)) ((over-≼ (2 ^ 2) (2 ^ 55) 128 (2 ^ 60)).1 (lit≤ tt)) (within_to (over_proper (a * d) (b * c) (mul-pos B (den_pos x))) is r.near) in
    record { plain = r.plain; near = both 128 1024 first t.1 }

-- ---- A does not grow faster than four times

A_near : (e : ℕ) {a b : Fraction} → whole 0 ≼ a → whole 0 ≼ b → Within (u e) a b → Within (u (4 * e + 2)) (A a) (A b)
A_near e {a} {b} l m w = of (≼-total a b)
  where
    few : {d : Fraction} → d ≼ u e → whole 4 ⊠ d ⊞ u 2 ≼ u (4 * e + 2)
    few {d} h =
        let times : whole 4 ⊠ d ≼ u (4 * e) = rw (⊠-comm (whole 4) d) (≼_trans (⊠-proper (unit_proper e) (whole_proper 4)) (⊠-mono ((over-≼ 0 1 4 1).1 (lit≤ tt)) h) (rw over-⊠ ((over-≼ (e * 4) (2 ^ 60 * 1) (4 * e) (2 ^ 60)).1 (omega arith)))) in
        ≼_trans (⊞-proper (unit_proper (4 * e)) (unit_proper 2)) (⊞-mono times (≼_refl (u 2))) (≈→≼ (unit_sum (4 * e) 2))

    pa : Proper a
    pa = w.left

    pb : Proper b
    pb = w.right

    of : (a ≼ b) ⊎ (b ≼ a) → Within (u (4 * e + 2)) (A a) (A b)
    of (inl h) = within_wider (reach_proper 2 pa pb) (few w.not_below) (growth pa pb l h)
    of (inr h) = within_sym (within_wider (reach_proper 2 pb pa) (few w.not_above) (growth pb pa m h))

-- ---- where the tests stand, and how far an angle may be counted

seam_finite : T (finite seam)
unfolding of_bits
seam_finite = tt

quarter_plain : T (plain quarter_end)
unfolding of_bits
quarter_plain = tt

seam_low : whole 0 ≺ exactly seam
unfolding of_bits exactly over
seam_low = record { holds = lit≤ tt }

seam_few : exactly seam ⊞ u 1 ≼ u (13 * 2 ^ 55)
unfolding of_bits exactly over ◌⊞◌
seam_few = record { holds = lit≤ tt }

rest_few : exactly quarter_end ⊟ exactly seam ⊞ u 33 ≼ u (13 * 2 ^ 55)
unfolding of_bits exactly over ◌⊞◌ opposite
rest_few = record { holds = lit≤ tt }

rest_half : exactly quarter_end ⊟ exactly seam ≺ over (2 ^ 0) 2
unfolding of_bits exactly over ◌⊞◌ opposite
rest_half = record { holds = lit≤ tt }

-- at 2/5 and at 3/7 the series is where the pieces meet
seam_top : exactly seam ⊞ u 1 ≼ G (u two_fifths_cut) ⊞ u 1300
unfolding of_bits exactly G sum term power over ◌⊞◌ ◌⊠◌ ◌⧄◌ opposite
seam_top = record { holds = lit≤ tt }

rest_top : exactly quarter_end ⊟ exactly seam ⊞ u 33 ≼ G (u three_sevenths_cut) ⊞ u 1300
unfolding of_bits exactly G sum term power over ◌⊞◌ ◌⊠◌ ◌⧄◌ opposite
rest_top = record { holds = lit≤ tt }

quarter_P : Within (u 64) P (exactly quarter_end)
unfolding of_bits exactly P G sum term power over ◌⊞◌ ◌⊠◌ ◌⧄◌ opposite
quarter_P = record { left = P_proper; right = exactly_proper quarter_end; not_above = record { holds = lit≤ tt }; not_below = record { holds = lit≤ tt } }

half_P : Within (u 128) (P ⊞ P) (exactly half_end)
unfolding of_bits exactly P G sum term power over ◌⊞◌ ◌⊠◌ ◌⧄◌ opposite
half_P = record { left = ⊞-proper P_proper P_proper; right = exactly_proper half_end; not_above = record { holds = lit≤ tt }; not_below = record { holds = lit≤ tt } }

-- the same of both, and c more
plus_same : {e a b c : Fraction} → Within e a b → Proper c → Within e (a ⊞ c) (b ⊞ c)
plus_same w C = rw ⊞-zero at (within-⊞ w (within_refl C (≼_refl (whole 0))))

-- from a point to itself there are the units alone
still : (a : Fraction) (n d : ℕ) → whole 4 ⊠ (a ⊟ a) ⊞ over n d ≼ over n d
unfolding over ◌⊞◌ opposite ◌⊠◌
still a n d = omega arith

either : (Q : Float → Type 0) (b : Bool) {x y : Float} → (T b → Q x) → (T (not b) → Q y) → Q (cond b x y)
either Q true p k = p tt
either Q false p k = k tt

-- a less what a is more than b
taken_back : (a b : Fraction) → a ⊟ (a ⊟ b) ≈ b
unfolding ◌⊞◌ opposite
taken_back a b = omega arith

-- 1/60 and a little less is above 1/64
sixty_fourth : over 1 64 ⊞ u 2453 ≺ over 1 60
unfolding over ◌⊞◌
sixty_fourth = record { holds = lit≤ tt }

past_sixty_fourth : {s : Fraction} → Proper s → over 1 60 ≼ s ⊞ u 2453 → over 1 64 ≺ s
past_sixty_fourth {s} S h = elim (≼-or-≺ s (over 1 64)) [
  | inl l ↦ absurd (≺-not-≼ sixty_fourth (≼_trans (⊞-proper S (unit_proper 2453)) h (⊞-mono l (≼_refl (u 2453)))))
  | inr l ↦ l
]

-- ---- what the tangent s of an x up to a quarter of pi is to it
record Close (x s : Float) : Type 0 where
  plain : T (plain s)
  within : Within (u 6100) (A (exactly s)) (exactly x)
  low : over 1 60 ≼ exactly x → over 1 64 ≺ exactly s

module _ (x : Float) (f : T (fits binary64 x)) (a : Acute x) where
  px : Proper (exactly x)
  px = exactly_proper x

  -- up to where the series ends
  module _ (t : T (lt x seam)) where
    under : exactly x ≼ exactly seam
    under = ≺→≼ (lt_says x seam a.number seam_finite t)

    pub ready_low : Countable x
    ready_low = record { number = a.number; low = a.low; high = ≼_trans (exactly_proper seam) under (unfold of_bits exactly over in record { holds = lit≤ tt }) }

    abbrev n : ℕ
    n = counted x

    at : Within (u 1) (u n) (exactly x)
    at = (counted_near x f a.number a.low ready_low.high).near

    high : u n ≼ exactly seam ⊞ u 1
    high = ≼_trans (⊞-proper px (unit_proper 1)) ((move (u n) (exactly x) (u 1)).0 at.not_above) (⊞-mono under (≼_refl (u 1)))

    seam_proper : Proper (exactly seam ⊞ u 1)
    seam_proper = ⊞-proper (exactly_proper seam) (unit_proper 1)

    pub few_low : counted x ≤ 13 * 2 ^ 55
    few_low = ≼-unit (≼_trans seam_proper high seam_few)

    abbrev w : ℕ
    w = solution two_fifths_cut n

    solves : (w ≤ two_fifths_cut) × Within (u 1300) (G (u w)) (u n)
    solves = solution_near two_fifths_cut n few_low (lit≤ tt) (≼_trans seam_proper high seam_top)

    turned : PlainNear (ratio w unity) (u 1152) (u w)
    turned = ratio_near w unity (le_trans solves.0 (lit≤ tt)) (lit≤ tt) (lit≤ tt)

    low_close : Close x (ratio w unity)
    low_close =
        let s = ratio w unity in
        let fifths : u w ≼ over 2 5 = (over-≼ w (2 ^ 60) 2 5).1 (omega (arith, solves.0)) in
        let W = unit_in w (le_trans solves.0 (lit≤ tt)) in
        let found = both 1300 1 solves.1 at in
        let g = G_proper (unit_proper w) in
        let found' : Within (u 1301) (A (u w)) (exactly x) = rw (A_low fifths) found in
        let all = both 4610 1301 (A_near 1152 (plain_low s turned.plain) W.low turned.near) found' in
        let x-low = ≼_trans (⊞-proper g (unit_proper 1301)) ((move (exactly x) (G (u w)) (u 1301)).0 found.not_below) (⊞-mono (G_high W.proper W.low W.high) (≼_refl (u 1301))) in
        let s_low : exactly x ≼ exactly s ⊞ u 2453 =
        ≼_trans (⊞-proper (unit_proper w) (unit_proper 1301)) x-low
        (≼_trans (⊞-proper (⊞-proper (exactly_proper s) (unit_proper 1152)) (unit_proper 1301)) (⊞-mono ((move (u w) (exactly s) (u 1152)).0 turned.near.not_below) (≼_refl (u 1301)))
        (rw (⊞-assoc (exactly s) (u 1152) (u 1301)) (⊞-mono (≼_refl (exactly s)) (≈→≼ (unit_sum 1152 1301))))) in
        record {
          plain = turned.plain;
          within = within_wider (unit_proper 5911) (unit-≼ (lit≤ tt)) all;
          low = λ h. past_sixty_fourth (exactly_proper s) (≼_trans px h s_low);
        }

  -- and from there on
  module _ (t : T (not (lt x seam))) where
    from : exactly seam ≼ exactly x
    from = lt_denies x seam a.number seam_finite t

    abbrev z : Float
    z = quarter_end ⊖ x

    abbrev left : Fraction
    left = exactly quarter_end ⊟ exactly x

    left_proper : Proper left
    left_proper = ⊟-proper (exactly_proper quarter_end) px

    left_high : left ≼ exactly quarter_end ⊟ exactly seam
    left_high = ⊟-mono (≼_refl (exactly quarter_end)) from

    gap : Proper (exactly quarter_end ⊟ exactly seam)
    gap = ⊟-proper (exactly_proper quarter_end) (exactly_proper seam)

    taken : PlainNear z (over (2 ^ 0) (2 ^ 55)) left
    taken = difference_near quarter_end x 0 quarter_plain (above_plain x a.number (≺-≼-trans px seam_low from)) (lit≤ tt) a.high (≼-≺-trans left_proper left_high rest_half)

    taken_near : Within (u 32) (exactly z) left
    taken_near = within_wider (over_proper 1 (2 ^ 55) (lit≤ tt)) ((over-≼ 1 (2 ^ 55) 32 (2 ^ 60)).1 (lit≤ tt)) taken.near

    pub ready_high : Countable (quarter_end ⊖ x)
    ready_high = record {
      number = plain_finite z taken.plain;
      low = plain_low z taken.plain;
      high = ≼_trans (⊞-proper left_proper (unit_proper 32)) ((move (exactly z) left (u 32)).0 taken_near.not_above)
          (≼_trans (⊞-proper gap (unit_proper 32)) (⊞-mono left_high (≼_refl (u 32))) (unfold of_bits exactly over ◌⊞◌ opposite in record { holds = lit≤ tt }));
    }

    abbrev m : ℕ
    m = counted z

    at_z : Within (u 33) (u m) left
    at_z = both 1 32 (counted_near z (sub-fits binary64 quarter_end x) ready_high.number ready_high.low ready_high.high).near taken_near

    high_z : u m ≼ exactly quarter_end ⊟ exactly seam ⊞ u 33
    high_z = ≼_trans (⊞-proper left_proper (unit_proper 33)) ((move (u m) left (u 33)).0 at_z.not_above) (⊞-mono left_high (≼_refl (u 33)))

    gap_proper : Proper (exactly quarter_end ⊟ exactly seam ⊞ u 33)
    gap_proper = ⊞-proper gap (unit_proper 33)

    pub few_high : counted (quarter_end ⊖ x) ≤ 13 * 2 ^ 55
    few_high = ≼-unit (≼_trans gap_proper high_z rest_few)

    abbrev v : ℕ
    v = solution three_sevenths_cut m

    solves_z : (v ≤ three_sevenths_cut) × Within (u 1300) (G (u v)) (u m)
    solves_z = solution_near three_sevenths_cut m few_high (lit≤ tt) (≼_trans gap_proper high_z rest_top)

    turned_z : PlainNear (ratio (unity - v) (unity + v)) (u 1152) (over (unity - v) (unity + v))
    turned_z = ratio_near (unity - v) (unity + v) (omega arith) (omega arith) (omega (arith, solves_z.0))

    abbrev τ : Fraction
    τ = over (unity - v) (unity + v)

    τ_proper : Proper τ
    τ_proper = over_proper (unity - v) (unity + v) (omega arith)

    τ_low : over 2 5 ≼ τ
    τ_low = (over-≼ 2 5 (unity - v) (unity + v)).1 (omega (arith, solves_z.0))

    τ_one : τ ≼ whole 1
    τ_one = (over-≼ (unity - v) (unity + v) 1 1).1 (omega arith)

    back_again : q τ ≈ u v
    back_again =
        let e : 1 * (unity + v) ≡ (unity - v) * 1 + 2 * v = omega (arith, solves_z.0) in
        let two : 1 * (unity + v) + (unity - v) * 1 ≡ 2 * 2 ^ 60 = omega (arith, solves_z.0) in
        ≈-trans (over_proper (2 * v) (1 * (unity + v) + (unity - v) * 1) (omega arith)) (reduced.ratio 1 1 (unity - v) (unity + v) (2 * v) (sym e))
        ((over-≈ (2 * v) (1 * (unity + v) + (unity - v) * 1) v (2 ^ 60)).1 (rw two (omega arith)))

    third : over 1 3 ≼ τ
    third = ≼_trans (over_proper 2 5 (lit≤ tt)) ((over-≼ 1 3 2 5).1 (lit≤ tt)) τ_low

    left_of : Proper (P ⊟ G (u v))
    left_of = ⊟-proper P_proper (G_proper (unit_proper v))

    -- at 2/5 itself A is the piece before, which is 1 unit off at most
    piece : Within (u 1) (A τ) (P ⊟ G (u v))
    piece =
        let same : middle τ ≈ P ⊟ G (u v) = ⊞-cong (≈-refl P) (opposite_cong (G_same (quotient_proper τ_proper third) (unit_proper v) back_again)) in
        elim (≼-or-≺ τ (over 2 5)) [
          | inl h ↦ rw (A_low h) (within_to left_of same (within_wider (reach_proper 1 τ_proper τ_proper) (still τ 1 (2 ^ 60)) (past_fifths τ_proper τ_proper ((over-≼ 0 1 (unity - v) (unity + v)).1 (omega arith)) h τ_low τ_one)))
          | inr h ↦ rw (A_mid h τ_one) (within_to left_of same (within_refl (middle_proper τ_proper τ_low) (unit_low 1)))
        ]

    high_close : Close x (leaving v)
    unfolding leaving
    high_close =
        let s = ratio (unity - v) (unity + v) in
        let near = both 4610 1 (A_near 1152 (plain_low s turned_z.plain) ((over-≼ 0 1 (unity - v) (unity + v)).1 (omega arith)) turned_z.near) piece in
        let rest = both 1333 64 (within_rest P_proper (both 1300 33 solves_z.1 at_z)) (within_to px (taken_back (exactly quarter_end) (exactly x)) (plus_same quarter_P (opposite_proper left_proper))) in
        let s_low : over 2 5 ≼ exactly s ⊞ u 1152 = ≼_trans τ_proper τ_low ((move τ (exactly s) (u 1152)).0 turned_z.near.not_below) in
        record {
          plain = turned_z.plain;
          within = within_wider (unit_proper 6008) (unit-≼ (lit≤ tt)) (both 4611 1397 near rest);
          low = λ h. past_sixty_fourth (exactly_proper s) (≼_trans (over_proper 2 5 (lit≤ tt)) ((over-≼ 1 60 2 5).1 (lit≤ tt)) (≼_trans (⊞-proper (exactly_proper s) (unit_proper 1152)) s_low (⊞-mono (≼_refl (exactly s)) (unit-≼ (lit≤ tt)))));
        }

  lower_close : Close x (lower x)
  unfolding lower
  lower_close = either (λ s. Close x s) (lt x seam) low_close high_close

-- ---- past a quarter of pi

-- A(1/s) is 2P - A(s), at most 2 units off where both are 1
reflected : (n d : ℕ) → 0 < n → 0 < d → Within (u 2) (A (over d n)) (P ⊞ P ⊟ A (over n d))
reflected n d N D = of (≼-or-≺ (over n d) (whole 1)) (≼-or-≺ (over d n) (whole 1))
  where
    pp : Proper (P ⊞ P)
    pp = ⊞-proper P_proper P_proper

    pd : Proper (over d n)
    pd = over_proper d n N

    mirrored : over n d ≼ whole 1 → mirror (over d n) ≡ P ⊞ P ⊟ A (over n d)
    mirrored h = rw (reduced.over_inverse d n, A_up h)

    left : over n d ≼ whole 1 → Proper (P ⊞ P ⊟ A (over n d))
    left h = ⊟-proper pp (A_proper (over_proper n d D))

    one_on : n * 1 ≤ 1 * d → 1 * n ≤ d * 1
    one_on h = omega arith

    up_to : 1 * d < n * 1 → d * 1 ≤ 1 * n
    up_to h = omega arith

    of : (over n d ≼ whole 1) ⊎ (whole 1 ≺ over n d) → (over d n ≼ whole 1) ⊎ (whole 1 ≺ over d n) → Within (u 2) (A (over d n)) (P ⊞ P ⊟ A (over n d))
    of (inl h) (inl k) =
        let o : whole 1 ≼ over d n = (over-≼ 1 1 d n).1 (one_on ((over-≼ n d 1 1).0 h)) in
        rw (A_up k, ← mirrored h) (within_wider (reach_proper 2 pd pd) (still (over d n) 2 (2 ^ 60)) (past_one pd pd ((over-≼ 0 1 d n).1 (omega arith)) k o))
    of (inl h) (inr k) = rw (A_past k, mirrored h) (within_refl (left h) (unit_low 2))
    of (inr h) k =
        let o : over d n ≼ whole 1 = (over-≼ d n 1 1).1 (up_to ((over-≺ 1 1 n d).0 h)) in
        let U = up_proper pd o in
        rw (A_up o, A_past h, reduced.over_inverse n d) (within_to (⊟-proper pp (⊟-proper pp U)) (≈-sym (taken_back (P ⊞ P) (up_to_one (over d n)))) (within_refl U (unit_low 2)))

half_plain : T (plain half_end)
unfolding of_bits
half_plain = tt

limit_half : limit ≼ exactly half_end
unfolding of_bits exactly over
limit_half = record { holds = lit≤ tt }

-- what is left of half of pi at a quarter, and at the limit
half_quarter : exactly half_end ⊟ exactly quarter_end ≼ exactly quarter_end
unfolding of_bits exactly over ◌⊞◌ opposite
half_quarter = record { holds = lit≤ tt }

half_limit : over 1 60 ≼ exactly half_end ⊟ limit ⊟ u 64
unfolding of_bits exactly over ◌⊞◌ opposite
half_limit = record { holds = lit≤ tt }

quarter_one : exactly quarter_end ≺ over (2 ^ 1) 2
unfolding of_bits exactly over
quarter_one = record { holds = lit≤ tt }

quarter_rounded : round binary64 false (num quarter_end) (den quarter_end) ≡ quarter_end
unfolding of_bits round
quarter_rounded = refl

-- the bound covers all of it
in_all : u 32768 ≼ tangent_bound
unfolding over
in_all = record { holds = lit≤ tt }

module _ (theta : Float) (f : T (fits binary64 theta)) (b : Between theta) where
  pt : Proper (exactly theta)
  pt = exactly_proper theta

  not_negative : whole 0 ≼ exactly theta
  not_negative = ≼_trans (over_proper 1 (2 ^ 20) (lit≤ tt)) ((over-≼ 0 1 1 (2 ^ 20)).1 (lit≤ tt)) b.low

  flat : T (plain theta)
  flat = above_plain theta b.number (≺-≼-trans pt ((over-≺ 0 1 1 (2 ^ 20)).1 (lit≤ tt)) b.low)

  leads : {t : Float} (e : ℕ) → e ≤ 32768 → T (plain t) → Within (u e) (A (exactly t)) (exactly theta) → Leads false (exactly theta) t
  leads {t} e h p w = record {
    number = plain_finite t p;
    side = plain_low t p;
    within = within_wider (unit_proper e) (≼_trans (unit_proper 32768) (unit-≼ h) in_all) w;
  }

  pub acute_low : T (le theta quarter_end) → Acute theta
  acute_low t = record { number = b.number; low = not_negative; high = le_says theta quarter_end b.number (plain_finite quarter_end quarter_plain) t }

  low_leads : T (le theta quarter_end) → Leads false (exactly theta) (lower theta)
  low_leads t = let c = lower_close theta f (acute_low t) in leads 6100 (lit≤ tt) c.plain c.within

  module _ (t : T (not (le theta quarter_end))) where
    abbrev x' : Float
    x' = half_end ⊖ theta

    abbrev rest : Fraction
    rest = exactly half_end ⊟ exactly theta

    rest_proper : Proper rest
    rest_proper = ⊟-proper (exactly_proper half_end) pt

    order : exactly theta ≼ exactly half_end
    order = ≼_trans limit_proper b.high limit_half

    rest_high : rest ≼ exactly quarter_end
    rest_high =
        let past = ≺→≼ (le_denies theta quarter_end b.number (plain_finite quarter_end quarter_plain) t) in
        ≼_trans (⊟-proper (exactly_proper half_end) (exactly_proper quarter_end)) (⊟-mono (≼_refl (exactly half_end)) past) half_quarter

    taken_off : PlainNear x' (over (2 ^ 1) (2 ^ 55)) rest
    taken_off = difference_near half_end theta 1 half_plain flat (lit≤ tt) order (≼-≺-trans rest_proper rest_high quarter_one)

    rest_near : Within (u 64) (exactly x') rest
    rest_near = within_wider (over_proper 2 (2 ^ 55) (lit≤ tt)) ((over-≼ 2 (2 ^ 55) 64 (2 ^ 60)).1 (lit≤ tt)) taken_off.near

    -- rounding keeps the order
    x'_high : exactly x' ≼ exactly quarter_end
    x'_high =
        let l = in_order half_end theta half_plain flat order in
        let a = num half_end * den theta - num theta * den half_end in
        let c = den half_end * den theta in
        let is : rest ≈ over a c = rw (plain_exactly half_end half_plain, plain_exactly theta flat) (over_difference (num half_end) (den half_end) (num theta) (den theta) a (add-sub_of_le l)) in
        let k = (over-≼ a c (num quarter_end) (den quarter_end)).0 (rw (plain_exactly quarter_end quarter_plain) at (≈-≼ rest_proper (≈-sym is) rest_high)) in
        let m = rounding_monotone binary64 a c (num quarter_end) (den quarter_end) (mul-pos (den_pos half_end) (den_pos theta)) (den_pos quarter_end) k in
        le_says x' quarter_end (plain_finite x' taken_off.plain) (plain_finite quarter_end quarter_plain) (rw (quarter_rounded, ← difference_is half_end theta half_plain flat l) at m)

    pub acute_high : Acute (half_end ⊖ theta)
    acute_high = record { number = plain_finite x' taken_off.plain; low = plain_low x' taken_off.plain; high = x'_high }

    abbrev s : Float
    s = lower x'

    close : Close x' s
    close = lower_close x' (sub-fits binary64 half_end theta) acute_high

    x'_low : over 1 60 ≼ exactly x'
    x'_low =
        let l = rw (⊞-comm (exactly x') (u 64)) at ((move rest (exactly x') (u 64)).0 rest_near.not_below) in
        ≼_trans (⊟-proper (⊟-proper (exactly_proper half_end) limit_proper) (unit_proper 64)) half_limit
        (≼_trans (⊟-proper rest_proper (unit_proper 64)) (⊟-mono (⊟-mono (≼_refl (exactly half_end)) b.high) (≼_refl (u 64))) ((move rest (u 64) (exactly x')).1 l))

    high_leads : Leads false (exactly theta) (one ⊘ s)
    high_leads =
        let n = num s in
        let d = den s in
        let is = plain_exactly s close.plain in
        let l : 1 * d < n * 64 = (over-≺ 1 64 n d).0 (rw is at (close.low x'_low)) in
        let N : 0 < n = omega (arith, l) in
        let o : whole 0 ≺ exactly s = rw is ((over-≺ 0 1 n d).1 (omega arith)) in
        let inv : whole 1 ⧄ exactly s ≡ over d n = rw is (reduced.over_inverse n d) in
        let r = quotient_near one s 7 one_plain close.plain (lit≤ tt) o (rw (one_is, inv) ((over-≺ d n (2 ^ 7) 2).1 (omega arith))) in
        let r' : Within (u 4096) (exactly (one ⊘ s)) (over d n) = rw (one_is, inv) at (within_wider (over_proper (2 ^ 7) (2 ^ 55) (lit≤ tt)) ((over-≼ (2 ^ 7) (2 ^ 55) 4096 (2 ^ 60)).1 (lit≤ tt)) r.near) in
        let pp = ⊞-proper P_proper P_proper in
        let first = A_near 4096 (plain_low (one ⊘ s) r.plain) ((over-≼ 0 1 d n).1 (omega arith)) r' in
        let second = reflected n d N (den_pos s) in
        let third = rw is at (within_rest pp (both 6100 64 close.within rest_near)) in
        let last = within_to pt (taken_back (exactly half_end) (exactly theta)) (plus_same half_P (opposite_proper rest_proper)) in
        leads 22680 (lit≤ tt) r.plain (both 22552 128 (both 16388 6164 (both 16386 2 first second) third) last)

  pub solved_leads : Leads false (exactly theta) (solved theta)
  unfolding solved
  solved_leads = either (λ r. Leads false (exactly theta) r) (le theta quarter_end) low_leads high_leads
