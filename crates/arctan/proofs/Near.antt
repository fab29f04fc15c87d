-- The arctangent of the definition is near the series: piece by piece for an x that is not negative (`forward-near`), and so for every x (`arctangent_near`). Assumes nothing.
use Rattle.std.proofs.Common.{◌≡◌, ℕ, zero, suc, ◌+◌, ◌-◌, ◌*◌, ◌^◌, ◌≤◌, Bool, true, false, cond, not, T, eqb, ltb, ℤ, sym, refl, ap, ◌∙◌, subst, true≢false, zero-mul, arith, lit≤, lt→ltb}
use mathlib.Core.Bool.{false≢true}
use lib.Dec.{eqb_refl}
use lib.Ieee.{Float, nan, inf, fin, binary64, up, down, level, fits, lt, le, eq, neg, of_bits}
use lib.Ieee.Fits.{div-fits, neg-fits, down_pos, and_i}
use lib.Ieee.Bits.{is_true}
use Rattle.exact.proofs.Operations.{neg_finite}
use Rattle.exact.proofs.Tests.{below_zero, plus_not_below, zero_not_below}
use lib.Ieee.Scale.{finite}
use Rattle.exact.specs.F64.{f64, ◌⊕◌, ◌⊖◌, ◌⊘◌}
use Rattle.exact.specs.Fraction.{Fraction, Proper, Within, over, whole, exactly, opposite, ◌≼◌, ◌≈◌, ◌⊞◌, ◌⊟◌, ◌⊠◌, ◌⧄◌}
use Rattle.exact.proofs.Fractions.{over_proper, whole_proper, exactly_proper, ⊠-proper, ⊟-proper, ⊞-proper, ≼_trans, ≺→≼, ≈-sym, ≈-trans, ≈-refl, ≈-≼, ≼-≈, ≡→≈, ⊞-zero, ⊞-cong, opposite_cong, ⊠-mono, ⊠-comm, ⊠-not-negative, over-≼, le-≼, exactly_neg, within_sym, within_to, within_wider, within_opposite, within_refl}
use Rattle.arctan.specs.Series.{G, P, A, Angle, Arctangent, arctangent_bound}
use Rattle.arctan.specs.Whole.{quarter, half}
use Rattle.arctan.specs.Arctangent.{angle, back, one, forward, arctangent, tiny, two_fifths, five_halves}
use Rattle.arctan.proofs.Compared.{below_tiny, below_fifths, from_fifths, up_to_one_lem, past_one, below_halves, from_halves}
use Rattle.arctan.proofs.Reduced.{Piece, up_to_one_near, past_one_near, inverse_same, inverse_between, from_halves_near, infinite_near}
use Rattle.arctan.proofs.Rise.{G_proper, G_zero, small}
use Rattle.arctan.proofs.Pieces.{u, unit_proper, alone, from_quarter, past_quarter, from_half}
use Rattle.arctan.proofs.Cases.{P_proper, A_low, A_mid, A_high, A_far, two_less_one, quotient_proper, inverse_proper}

-- a number within 1129 of 2 ^ -60 of a
abbrev pub Good : Fraction → Float → Type 0
Good a r = T (finite r) × Within (u 1129) (exactly r) a

either : {X : Type 0} (Q : X → Type 0) (b : Bool) (x y : X) → (T b → Q x) → (T (not b) → Q y) → Q (cond b x y)
either Q true x y p q = p tt
either Q false x y p q = q tt

-- ---- small cubes
cube : {x t : Fraction} → Proper x → Proper t → whole 0 ≼ x → x ≼ t → x ⊠ (x ⊠ x) ≼ t ⊠ (t ⊠ t)
cube {x} {t} X Y l h =
    let low : whole 0 ≼ t = ≼_trans X l h in
    let square : x ⊠ x ≼ t ⊠ t = ≼_trans (⊠-proper Y X) (⊠-mono l h) (rw (⊠-comm t x) (⊠-mono low h)) in
    ≼_trans (⊠-proper Y (⊠-proper X X)) (⊠-mono (⊠-not-negative l l) h) (rw (⊠-comm t (x ⊠ x), ⊠-comm t (t ⊠ t)) (⊠-mono low square))

tiny_cube : over 1 (2 ^ 20) ⊠ (over 1 (2 ^ 20) ⊠ over 1 (2 ^ 20)) ≼ u 1129
unfolding over ◌⊠◌
tiny_cube = record { holds = lit≤ tt }

unit_wider : {a b : Fraction} (d : ℕ) → d ≤ 1129 → Within (u d) a b → Within (u 1129) a b
unit_wider d h w = within_wider (unit_proper d) ((over-≼ d (2 ^ 60) 1129 (2 ^ 60)).1 (omega arith)) w

-- what stands for a stands for all that is the same
standing : {z : Float} {a b : Fraction} → Piece z a → a ≈ b → Proper b → Piece z b
standing p e q = record {
  number = p.number;
  low = p.low;
  high = p.high;
  near = within_to q e p.near;
  from = ≼-≈ p.near.right p.from e;
  to = ≈-≼ p.near.right (≈-sym e) p.to;
}

-- ---- of an x that is a number and not negative
module _ (x : Float) (f : T (fits binary64 x)) (n : T (finite x)) (l : whole 0 ≼ exactly x) where
  proper : Proper (exactly x)
  proper = exactly_proper x

  -- below 2 ^ -20 x stands for its own angle
  pub near_zero : T (lt x tiny) → Good (A (exactly x)) x
  near_zero t =
      let twenty : Proper (over 1 (2 ^ 20)) = over_proper 1 (2 ^ 20) (lit≤ tt) in
      let h : exactly x ≼ over 1 (2 ^ 20) = ≺→≼ (below_tiny x n t) in
      let g : exactly x ≼ over 1 2 = ≼_trans twenty h ((over-≼ 1 (2 ^ 20) 1 2).1 (lit≤ tt)) in
      let a : exactly x ≼ over 2 5 = ≼_trans twenty h ((over-≼ 1 (2 ^ 20) 2 5).1 (lit≤ tt)) in
      (n, rw (A_low a) (within_sym (within_wider (⊠-proper proper (⊠-proper proper proper)) (≼_trans (⊠-proper twenty (⊠-proper twenty twenty)) (cube proper twenty l h) tiny_cube) (small proper l g))))

  -- up to 2/5 it stands for itself
  pub itself : T (lt x two_fifths) → Piece x (exactly x)
  itself t =
      let a = below_fifths x f n t in
      let fifths = over_proper 2 5 (lit≤ tt) in
      record {
        number = n;
        low = l;
        high = ≼_trans fifths a ((over-≼ 2 5 1 2).1 (lit≤ tt));
        near = within_refl proper ((over-≼ 0 1 399 (2 ^ 60)).1 (lit≤ tt));
        from = l;
        to = ≼_trans fifths a ((over-≼ 2 5 3 7).1 (lit≤ tt));
      }

  first : T (lt x two_fifths) → Good (A (exactly x)) (back (angle x))
  first t = let r = alone f (itself t) in (r.0, rw (A_low (below_fifths x f n t)) (unit_wider 1128 (lit≤ tt) r.1))

  pub second : T (not (lt x two_fifths)) → T (le x one) → Piece ((one ⊖ x) ⊘ (one ⊕ x)) ((whole 1 ⊟ exactly x) ⧄ (whole 1 ⊞ exactly x))
  second t s = up_to_one_near x n (from_fifths x n t) (up_to_one_lem x n s)

  second_good : T (not (lt x two_fifths)) → T (le x one) → Good (A (exactly x)) (back (quarter - angle ((one ⊖ x) ⊘ (one ⊕ x))))
  second_good t s = rw (A_mid (from_fifths x n t) (up_to_one_lem x n s)) (from_quarter (div-fits binary64 (one ⊖ x) (one ⊕ x)) (second t s))

  pub third : T (not (le x one)) → T (lt x five_halves) → Piece ((x ⊖ one) ⊘ (x ⊕ one)) ((exactly x ⊟ whole 1) ⧄ (exactly x ⊞ whole 1))
  third t s = past_one_near x n (past_one x n t) (below_halves x n s)

  third_good : T (not (le x one)) → T (lt x five_halves) → Good (A (exactly x)) (back (quarter + angle ((x ⊖ one) ⊘ (x ⊕ one))))
  third_good t s =
      let past = past_one x n t in
      let two = (inverse_between x n past (below_halves x n s)).0 in
      let W = (whole 1 ⊟ whole 1 ⧄ exactly x) ⧄ (whole 1 ⊞ whole 1 ⧄ exactly x) in
      let w : Proper W = quotient_proper (inverse_proper proper (≺→≼ past)) (≼_trans (over_proper 2 5 (lit≤ tt)) ((over-≼ 1 3 2 5).1 (lit≤ tt)) (≺→≼ two)) in
      let r = past_quarter (div-fits binary64 (x ⊖ one) (x ⊕ one)) (standing (third t s) (inverse_same x n past) w) in
      (r.0, rw (A_high past two) (within_to (⊟-proper (⊞-proper P_proper P_proper) (⊟-proper P_proper (G_proper w))) (≈-sym (two_less_one P (G W))) r.1))

  pub fourth : T (not (lt x five_halves)) → Piece (one ⊘ x) (whole 1 ⧄ exactly x)
  fourth t = (from_halves_near x n (from_halves x n t)).0

  fourth_good : T (not (le x one)) → T (not (lt x five_halves)) → Good (A (exactly x)) (back (half - angle (one ⊘ x)))
  fourth_good t s = rw (A_far (past_one x n t) (from_halves_near x n (from_halves x n s)).1) (from_half (div-fits binary64 one x) (fourth s))

  pub forward_finite : Good (A (exactly x)) (forward x)
  unfolding forward
  forward_finite =
      let Q = Good (A (exactly x)) in
      let z1 = back (quarter - angle ((one ⊖ x) ⊘ (one ⊕ x))) in
      let z2 = back (quarter + angle ((x ⊖ one) ⊘ (x ⊕ one))) in
      let z3 = back (half - angle (one ⊘ x)) in
      let b2 = lt x two_fifths in
      let b4 = lt x five_halves in
      either Q (lt x tiny) x (cond b2 (back (angle x)) (cond (le x one) z1 (cond b4 z2 z3))) near_zero
      (λ _. either Q b2 (back (angle x)) (cond (le x one) z1 (cond b4 z2 z3)) first
      (λ t2. either Q (le x one) z1 (cond b4 z2 z3) (second_good t2) (λ t3. either Q b4 z2 z3 (third_good t3) (fourth_good t3))))

-- ---- of the infinity
zero_off : (p : Fraction) → p ⊟ whole 0 ≡ p
unfolding over opposite
zero_off p = ⊞-zero p

less_nothing : {p : Fraction} → Proper p → p ⊟ G (whole 0) ≈ p
less_nothing {p} r = ≈-trans (⊟-proper r (whole_proper 0)) (⊞-cong (≈-refl p) (opposite_cong G_zero)) (≡→≈ (zero_off p))

half_of_nothing : Good (P ⊞ P) (back (half - angle (one ⊘ inf false)))
half_of_nothing =
    let pp = ⊞-proper P_proper P_proper in
    let r = from_half (div-fits binary64 one (inf false)) infinite_near in
    (r.0, within_to pp (less_nothing pp) r.1)

forward_infinite : Good (P ⊞ P) (forward (inf false))
unfolding forward lt le of_bits
forward_infinite = half_of_nothing

-- ---- of every x
enough : u 1129 ≼ arctangent_bound
unfolding over
enough = record { holds = lit≤ tt }

bounded : {a : Fraction} {r : Float} → Good a r → Angle false a r
bounded g = record { number = g.0; within = within_wider (unit_proper 1129) enough g.1 }

turned : {a : Fraction} {r : Float} → Angle false a r → Angle true a (neg r)
turned {a} {r} g = record { number = neg_finite r g.number; within = rw (exactly_neg r) (within_opposite g.within) }

pub zero_tiny : (s : Bool) (e : ℤ) → lt (fin s 0 e) tiny ≡ true
unfolding lt of_bits
zero_tiny true e = is_true (ltb 0 (0 * up e * 1048576 + 1 * down e)) (lt→ltb 0 (0 * up e * 1048576 + 1 * down e) (omega (arith, down_pos e)))
zero_tiny false e = is_true (ltb (0 * up e * 1048576) (1 * down e)) (lt→ltb (0 * up e * 1048576) (1 * down e) (omega (arith, down_pos e)))

zero_forward : (s : Bool) (e : ℤ) → forward (fin s 0 e) ≡ fin s 0 e
unfolding forward
zero_forward s e = ap (λ (t : Bool). cond t (fin s 0 e) (cond (lt (fin s 0 e) two_fifths) (back (angle (fin s 0 e))) (cond (le (fin s 0 e) one) (back (quarter - angle ((one ⊖ fin s 0 e) ⊘ (one ⊕ fin s 0 e)))) (cond (lt (fin s 0 e) five_halves) (back (quarter + angle ((fin s 0 e ⊖ one) ⊘ (fin s 0 e ⊕ one)))) (back (half - angle (one ⊘ fin s 0 e))))))) (zero_tiny s e)

pub same_itself : (s : Bool) (m : ℕ) (e : ℤ) → eq (fin s m e) (fin s m e) ≡ true
unfolding eq
same_itself true m e = is_true (level true (m * up e * down e) true (m * up e * down e)) (and_i (eqb (m * up e * down e) (m * up e * down e)) true (eqb_refl (m * up e * down e)) tt)
same_itself false m e = is_true (level false (m * up e * down e) false (m * up e * down e)) (and_i (eqb (m * up e * down e) (m * up e * down e)) true (eqb_refl (m * up e * down e)) tt)

pub plus_not_negative : (m : ℕ) (e : ℤ) → whole 0 ≼ exactly (fin false m e)
unfolding exactly
plus_not_negative m e = (over-≼ 0 1 (m * up e) (down e)).1 (omega arith)

pub plus_held : (m : ℕ) (e : ℤ) → T (fits binary64 (fin true m e)) → T (fits binary64 (fin false m e))
plus_held m e f = subst (λ (x : Float). T (fits binary64 x)) turned_back (neg-fits binary64 (fin true m e) f)
  where
    turned_back : neg (fin true m e) ≡ fin false m e
    turned_back = unfold neg in refl

pub at_plus : (m : ℕ) (e : ℤ) → exactly (fin false m e) ≡ over (m * up e) (down e)
unfolding exactly
at_plus m e = refl

plus : (m : ℕ) (e : ℤ) → T (fits binary64 (fin false m e)) → Angle false (A (over (m * up e) (down e))) (forward (fin false m e))
plus m e f = subst (λ (a : Fraction). Angle false (A a) (forward (fin false m e))) (at_plus m e) (bounded (forward_finite (fin false m e) f tt (plus_not_negative m e)))

-- by the test for a negative x
pub when_below : (x : Float) → lt x (f64 0) ≡ true → arctangent x ≡ neg (forward (neg x))
unfolding arctangent
when_below x h = ap (λ (t : Bool). cond t (neg (forward (neg x))) (cond (eq x x) (forward x) nan)) h

pub when_not_below : (x : Float) → lt x (f64 0) ≡ false → eq x x ≡ true → arctangent x ≡ forward x
unfolding arctangent
when_not_below x h k = ap (λ (t : Bool). cond t (neg (forward (neg x))) (cond (eq x x) (forward x) nan)) h ∙ ap (λ (t : Bool). cond t (forward x) nan) k

pub not_below : (x : Float) → (lt x (f64 0) ≡ true → ⊥) → lt x (f64 0) ≡ false
not_below x n = go (lt x (f64 0)) n
  where
    go : (b : Bool) → (b ≡ true → ⊥) → b ≡ false
    go true n = absurd (n refl)
    go false n = refl

pub zero_itself : (s : Bool) (e : ℤ) → arctangent (fin s 0 e) ≡ fin s 0 e
zero_itself true e = when_not_below (fin true 0 e) (not_below (fin true 0 e) (zero_not_below e)) (same_itself true 0 e) ∙ zero_forward true e
zero_itself false e = when_not_below (fin false 0 e) (not_below (fin false 0 e) (plus_not_below 0 e)) (same_itself false 0 e) ∙ zero_forward false e

pub minus_turned : (m : ℕ) (e : ℤ) → arctangent (fin true (suc m) e) ≡ neg (forward (fin false (suc m) e))
unfolding neg
minus_turned m e = when_below (fin true (suc m) e) (below_zero m e)

pub plus_itself : (m : ℕ) (e : ℤ) → arctangent (fin false m e) ≡ forward (fin false m e)
plus_itself m e = when_not_below (fin false m e) (not_below (fin false m e) (plus_not_below m e)) (same_itself false m e)

infinite : Angle false (P ⊞ P) (arctangent (inf false))
infinite = subst (λ (r : Float). Angle false (P ⊞ P) r) (sym opened) (bounded forward_infinite)
  where
    opened : arctangent (inf false) ≡ forward (inf false)
    opened = when_not_below (inf false) (unfold lt of_bits in refl) (unfold eq in refl)

pub minus_infinite : arctangent (inf true) ≡ neg (arctangent (inf false))
unfolding neg arctangent lt eq of_bits
minus_infinite = refl

zero_near : (e : ℤ) → T (fits binary64 (fin false 0 e)) → Angle false (A (over (0 * up e) (down e))) (fin false 0 e)
zero_near e f = subst (λ (r : Float). Angle false (A (over (0 * up e) (down e))) r) (zero_forward false e) (plus 0 e f)

minus_zero : (e : ℤ) → neg (fin false 0 e) ≡ fin true 0 e
unfolding neg
minus_zero e = refl

pub arctangent_near : (x : Float) → T (fits binary64 x) → Arctangent x (arctangent x)
arctangent_near nan f = unfold arctangent lt eq in refl
arctangent_near (inf true) f = subst (λ (r : Float). Angle true (P ⊞ P) r) (sym minus_infinite) (turned infinite)
arctangent_near (inf false) f = infinite
arctangent_near (fin true zero e) f = subst (λ (r : Float). Angle true (A (over (0 * up e) (down e))) r) (minus_zero e ∙ sym (zero_itself true e)) (turned (zero_near e (plus_held 0 e f)))
arctangent_near (fin true (suc m) e) f = subst (λ (r : Float). Angle true (A (over (suc m * up e) (down e))) r) (sym (minus_turned m e)) (turned (plus (suc m) e (plus_held (suc m) e f)))
arctangent_near (fin false m e) f = subst (λ (r : Float). Angle false (A (over (m * up e) (down e))) r) (sym (plus_itself m e)) (plus m e f)

no_lt_nan : lt nan (f64 0) ≡ true → ⊥
unfolding lt
no_lt_nan h = false≢true h

no_lt_infinity : lt (inf false) (f64 0) ≡ true → ⊥
unfolding lt of_bits
no_lt_infinity h = false≢true h

minus_infinity_below : lt (inf true) (f64 0) ≡ true
unfolding lt of_bits
minus_infinity_below = refl

infinity_itself : eq (inf false) (inf false) ≡ true
unfolding eq
infinity_itself = refl

nan_differs : eq nan nan ≡ false
unfolding eq
nan_differs = refl

-- ---- what the code's tests leave: a negative x turned, an x that is not negative, and a NaN
pub at_zero : exactly (f64 0) ≡ whole 0
unfolding of_bits exactly
at_zero = refl

pub finite_zero : T (finite (f64 0))
unfolding of_bits
finite_zero = tt

from_zero : (x : Float) → T (finite x) → whole 0 ≼ exactly x → T (le (f64 0) x)
from_zero x n h = (le-≼ (f64 0) x finite_zero n).1 (rw at_zero h)

minus_zero_low : (e : ℤ) → whole 0 ≼ exactly (fin true 0 e)
unfolding exactly over opposite
minus_zero_low e = record { holds = omega (arith, zero-mul (up e)) }

pub minus_above : (x : Float) → lt x (f64 0) ≡ true → T (le (f64 0) (neg x))
unfolding neg
minus_above nan h = absurd (no_lt_nan h)
minus_above (inf true) h = unfold le of_bits in tt
minus_above (inf false) h = absurd (no_lt_infinity h)
minus_above (fin true m e) h = from_zero (fin false m e) tt (plus_not_negative m e)
minus_above (fin false m e) h = absurd (plus_not_below m e h)

pub not_minus : (x : Float) → lt x (f64 0) ≡ false → eq x x ≡ true → T (le (f64 0) x)
not_minus nan h k = absurd (false≢true (sym nan_differs ∙ k))
not_minus (inf true) h k = absurd (true≢false (sym minus_infinity_below ∙ h))
not_minus (inf false) h k = unfold le of_bits in tt
not_minus (fin true zero e) h k = from_zero (fin true 0 e) tt (minus_zero_low e)
not_minus (fin true (suc m) e) h k = absurd (true≢false (sym (below_zero m e) ∙ h))
not_minus (fin false m e) h k = from_zero (fin false m e) tt (plus_not_negative m e)

pub when_nan : (x : Float) → lt x (f64 0) ≡ false → eq x x ≡ false → x ≡ arctangent x
when_nan nan h k = unfold arctangent lt eq in refl
when_nan (inf true) h k = absurd (true≢false (sym minus_infinity_below ∙ h))
when_nan (inf false) h k = absurd (true≢false (sym infinity_itself ∙ k))
when_nan (fin s m e) h k = absurd (true≢false (sym (same_itself s m e) ∙ k))
