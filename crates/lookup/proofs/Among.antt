-- An index among the cells: that it is a number, and what its whole part is. Assumes nothing.
use Rattle.lens.specs.Judgement.{accepted}
use Rattle.std.proofs.Common.{◌≡◌, ℕ, zero, suc, ◌+◌, ◌-◌, ◌*◌, ◌/◌, ◌^◌, ◌<◌, ◌≤◌, Bool, true, false, cond, not, ◌&&◌, ◌||◌, T, eqb, ltb, ℤ, pos, sym, refl, ap, ◌∙◌, subst, inl, inr, true≢false, le_trans, mul-le-mul_right, zero-lt-suc, mul-pos, div-mul-le_self, arith, lit≤, lt→ltb}
use Rattle.std.specs.declared.result.Result.TheVariants.{Err}
use mathlib.Core.Bool.{beq, false≢true}
use native.Mathlib.Nat.{min-eq_left, div-le_of_le-mul, lt-div-mul-add}
use native.Mathlib.Decide.{dec_lt}
use lib.Dec.{eqb-suc-zero}
use lib.Ieee.{Float, nan, inf, fin, Format, binary64, low, up, down, round, sum, add, sub, neg, div, lt, le, eq, of_bits, of_int, to_unsigned, unlike, is_nan}
use lib.Ieee.Fits.{up_pos, down_pos}
use lib.Ieee.Back.{round_whole}
use lib.Ieee.Exact.{HasValue}
use lib.Ieee.Scale.{finite, overflow}
use Rattle.exact.specs.F64.{◌⊖◌, ◌⊘◌, is_zero}
use Rattle.exact.specs.Fraction.{◌≼◌, ◌≺◌, ◌≈◌, over, whole, opposite, exactly}
use Rattle.exact.proofs.Fractions.{value, over-≼, lt-≺, ≼-or-≺, ≼-≈, exactly_proper}
use Rattle.exact.proofs.Laws.{rounding_near}
use Rattle.exact.proofs.Tests.{is_zero_lem, below_zero}
use Rattle.lens.specs.Constants.{zeros}
use Rattle.lens.specs.declared.Refusal.TheVariants.{IncrementNotPositive, AnswerNotFinite}
use Rattle.region.specs.Region.{flat, wrong}
use Rattle.region.specs.Size.{float}
use Rattle.region.specs.declared.Increments.{Increments}
use Rattle.lookup.specs.Asked.{Number, Inside}
use Rattle.lookup.specs.Lookup.{index, whole_part}

-- ---- no operation of an index makes a NaN

valued : (x : Float) (s : Bool) (a c : ℕ) → HasValue x s a c → Number x
unfolding is_nan
valued nan s a c h = elim h [ ]
valued (inf _) s a c h = elim h [ ]
valued (fin t m e) s a c h = tt

infinite : (x : Float) (s : Bool) → x ≡ inf s → Number x
unfolding is_nan
infinite x s e = subst Number (sym e) tt

rounds_in : (f : Format) (s : Bool) (a c : ℕ) → 0 < c → Number (round f s a c)
rounds_in f s a c C =
    let r = rounding_near f s a c C in
    elim (dec_lt r.steps (overflow f)) [
      | yes h ↦ valued (round f s a c) s r.steps (2 ^ low f) (r.under h)
      | no h ↦ infinite (round f s a c) s (r.over (omega arith))
    ]

rounds : (s : Bool) (a c : ℕ) → 0 < c → Number (round binary64 s a c)
rounds = rounds_in binary64

either : (b : Bool) (x y : Float) → Number x → Number y → Number (cond b x y)
either true x y p q = p
either false x y p q = q

sums : (s : Bool) (a : ℕ) (t : Bool) (b c : ℕ) → 0 < c → Number (sum binary64 s a t b c)
unfolding sum
sums s a t b c C =
    either (beq s t) (round binary64 s (a + b) c) (cond (ltb a b) (round binary64 t (b - a) c) (round binary64 (s && ltb b a) (a - b) c))
    (rounds s (a + b) c C)
    (either (ltb a b) (round binary64 t (b - a) c) (round binary64 (s && ltb b a) (a - b) c) (rounds t (b - a) c C) (rounds (s && ltb b a) (a - b) c C))

difference : (x y : Float) → finite x ≡ true → finite y ≡ true → Number (x ⊖ y)
unfolding sub add neg
difference (fin s m e) (fin t n d) p q = sums s (m * up e * down d) (not t) (n * up d * down e) (down e * down d) (mul-pos (down_pos e) (down_pos d))
difference nan y p q = absurd (false≢true p)
difference (inf s) y p q = absurd (false≢true p)
difference (fin s m e) nan p q = absurd (false≢true q)
difference (fin s m e) (inf t) p q = absurd (false≢true q)

quotient : (x y : Float) → Number x → finite y ≡ true → is_zero y ≡ false → Number (x ⊘ y)
unfolding div is_nan is_zero
quotient nan y p q z = absurd p
quotient (inf s) (fin t n d) p q z = tt
quotient (fin s m e) (fin t zero d) p q z = absurd (true≢false z)
quotient (fin s m e) (fin t (suc n) d) p q z =
    subst (λ (b : Bool). Number (cond b (cond (eqb m 0) nan (inf (unlike s t))) (round binary64 (unlike s t) (m * up e * down d) (suc n * up d * down e)))) (sym (eqb-suc-zero n))
    (rounds (unlike s t) (m * up e * down d) (suc n * up d * down e) (mul-pos (mul-pos (zero-lt-suc n) (up_pos d)) (down_pos e)))
quotient (inf s) nan p q z = absurd (false≢true q)
quotient (inf s) (inf t) p q z = absurd (false≢true q)
quotient (fin s m e) nan p q z = absurd (false≢true q)
quotient (fin s m e) (inf t) p q z = absurd (false≢true q)

-- ---- increments that are taken are finite and no zero

not_flat : (x : Float) → finite x ≡ true → flat x ≡ false → is_zero x ≡ false
unfolding le
not_flat x p h = go (lt x zeros) (is_zero x) (ap (λ (b : Bool). b && (lt x zeros || is_zero x)) (sym p) ∙ ap (λ (b : Bool). finite x && (lt x zeros || b)) (sym (is_zero_lem x)) ∙ h)
  where
    go : (l z : Bool) → (true && (l || z)) ≡ false → z ≡ false
    go true z h = absurd (true≢false h)
    go false true h = absurd (true≢false h)
    go false false h = refl

pub record Steps (by : Increments) : Type 0 where
  pub across : finite by.0 ≡ true
  pub down : finite by.1 ≡ true
  pub across_some : is_zero by.0 ≡ false
  pub down_some : is_zero by.1 ≡ false

pub steps : (by : Increments) → wrong by ≡ accepted → Steps by
unfolding wrong
steps by h = go (flat by.0) refl (flat by.1) refl (finite by.0) refl (finite by.1) refl h
  where
    go : (f : Bool) → flat by.0 ≡ f → (g : Bool) → flat by.1 ≡ g → (p : Bool) → finite by.0 ≡ p → (q : Bool) → finite by.1 ≡ q
        → cond (f || g) (Err IncrementNotPositive) (cond (p && q) accepted (Err AnswerNotFinite)) ≡ accepted → Steps by
    go true ef g eg p ep q eq h = let z : ◌≡◌ {A = ℕ} 0 1 = cc in absurd (omega arith)
    go false ef true eg p ep q eq h = let z : ◌≡◌ {A = ℕ} 0 1 = cc in absurd (omega arith)
    go false ef false eg true ep true eq h = record { across = ep; down = eq; across_some = not_flat by.0 ep ef; down_some = not_flat by.1 eq eg }
    go false ef false eg true ep false eq h = let z : ◌≡◌ {A = ℕ} 0 1 = cc in absurd (omega arith)
    go false ef false eg false ep q eq h = let z : ◌≡◌ {A = ℕ} 0 1 = cc in absurd (omega arith)

-- so the index of a finite point from a finite edge is no NaN
pub index_number : (x lower by : Float) → finite x ≡ true → finite lower ≡ true → finite by ≡ true → is_zero by ≡ false → Number (index x lower by)
unfolding index
index_number x lower by p q f z = quotient (x ⊖ lower) by (difference x lower p q) f z

-- ---- a count as an f64 is that number

pub float_finite : (n : ℕ) → n ≤ 4096 → T (finite (float n))
unfolding float of_int
float_finite n h = go (round binary64 false n 1) (round_whole binary64 false n (le_trans h (lit≤ tt)))
  where
    go : (x : Float) → HasValue x false n 1 → T (finite x)
    go nan v = elim v [ ]
    go (inf _) v = elim v [ ]
    go (fin t m e) v = tt

pub float_exactly : (n : ℕ) → n ≤ 4096 → exactly (float n) ≈ whole n
unfolding float of_int
float_exactly n h = value (round binary64 false n 1) false n 1 (round_whole binary64 false n (le_trans h (lit≤ tt)))

-- ---- an index that isn't outside

-- what the truncation asks for; the whole part is that of some cell, and is the index without what is below 1
pub record Cut (i : Float) (cells : ℕ) : Type 0 where
  pub number : T (finite i)
  pub above : T (lt (fin true 1 (pos 0)) i)
  pub under : T (lt i (fin false 1 (pos 64)))
  pub among : whole_part i < cells
  pub not_above : whole (whole_part i) ≼ exactly i
  pub not_below : exactly i ≺ whole (whole_part i + 1)

not_less : (x y : Float) → T (finite x) → T (finite y) → lt x y ≡ false → exactly y ≼ exactly x
not_less x y p q h = elim (≼-or-≺ (exactly y) (exactly x)) [ inl k ↦ k | inr k ↦ absurd (subst T h ((lt-≺ x y p q).1 k)) ]

over-≺ : (a c b d : ℕ) → a * d < b * c → over a c ≺ over b d
unfolding over
over-≺ a c b d h = record { holds = omega arith }

-- with no sign: at most the last
plain_cut : (m : ℕ) (e : ℤ) (cells : ℕ) → 0 < cells → cells ≤ 4096 → m * up e * 1 ≤ (cells - 1) * down e → Cut (fin false m e) cells
unfolding lt to_unsigned exactly
plain_cut m e cells some few h =
    let a = m * up e in
    let c = down e in
    let q : a / c ≤ cells - 1 = div-le_of_le-mul c (omega arith) in
    let n : whole_part (fin false m e) ≡ a / c = min-eq_left (small (a / c) q) in
    record {
      number = tt;
      above = lt→ltb 0 (1 * c + a * 1) (omega (arith, down_pos e));
      under = lt→ltb (a * 1) (1 * 2 ^ 64 * c) (lower a c (down_pos e) h);
      among = rw n (omega arith);
      not_above = rw n ((over-≼ (a / c) 1 a c).1 (omega (arith, div-mul-le_self a c)));
      not_below = rw n (over-≺ a c (a / c + 1) 1 (beyond a c (a / c) (lt-div-mul-add (down_pos e))));
    }
  where
    beyond : (a c q : ℕ) → a < q * c + c → a * 1 < (q + 1) * c
    beyond a c q h = omega arith

    small : (q : ℕ) → q ≤ cells - 1 → q ≤ 2 ^ 64 - 1
    small q h = omega arith

    lower : (a c : ℕ) → 0 < c → a * 1 ≤ (cells - 1) * c → a * 1 < 1 * 2 ^ 64 * c
    lower a c C h = let l : cells - 1 ≤ 4096 = omega arith in omega (arith, mul-le-mul_right c l)

-- -0, whose whole part is 0
minus_cut : (e : ℤ) (cells : ℕ) → 0 < cells → Cut (fin true zero e) cells
unfolding lt to_unsigned exactly over opposite
minus_cut e cells some = record {
  number = tt;
  above = lt→ltb (0 * up e * 1) (1 * down e) (omega (arith, down_pos e));
  under = lt→ltb 0 (0 * up e * 1 + 1 * 2 ^ 64 * down e) (omega (arith, down_pos e));
  among = some;
  not_above = record { holds = omega arith };
  not_below = record { holds = omega (arith, down_pos e) };
}

right_of : (o p : Bool) → (o || p) ≡ false → p ≡ false
right_of true p h = absurd (true≢false h)
right_of false p h = h

no_last : (x : Float) → T (finite x) → lt x (inf false) ≡ false → ⊥
unfolding lt
no_last nan f h = elim f [ ]
no_last (inf _) f h = elim f [ ]
no_last (fin s m e) f h = true≢false h

pub cut : (i : Float) (cells : ℕ) → Inside i cells → Cut i cells
unfolding lt of_bits is_nan exactly
cut nan cells h = absurd h.number
cut (inf true) cells h = absurd (true≢false h.among)
cut (inf false) cells h = absurd (no_last (float (cells - 1)) (float_finite (cells - 1) (omega arith)) h.among)
cut (fin true zero e) cells h = minus_cut e cells h.some
cut (fin true (suc m) e) cells h = absurd (true≢false (ap (λ (b : Bool). b || lt (float (cells - 1)) (fin true (suc m) e)) (sym (below_zero m e)) ∙ h.among))
cut (fin false m e) cells h =
    let last = cells - 1 in
    let few : last ≤ 4096 = omega arith in
    let l = not_less (float last) (fin false m e) (float_finite last few) tt (right_of (lt (fin false m e) zeros) (lt (float last) (fin false m e)) h.among) in
    plain_cut m e cells h.some h.few ((over-≼ (m * up e) (down e) last 1).0 (≼-≈ (exactly_proper (float last)) l (float_exactly last few)))
