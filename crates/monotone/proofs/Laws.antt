-- Rounding keeps the order: of two numbers the larger is rounded to an f64 that is no smaller. What is rounded
-- (`Rounds`) is said in exact's specs/Operations. Assumes nothing.
use mathlib.Core.Path.{◌≡◌, refl, sym, ap, ◌∙◌, subst}
use mathlib.Core.Logic.{inl, inr}
use mathlib.Core.Bool.{Bool, true, false, not}
use Prim.Native.Nat.{ℕ, ◌+◌, ◌-◌, ◌*◌, ◌^◌, ◌≤◌, ◌<◌}
use native.Mathlib.Nat.{eq-zero-or-pos, mul-pos, mul-le-mul_left, mul-le-mul_right, lt_of_mul-lt-mul_right}
use native.Mathlib.Decide.{dec_le, dec_lt}
use native.Mathlib.Omega.{arith}
use lib.IntN.{pos}
use lib.Dec.{T, lit≤}
use lib.Pow.{pow-add, pow_mono, pow_pos}
use lib.Ieee.{Float, nan, inf, fin, Format, binary64, low, up, down, round, neg, fits}
use lib.Ieee.Fits.{down_pos, round-fits}
use lib.Ieee.Scale.{finite, overflow}
use Rattle.exact.specs.Fraction.{Fraction, Proper, ◌≼◌, ◌≺◌, ◌≈◌, over, whole, opposite, signed, exactly}
use Rattle.exact.specs.Operations.{Rounds}
use Rattle.exact.proofs.Fractions.{value, over_proper, signed_proper, over-≼, opposite_cong, opposite_opposite}
use Rattle.exact.proofs.Fractions.{exactly_proper, le-≼, ≼_trans, ≼-≺-trans, ≼-≈, ≈-≼, ≈→≼, ≈-sym, ≈-refl}
use Rattle.exact.proofs.Laws.{rounding_near, rounding_monotone, rounding_monotone_below, rounding_turned}
use Rattle.exact.proofs.Laws.{rounding_held, value_in_units}
use Rattle.exact.proofs.Zeros.{zero_rounds}

-- ---- what is rounded

-- It is an f64.
pub rounds_fits : {x : Float} {v : Fraction} → Rounds x v → T (fits binary64 x)
rounds_fits r =
    subst (λ (x : Float). T (fits binary64 x)) (sym r.is) (round-fits binary64 r.negative r.top r.bottom)

-- A finite f64 is its own number, rounded.
pub rounds_itself : (x : Float) → T (fits binary64 x) → T (finite x) → Rounds x (exactly x)
unfolding exactly
rounds_itself (fin s m e) f t = record {
  negative = s;
  top = m * up e;
  bottom = down e;
  some = down_pos e;
  is = sym (rounding_held binary64 s m e f);
  value = ≈-refl (signed s (over (m * up e) (down e)));
}
rounds_itself nan f t = elim t [ ]
rounds_itself (inf _) f t = elim t [ ]

turned_back : (x : Float) → neg (neg x) ≡ x
unfolding neg
turned_back nan = refl
turned_back (inf false) = refl
turned_back (inf true) = refl
turned_back (fin false m e) = refl
turned_back (fin true m e) = refl

-- The opposite number is rounded to the same f64 with its sign turned.
pub rounds_turned : {x : Float} {v : Fraction} → Rounds x v → Rounds (neg x) (opposite v)
rounds_turned {x} {v} r = record {
  negative = not r.negative;
  top = r.top;
  bottom = r.bottom;
  some = r.some;
  is = ap neg r.is ∙ go r.negative;
  value = of r.negative r.value;
}
  where
    go : (s : Bool) → neg (round binary64 s r.top r.bottom) ≡ round binary64 (not s) r.top r.bottom
    go false = sym (rounding_turned binary64 r.top r.bottom)
    go true =
        ap neg (rounding_turned binary64 r.top r.bottom)
        ∙ turned_back (round binary64 false r.top r.bottom)

    of : (s : Bool) → v ≈ signed s (over r.top r.bottom) → opposite v ≈ signed (not s) (over r.top r.bottom)
    of false e = opposite_cong e
    of true e = rw (opposite_opposite (over r.top r.bottom)) at (opposite_cong e)

-- ---- by the signs

-- a finite result is so many units with the sign that was rounded
record Counted (f : Format) (x : Float) (s : Bool) : Type 0 where
  units : ℕ
  is : exactly x ≈ signed s (over units (2 ^ low f))

counted : (f : Format) (s : Bool) (a c : ℕ) → 0 < c → T (finite (round f s a c)) → Counted f (round f s a c) s
counted f s a c C t =
    let r = rounding_near f s a c C in
    elim (dec_lt r.steps (overflow f)) [
      | yes h ↦ record { units = r.steps; is = value (round f s a c) s r.steps (2 ^ low f) (r.under h) }
      | no h ↦ absurd (subst (λ (x : Float). T (finite x)) (r.over (omega arith)) t)
    ]

minus-≼ : (a c b d : ℕ) → opposite (over a c) ≼ over b d
unfolding over opposite
minus-≼ a c b d = record { holds = omega arith }

opposites-≼ : (a c b d : ℕ) → opposite (over a c) ≼ opposite (over b d) → b * c ≤ a * d
unfolding over opposite
opposites-≼ a c b d h = omega (arith, h.holds)

both_none : (a c b d : ℕ) → 0 < c → 0 < d → over a c ≼ opposite (over b d) → (a ≡ 0) × (b ≡ 0)
unfolding over opposite
both_none a c b d C D h = (none a d D (omega (arith, h.holds)), none b c C (omega (arith, h.holds)))
  where
    none : (n k : ℕ) → 0 < k → n * k ≡ 0 → n ≡ 0
    none n k p z = elim (eq-zero-or-pos n) [ inl e ↦ e | inr q ↦ absurd (omega (arith, mul-pos q p)) ]

in_order :
    (s t : Bool) (a c b d : ℕ) → 0 < c → 0 < d → T (finite (round binary64 s a c)) → T (finite (round binary64 t b d))
    → signed s (over a c) ≼ signed t (over b d)
    → exactly (round binary64 s a c) ≼ exactly (round binary64 t b d)
unfolding exactly over opposite
in_order false false a c b d C D p q h =
    (le-≼ (round binary64 false a c) (round binary64 false b d) p q).0
    (rounding_monotone binary64 a c b d C D ((over-≼ a c b d).0 h))
in_order true true a c b d C D p q h =
    (le-≼ (round binary64 true a c) (round binary64 true b d) p q).0
    (rounding_monotone_below binary64 b d a c D C (opposites-≼ a c b d h))
in_order true false a c b d C D p q h =
    let x = counted binary64 true a c C p in
    let y = counted binary64 false b d D q in
    let l : 0 < 2 ^ 1074 = lit≤ tt in
    ≈-≼ (signed_proper true (over_proper x.units (2 ^ 1074) l)) x.is
    (≼-≈ (over_proper y.units (2 ^ 1074) l) (minus-≼ x.units (2 ^ 1074) y.units (2 ^ 1074)) (≈-sym y.is))
in_order false true a c b d C D p q h =
    let z = both_none a c b d C D h in
    rw (zero_rounds binary64 false a c z.0 C, zero_rounds binary64 true b d z.1 D) (record { holds = lit≤ tt })

-- ---- the laws

-- Of two numbers the larger is rounded to no smaller an f64, if both results are finite.
pub rounds_monotone :
    {x y : Float} {v w : Fraction} → Proper v → Proper w → Rounds x v → Rounds y w → T (finite x) → T (finite y)
    → v ≼ w → exactly x ≼ exactly y
rounds_monotone P Q r q f g h =
    let e = r.is in
    let d = q.is in
    let exact = ≼_trans P (≈→≼ (≈-sym r.value)) (≼-≈ Q h q.value) in
    rw (e, d)
    (in_order r.negative q.negative r.top r.bottom q.top q.bottom r.some q.some
    (subst (λ (x : Float). T (finite x)) e f) (subst (λ (x : Float). T (finite x)) d g) exact)

-- Where the exact number isn't above an f64, what it is rounded to isn't either; and so below.
pub rounds_not_above :
    {x : Float} {v : Fraction} (y : Float) → Proper v → Rounds x v → T (finite x) → T (fits binary64 y) → T (finite y)
    → v ≼ exactly y → exactly x ≼ exactly y
rounds_not_above y P r f t g h = rounds_monotone P (exactly_proper y) r (rounds_itself y t g) f g h

pub rounds_not_below :
    {x : Float} {v : Fraction} (y : Float) → Proper v → Rounds x v → T (finite x) → T (fits binary64 y) → T (finite y)
    → exactly y ≼ v → exactly y ≼ exactly x
rounds_not_below y P r f t g h = rounds_monotone (exactly_proper y) P (rounds_itself y t g) r g f h

-- What isn't negative is rounded to what isn't.
pub rounds_not_negative :
    {x : Float} {v : Fraction} → Proper v → Rounds x v → T (finite x) → whole 0 ≼ v → whole 0 ≼ exactly x
unfolding exactly over
rounds_not_negative {x} P r f h =
    let none = zero_rounds binary64 false 0 1 refl (lit≤ tt) in
    let zero : Rounds (fin false 0 (pos 0)) (whole 0) =
    record { negative = false; top = 0; bottom = 1; some = lit≤ tt; is = sym none; value = ≈-refl (over 0 1) } in
    ≈-≼ (exactly_proper (fin false 0 (pos 0))) (record { holds = refl })
    (rounds_monotone (over_proper 0 1 (lit≤ tt)) P zero r tt f h)

-- ---- below 1

few_digits : (q g l : ℕ) → q < 2 ^ 53 → g * 2 ^ 53 ≤ l → q * g * 2 ^ 53 ≤ (2 ^ 53 - 1) * l
few_digits q g l h k =
    let most : q ≤ 2 ^ 53 - 1 = omega arith in omega (arith, mul-le-mul_left q k, mul-le-mul_right l most)

many_zeros : (q p g : ℕ) → 0 < g → q * (p * g) < 2 ^ 52 * g → q * (p * g) * 2 ^ 53 ≤ (2 ^ 53 - 1) * (2 ^ 52 * g)
many_zeros q p g G h =
    let few : q * p < 2 ^ 52 = lt_of_mul-lt-mul_right g (omega arith) in
    let most : q * p ≤ 2 ^ 52 - 1 = omega arith in
    omega (arith, mul-le-mul_right g most)

-- a power of two over a smaller one
pub power_split : (k n : ℕ) → k ≤ n → 2 ^ (n - k) * 2 ^ k ≡ 2 ^ n
power_split k n h = sym (pow-add 2 (n - k) k) ∙ ap (λ (x : ℕ). 2 ^ x) (parts k n h)
  where
    parts : (k n : ℕ) → k ≤ n → n - k + k ≡ n
    parts k n h = omega arith

digits_below : (q k : ℕ) → q < 2 ^ 53 → q * 2 ^ k < 2 ^ 1074 → q * 2 ^ k * 2 ^ 53 ≤ (2 ^ 53 - 1) * 2 ^ 1074
digits_below q k h b = elim (dec_le k 1021) [
  | yes l ↦ few_digits q (2 ^ k) (2 ^ 1074) h (rw (pow-add 2 k 53) at (pow_mono {i = k + 53} {j = 1074} (omega arith)))
  | no l ↦
      let e = power_split 1022 k (omega arith) in
      subst (λ (g : ℕ). q * g * 2 ^ 53 ≤ (2 ^ 53 - 1) * 2 ^ 1074) e
      (many_zeros q (2 ^ (k - 1022)) (2 ^ 1022) (pow_pos 1022) (subst (λ (g : ℕ). q * g < 2 ^ 1074) (sym e) b))
]

under_one : (n l : ℕ) → over n l ≺ whole 1 → n < l
unfolding over
under_one n l h = omega (arith, h.holds)

signed_below :
    (s : Bool) (q k : ℕ) → q < 2 ^ 53 → signed s (over (q * 2 ^ k) (2 ^ 1074)) ≺ whole 1
    → signed s (over (q * 2 ^ k) (2 ^ 1074)) ≼ over (2 ^ 53 - 1) (2 ^ 53)
signed_below false q k few h =
    (over-≼ (q * 2 ^ k) (2 ^ 1074) (2 ^ 53 - 1) (2 ^ 53)).1 (digits_below q k few (under_one (q * 2 ^ k) (2 ^ 1074) h))
signed_below true q k few h = minus-≼ (q * 2 ^ k) (2 ^ 1074) (2 ^ 53 - 1) (2 ^ 53)

-- An f64 below 1 is at most 1 - 2^-53.
pub below_one :
    (a : Float) → T (fits binary64 a) → T (finite a) → exactly a ≺ whole 1 → exactly a ≼ over (2 ^ 53 - 1) (2 ^ 53)
below_one (fin s m e) f t h =
    let u = value_in_units binary64 s m e f in
    let n = u.digits * 2 ^ u.zeros in
    let x = fin s m e in
    let is = value x s n (2 ^ 1074) u.value in
    let X = signed_proper s (over_proper n (2 ^ 1074) (pow_pos 1074)) in
    ≈-≼ X is (signed_below s u.digits u.zeros u.few (≼-≺-trans X (≈→≼ (≈-sym is)) h))
below_one nan f t h = elim t [ ]
below_one (inf _) f t h = elim t [ ]
