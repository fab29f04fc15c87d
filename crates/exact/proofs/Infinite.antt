-- From which size on a fraction a / c rounds to an infinity: from `limit` on (`goes_infinite`), and not below it (`stays_finite`). So two f32s have a finite difference (`singles_differ`). Assumes nothing.
use mathlib.Core.Path.{◌≡◌, refl, sym, ap, ◌∙◌, subst}
use mathlib.Core.Logic.{◌⊎◌, inl, inr}
use mathlib.Core.Bool.{Bool, true, false, not, ◌&&◌, cond, beq}
use Prim.Native.Nat.{ℕ, suc, ◌+◌, ◌-◌, ◌*◌, ◌^◌, ◌≤◌, ◌<◌}
use native.Mathlib.Nat.{le_of_eq, le_of_suc-le-suc, lt_of_lt_of_le, lt_of_le_of_lt, lt_of_not-le, mul-one, mul_comm, mul_assoc, mul_right_comm, add-mul, mul-le-mul_left, mul-le-mul_right, mul-lt-mul_of_pos_right, lt_of_mul-lt-mul_right, mul-pos, zero-lt-suc}
use native.Mathlib.Omega.{arith}
use lib.IntN.{ℤ}
use lib.Dec.{T, ltb, lit≤}
use lib.Pow.{pow_mono, pow_pos}
use lib.Ieee.{Float, nan, inf, fin, Format, binary32, binary64, prec, emax, low, up, down, round, sum, add, sub, neg, le, fits}
use lib.Ieee.Fits.{two, round_is, down_pos}
use lib.Ieee.Exact.{HasValue}
use lib.Ieee.Order.{drop, kept, round_mono}
use lib.Ieee.Scale.{grid, overflow, finite, round_val}
use Rattle.exact.specs.F64.{◌⊖◌}
use Rattle.exact.specs.Rounding.{limit}
use Rattle.exact.proofs.Pattern.{exponent_lt, in_range, unsigned}
use Rattle.exact.proofs.Rounding.{rounded, past}

-- ---- the limit, in units: below `overflow`, by half of the last place of the largest numbers
abbrev widest : Format → ℕ
widest f = low f + suc (emax f) - prec f

limit_le : (f : Format) → limit f * 2 ^ low f ≤ overflow f
limit_le binary32 = lit≤ tt
limit_le binary64 = lit≤ tt

limit_half : (f : Format) → 2 * (limit f * 2 ^ low f) + 2 ^ widest f ≡ 2 * overflow f
limit_half binary32 = refl
limit_half binary64 = refl

at_limit : (f : Format) → round f false (limit f) 1 ≡ inf false
unfolding round
at_limit binary32 = refl
at_limit binary64 = refl

-- ---- below it
in_units : (f : Format) (a c : ℕ) → a < limit f * c → a * 2 ^ low f < limit f * 2 ^ low f * c
in_units f a c h = lt_of_lt_of_le (mul-lt-mul_of_pos_right h (pow_pos (low f))) (le_of_eq (mul_right_comm (limit f) c (2 ^ low f)))

last_le : (f : Format) (a c l : ℕ) → a < limit f * c → (l ≡ 0) ⊎ (2 ^ (prec f - 1 + l) * c ≤ a * 2 ^ low f) → l ≤ widest f
last_le f a c l h (inl z) = none l (widest f) z
  where
    none : (l w : ℕ) → l ≡ 0 → l ≤ w
    none l w z = omega arith
last_le f a c l h (inr p) =
    back (prec f) l (low f + suc (emax f)) (two f)
    (exponent_lt (prec f - 1 + l) (low f + suc (emax f)) (lt_of_mul-lt-mul_right c (lt_of_le_of_lt p (lt_of_lt_of_le (in_units f a c h) (mul-le-mul_right c (limit_le f))))))
  where
    back : (p l w : ℕ) → 2 ≤ p → p - 1 + l < w → l ≤ w - p
    back p l w t h = omega arith

-- twice the limit and one unit in the last place are twice `overflow`
doubled : (p v w c : ℕ) → 2 * p + v ≡ 2 * w → 2 * (p * c) + c * v ≡ 2 * (w * c)
doubled p v w c e =
    ap (λ (x : ℕ). x + c * v) (sym (mul_assoc 2 p c))
    ∙ ap (λ (x : ℕ). 2 * p * c + x) (mul_comm c v)
    ∙ sym (add-mul (2 * p) v c)
    ∙ ap (λ (x : ℕ). x * c) e
    ∙ mul_assoc 2 w c

under : (x y u p v w : ℕ) → 2 * x ≤ 2 * y + u → y < p → u ≤ v → 2 * p + v ≡ 2 * w → x < w
under x y u p v w n h l e = omega arith

pub has_value : (x : Float) (s : Bool) (a c : ℕ) → HasValue x s a c → T (finite x)
has_value nan s a c h = h
has_value (inf t) s a c h = h
has_value (fin t m e) s a c h = tt

pub stays_finite : (f : Format) (s : Bool) (a c : ℕ) → 0 < c → a < limit f * c → T (finite (round f s a c))
stays_finite f s a c C h =
    let r = rounded f s a c C in
    let l : c * 2 ^ r.last ≤ c * 2 ^ widest f = mul-le-mul_left c (pow_mono (last_le f a c r.last h r.place)) in
    has_value (round f s a c) s r.steps (2 ^ low f)
    (r.under
    (lt_of_mul-lt-mul_right c
    (under (r.steps * c) (a * 2 ^ low f) (c * 2 ^ r.last) (limit f * 2 ^ low f * c) (c * 2 ^ widest f) (overflow f * c) r.not_above (in_units f a c h) l
    (doubled (limit f * 2 ^ low f) (2 ^ widest f) (overflow f) c (limit_half f)))))

-- ---- from it on: it rounds to the infinity itself, and rounding keeps the order
only_infinity : (x : Float) → T (le (inf false) x) → x ≡ inf false
unfolding le
only_infinity nan t = absurd t
only_infinity (inf true) t = absurd t
only_infinity (inf false) t = refl
only_infinity (fin s m e) t = absurd t

-- which size it is rounded to doesn't turn on the sign
with_sign : (f : Format) (s : Bool) (a c : ℕ) → round f false a c ≡ inf false → round f s a c ≡ inf s
with_sign f s a c e =
    round_is f s a c
    ∙ past f s (kept (prec f) (a * 2 ^ low f) c) (drop (prec f) (a * 2 ^ low f) c)
    (not_under (grid f a c) (λ (h : grid f a c < overflow f). subst (λ (x : Float). HasValue x false (grid f a c) (2 ^ low f)) e (round_val f a c h)))
  where
    not_under : (g : ℕ) → (g < overflow f → ⊥) → overflow f ≤ g
    not_under g n = le_of_suc-le-suc (lt_of_not-le n)

pub goes_infinite : (f : Format) (s : Bool) (a c : ℕ) → 0 < c → limit f * c ≤ a → round f s a c ≡ inf s
goes_infinite f s a c C h =
    with_sign f s a c
    (only_infinity (round f false a c)
    (subst (λ (x : Float). T (le x (round f false a c))) (at_limit f)
    (round_mono f (limit f) 1 a c (zero-lt-suc 0) C (subst (λ (x : ℕ). limit f * c ≤ x) (sym (mul-one a)) h))))

-- ---- a difference of two f32s is far below it, and so a number

-- of two sizes below p, neither sum nor difference reaches 2 * p
both_under : (a b p c : ℕ) → a < p * c → b < p * c → a + b < (p + p) * c
both_under a b p c h k = omega arith

less_under : (a b p c : ℕ) → a < p * c → a - b < (p + p) * c
less_under a b p c h = omega arith

room : (s : Bool) (x c : ℕ) → 0 < c → x < (2 ^ 128 + 2 ^ 128) * c → T (finite (round binary64 s x c))
room s x c C h = stays_finite binary64 s x c C (lt_of_lt_of_le h (mul-le-mul_right c (lit≤ tt)))

small_sum : (s t : Bool) (a b c : ℕ) → 0 < c → a < 2 ^ 128 * c → b < 2 ^ 128 * c → T (finite (sum binary64 s a t b c))
unfolding sum
small_sum s t a b c C h k =
    either (beq s t) (round binary64 s (a + b) c) (cond (ltb a b) (round binary64 t (b - a) c) (round binary64 (s && ltb b a) (a - b) c))
    (room s (a + b) c C (both_under a b (2 ^ 128) c h k))
    (either (ltb a b) (round binary64 t (b - a) c) (round binary64 (s && ltb b a) (a - b) c) (room t (b - a) c C (less_under b a (2 ^ 128) c k)) (room (s && ltb b a) (a - b) c C (less_under a b (2 ^ 128) c h)))
  where
    either : (b : Bool) (x y : Float) → T (finite x) → T (finite y) → T (finite (cond b x y))
    either true x y p q = p
    either false x y p q = q

-- the size of an f32, over a common denominator
single_under : (s : Bool) (m : ℕ) (e : ℤ) (d : ℕ) → T (fits binary32 (fin s m e)) → 0 < d → m * up e * d < 2 ^ 128 * (down e * d)
single_under s m e d f D = subst (λ (x : ℕ). m * up e * d < x) (mul_assoc (2 ^ 128) (down e) d) (mul-lt-mul_of_pos_right (in_range binary32 m e (unsigned binary32 s m e f)) D)

pub singles_differ : (x y : Float) → T (fits binary32 x) → T (fits binary32 y) → T (finite x) → T (finite y) → T (finite (x ⊖ y))
unfolding sub add neg
singles_differ (fin s m e) (fin t n d) f g p q =
    small_sum s (not t) (m * up e * down d) (n * up d * down e) (down e * down d) (mul-pos (down_pos e) (down_pos d)) (single_under s m e (down d) f (down_pos d))
    (subst (λ (c : ℕ). n * up d * down e < 2 ^ 128 * c) (mul_comm (down d) (down e)) (single_under t n d (down e) g (down_pos e)))
singles_differ nan y f g p q = elim p [ ]
singles_differ (inf _) y f g p q = elim p [ ]
singles_differ (fin s m e) nan f g p q = elim q [ ]
singles_differ (fin s m e) (inf _) f g p q = elim q [ ]
