-- The rewrites of one f64 operation that keep every bit (docs/RULES.md, 2.3): the two sides of a sum and of a product, a minus moved between a
-- product and a factor, a factor of 1. And a sum of squares has no sign to lose. Assumes nothing.
use mathlib.Core.Path.{◌≡◌, refl, sym, ap, ◌∙◌, subst}
use mathlib.Core.Bool.{Bool, true, false, not, ◌&&◌, cond, beq, false≢true}
use Prim.Native.Nat.{ℕ, zero, suc, ◌+◌, ◌-◌, ◌*◌, ◌^◌, ◌<◌}
use native.Mathlib.Nat.{add_comm, mul_comm, mul_right_comm, one-mul, lt_of_lt_of_le, lt_of_mul-lt-mul_right, mul-lt-mul_of_pos_right, le_of_eq}
use native.Mathlib.Omega.{arith}
use borrow.Author.Tests.{ltb-true, ltb-false}
use lib.IntN.{ℤ, pos}
use lib.Dec.{T, ltb, eqb}
use lib.Pow.{pow-add, pow_pos}
use lib.Ieee.{Float, nan, inf, fin, binary64, prec, emax, low, up, down, unlike, odd, units, round, neg, sum, add, mul, fits, of_bits}
use lib.Ieee.Exact.{round_exact}
use lib.Ieee.Fits.{down_pos, round-fits, round_is}
use lib.Ieee.Order.{drop, kept}
use lib.Ieee.Scale.{overflow}
use Rattle.exact.specs.F64.{f64, minus, magnitude, ◌⊕◌, ◌⊗◌}
use Rattle.exact.proofs.Laws.{rounding_turned, value_unique, value_in_units}
use Rattle.exact.proofs.Pattern.{in_range}

-- ---- the two sides of a sum

like_signs : (s t : Bool) → beq s t ≡ true → s ≡ t
like_signs true true e = refl
like_signs true false e = sym e
like_signs false true e = e
like_signs false false e = refl

signs_swapped : (s t : Bool) → beq s t ≡ beq t s
signs_swapped true true = refl
signs_swapped true false = refl
signs_swapped false true = refl
signs_swapped false false = refl

and_true : (s : Bool) → (s && true) ≡ s
and_true true = refl
and_true false = refl

and_false : (s : Bool) → (s && false) ≡ false
and_false true = refl
and_false false = refl

module _ (s t : Bool) (a b c : ℕ) where
  -- of unlike signs: the larger size less the smaller one, with its sign; of equal sizes +0
  by_size : (p q : Bool) → ltb a b ≡ p → ltb b a ≡ q
      → cond p (round binary64 t (b - a) c) (round binary64 (s && q) (a - b) c) ≡ cond q (round binary64 s (a - b) c) (round binary64 (t && p) (b - a) c)
  by_size true true g h = let l = ltb-true a b g in let m = ltb-true b a h in absurd (omega arith)
  by_size true false g h = rw (and_true t)
  by_size false true g h = rw (and_true s)
  by_size false false g h =
      let l = ltb-false a b g in
      let m = ltb-false b a h in
      let e : a - b ≡ b - a = omega arith in
      rw (and_false s, and_false t, e)

  by_sign : (p : Bool) → beq s t ≡ p
      → cond p (round binary64 s (a + b) c) (cond (ltb a b) (round binary64 t (b - a) c) (round binary64 (s && ltb b a) (a - b) c))
      ≡ cond p (round binary64 t (b + a) c) (cond (ltb b a) (round binary64 s (a - b) c) (round binary64 (t && ltb a b) (b - a) c))
  by_sign true e = rw (like_signs s t e, add_comm a b)
  by_sign false e = by_size (ltb a b) (ltb b a) refl refl

  exact_sum_swapped : sum binary64 s a t b c ≡ sum binary64 t b s a c
  unfolding sum
  exact_sum_swapped = rw (← signs_swapped s t) (by_sign (beq s t) refl)

infinite_sum_swapped : (s t : Bool) → cond (beq s t) (inf s) nan ≡ cond (beq t s) (inf t) nan
infinite_sum_swapped true true = refl
infinite_sum_swapped true false = refl
infinite_sum_swapped false true = refl
infinite_sum_swapped false false = refl

-- The two sides of a sum may be swapped.
pub sum_swapped : (x y : Float) → x ⊕ y ≡ y ⊕ x
unfolding add
sum_swapped nan nan = refl
sum_swapped nan (inf t) = refl
sum_swapped nan (fin t n d) = refl
sum_swapped (inf s) nan = refl
sum_swapped (inf s) (inf t) = infinite_sum_swapped s t
sum_swapped (inf s) (fin t n d) = refl
sum_swapped (fin s m e) nan = refl
sum_swapped (fin s m e) (inf t) = refl
sum_swapped (fin s m e) (fin t n d) =
    exact_sum_swapped s t (m * up e * down d) (n * up d * down e) (down e * down d)
    ∙ ap (sum binary64 t (n * up d * down e) s (m * up e * down d)) (mul_comm (down e) (down d))

-- ---- the two sides of a product

unlike_swapped : (s t : Bool) → unlike s t ≡ unlike t s
unlike_swapped s t = ap not (signs_swapped s t)

-- The two sides of a product may be swapped.
pub product_swapped : (x y : Float) → x ⊗ y ≡ y ⊗ x
unfolding mul
product_swapped nan nan = refl
product_swapped nan (inf t) = refl
product_swapped nan (fin t n d) = refl
product_swapped (inf s) nan = refl
product_swapped (inf s) (inf t) = ap inf (unlike_swapped s t)
product_swapped (inf s) (fin t n d) = ap (λ (u : Bool). cond (eqb n 0) nan (inf u)) (unlike_swapped s t)
product_swapped (fin s m e) nan = refl
product_swapped (fin s m e) (inf t) = ap (λ (u : Bool). cond (eqb m 0) nan (inf u)) (unlike_swapped s t)
product_swapped (fin s m e) (fin t n d) = rw (unlike_swapped s t, mul_comm (m * up e) (n * up d), mul_comm (down e) (down d))

-- ---- a minus

turned_twice : (x : Float) → minus (minus x) ≡ x
unfolding neg
turned_twice nan = refl
turned_twice (inf true) = refl
turned_twice (inf false) = refl
turned_twice (fin true m e) = refl
turned_twice (fin false m e) = refl

rounded_turned : (s : Bool) (a c : ℕ) → round binary64 (not s) a c ≡ minus (round binary64 s a c)
rounded_turned true a c = sym (ap minus (rounding_turned binary64 a c) ∙ turned_twice (round binary64 false a c))
rounded_turned false a c = rounding_turned binary64 a c

unlike_turned : (s t : Bool) → unlike (not s) t ≡ not (unlike s t)
unlike_turned true true = refl
unlike_turned true false = refl
unlike_turned false true = refl
unlike_turned false false = refl

infinite_turned : (z s t : Bool) → cond z nan (inf (unlike (not s) t)) ≡ minus (cond z nan (inf (unlike s t)))
unfolding neg
infinite_turned true s t = refl
infinite_turned false s t = ap inf (unlike_turned s t)

-- A minus may stand on the first factor or on the product,
pub minus_first : (x y : Float) → minus x ⊗ y ≡ minus (x ⊗ y)
unfolding mul neg
minus_first nan y = refl
minus_first (inf s) nan = refl
minus_first (inf s) (inf t) = ap inf (unlike_turned s t)
minus_first (inf s) (fin t n d) = infinite_turned (eqb n 0) s t
minus_first (fin s m e) nan = refl
minus_first (fin s m e) (inf t) = infinite_turned (eqb m 0) s t
minus_first (fin s m e) (fin t n d) = rw (unlike_turned s t) (rounded_turned (unlike s t) (m * up e * (n * up d)) (down e * down d))

-- on the second one too.
pub minus_second : (x y : Float) → x ⊗ minus y ≡ minus (x ⊗ y)
minus_second x y = product_swapped x (minus y) ∙ minus_first y x ∙ ap minus (product_swapped y x)

-- ---- a factor of 1

unsigned : (s : Bool) (m : ℕ) (e : ℤ) → T (fits binary64 (fin s m e)) → T (fits binary64 (fin false m e))
unfolding fits
unsigned s zero e t = t
unsigned s (suc m) e t = t

-- an f64 rounded is itself
own : (s : Bool) (m : ℕ) (e : ℤ) → T (fits binary64 (fin s m e)) → round binary64 s (m * up e) (down e) ≡ fin s m e
own s m e t =
    let f = binary64 in
    let u = value_in_units f s m e t in
    let q = u.digits * 2 ^ u.zeros in
    let below : m * up e * 2 ^ low f < 2 ^ suc (emax f) * down e * 2 ^ low f = mul-lt-mul_of_pos_right (in_range f m e (unsigned s m e t)) (pow_pos (low f)) in
    let regroup : 2 ^ suc (emax f) * down e * 2 ^ low f ≡ 2 ^ (low f + suc (emax f)) * down e =
    mul_right_comm (2 ^ suc (emax f)) (down e) (2 ^ low f) ∙ ap (λ (x : ℕ). x * down e) (mul_comm (2 ^ suc (emax f)) (2 ^ low f) ∙ sym (pow-add 2 (low f) (suc (emax f)))) in
    let small : q < 2 ^ (low f + suc (emax f)) =
    lt_of_mul-lt-mul_right (down e) (lt_of_lt_of_le (subst (λ (x : ℕ). x < 2 ^ suc (emax f) * down e * 2 ^ low f) u.value.1 below) (le_of_eq regroup)) in
    value_unique f (round f s (m * up e) (down e)) (fin s m e) s (m * up e) (down e) (down_pos e) (round-fits f s (m * up e) (down e)) t
    (round_exact f s (m * up e) (down e) u.digits u.zeros (down_pos e) u.few small u.value.1) (refl, refl)

abbrev one : Float
one = f64 0x3ff0_0000_0000_0000

one_is : one ≡ fin false 1 (pos 0)
unfolding of_bits
one_is = refl

scaled : (x : Float) → T (fits binary64 x) → fin false 1 (pos 0) ⊗ x ≡ x
unfolding mul
scaled nan f = refl
scaled (inf true) f = refl
scaled (inf false) f = refl
scaled (fin true m e) f = simp one-mul (own true m e f)
scaled (fin false m e) f = simp one-mul (own false m e f)

-- A factor of 1 may be left out of an f64's product.
pub one_times : (x : Float) → T (fits binary64 x) → one ⊗ x ≡ x
one_times x f = ap (λ (z : Float). z ⊗ x) one_is ∙ scaled x f

-- ---- no sign to lose

unsigned_odd : (d q k l : ℕ) → magnitude (odd d false q k l) ≡ odd d false q k l
unfolding odd magnitude
unsigned_odd d zero k l = refl
unsigned_odd d (suc q) k l = refl

unsigned_units : (q k : ℕ) → magnitude (units binary64 false q k) ≡ units binary64 false q k
unfolding units magnitude
unsigned_units q k = go (ltb (q * 2 ^ k) (overflow binary64))
  where
    go : (b : Bool) → magnitude (cond b (odd (suc (prec binary64)) false q k (low binary64)) (inf false)) ≡ cond b (odd (suc (prec binary64)) false q k (low binary64)) (inf false)
    go true = unsigned_odd (suc (prec binary64)) q k (low binary64)
    go false = refl

unsigned_rounded : (a c : ℕ) → magnitude (round binary64 false a c) ≡ round binary64 false a c
unsigned_rounded a c =
    let r = round_is binary64 false a c in
    ap magnitude r ∙ unsigned_units (kept (prec binary64) (a * 2 ^ low binary64) c) (drop (prec binary64) (a * 2 ^ low binary64) c) ∙ sym r

square_unsigned : (x : Float) → magnitude (x ⊗ x) ≡ x ⊗ x
unfolding mul magnitude
square_unsigned nan = refl
square_unsigned (inf true) = refl
square_unsigned (inf false) = refl
square_unsigned (fin true m e) = unsigned_rounded (m * up e * (m * up e)) (down e * down e)
square_unsigned (fin false m e) = unsigned_rounded (m * up e * (m * up e)) (down e * down e)

sum_unsigned : (x y : Float) → magnitude x ≡ x → magnitude y ≡ y → magnitude (x ⊕ y) ≡ x ⊕ y
unfolding add sum magnitude
sum_unsigned nan y p q = refl
sum_unsigned (inf s) nan p q = refl
sum_unsigned (inf s) (inf t) p q = go (beq s t)
  where
    go : (b : Bool) → magnitude (cond b (inf s) nan) ≡ cond b (inf s) nan
    go true = p
    go false = refl
sum_unsigned (inf s) (fin t n d) p q = p
sum_unsigned (fin s m e) nan p q = refl
sum_unsigned (fin s m e) (inf t) p q = q
sum_unsigned (fin true m e) (fin t n d) p q = let z : false ≡ true = cc in absurd (false≢true z)
sum_unsigned (fin false m e) (fin true n d) p q = let z : false ≡ true = cc in absurd (false≢true z)
sum_unsigned (fin false m e) (fin false n d) p q = unsigned_rounded (m * up e * down d + n * up d * down e) (down e * down d)

-- A sum of squares is its own size: NaN, +infinity, or a number that isn't negative, +0 among them.
pub squares_unsigned : (x y : Float) → magnitude (x ⊗ x ⊕ y ⊗ y) ≡ x ⊗ x ⊕ y ⊗ y
squares_unsigned x y = sum_unsigned (x ⊗ x) (y ⊗ y) (square_unsigned x) (square_unsigned y)
