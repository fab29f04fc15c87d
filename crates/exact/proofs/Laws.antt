-- What the crates above may hold of rounding, stated over the library's `round`: the ground of every bound. Assumes nothing.
use mathlib.Core.Path.{◌≡◌, refl, sym, ap, ◌∙◌, subst}
use mathlib.Core.Logic.{◌↔◌}
use mathlib.Core.Bool.{Bool, true, false, not, ◌&&◌, ◌||◌, cond}
use Prim.Native.Nat.{ℕ, zero, suc, ◌+◌, ◌*◌, ◌^◌, ◌≤◌, ◌<◌}
use native.Mathlib.Nat.{le_of_suc-le-suc, lt_of_not-le, add_comm}
use lib.IntN.{ℤ}
use lib.Dec.{T, ltb, eqb, eqb→eq}
use lib.Ieee.{Float, nan, inf, fin, Format, prec, low, up, down, below, level, odd, units, round, neg, le, fits}
use lib.Ieee.Fits.{and_i, and_l, and_r, eq→eqb, round_is}
use lib.Ieee.Exact.{HasValue}
use lib.Ieee.Order.{drop, kept, round_mono}
use lib.Ieee.Scale.{finite, overflow}
use Rattle.exact.specs.Rounding.{Rounded, limit}
use Rattle.exact.proofs.Rounding.{rounded}
use Rattle.exact.proofs.Infinite.{stays_finite, goes_infinite}
use Rattle.exact.proofs.Pattern.{unique, InUnits, in_units, itself}
use Rattle.exact.specs.Determined.{Determined}
use Rattle.exact.proofs.mark.Reads as mark-contract
use Rattle.exact.proofs.is_finite.Reads as is-finite-contract
use Rattle.exact.proofs.magnitude.Reads as magnitude-contract
use Rattle.exact.proofs.is_zero.Reads as is-zero-contract
use Rattle.exact.proofs.to_bits.Reads as to-bits-contract
use Rattle.exact.proofs.to_bits32.Reads as to-bits32-contract
use Rattle.exact.proofs.of_bits.Reads as of-bits-contract

-- A rounding goes at most half a unit in the last place, in either format, for subnormal results too and up to the step to infinity.
pub rounding_near : (f : Format) (s : Bool) (a c : ℕ) → 0 < c → Rounded f s a c
rounding_near f s a c C = rounded f s a c C

-- A fraction rounds to an infinity exactly from the limit on, half a unit in the last place above the largest number.
pub rounding_infinite : (f : Format) (s : Bool) (a c : ℕ) → 0 < c → (round f s a c ≡ inf s) ↔ (limit f * c ≤ a)
rounding_infinite f s a c C = (
  λ (h : round f s a c ≡ inf s). le_of_suc-le-suc (lt_of_not-le (λ (l : a < limit f * c). subst (λ (x : Float). T (finite x)) h (stays_finite f s a c C l))),
  goes_infinite f s a c C,
)

-- Below the limit it rounds to a number.
pub rounding_finite : (f : Format) (s : Bool) (a c : ℕ) → 0 < c → a < limit f * c → T (finite (round f s a c))
rounding_finite f s a c C h = stays_finite f s a c C h

-- Rounding is monotone: of two fractions the larger rounds to a value that is no smaller.
pub rounding_monotone : (f : Format) (a b c d : ℕ) → 0 < b → 0 < d → a * d ≤ c * b → T (le (round f false a b) (round f false c d))
rounding_monotone f a b c d B D h = round_mono f a b c d B D h

-- ---- and of two negative ones the one that is further down

odd_turned : (d q k l : ℕ) → odd d true q k l ≡ neg (odd d false q k l)
unfolding odd neg
odd_turned d zero k l = refl
odd_turned d (suc q) k l = refl

units_turned : (f : Format) (q k : ℕ) → units f true q k ≡ neg (units f false q k)
unfolding units neg
units_turned f q k = go (ltb (q * 2 ^ k) (overflow f))
  where
    go : (b : Bool) → cond b (odd (suc (prec f)) true q k (low f)) (inf true) ≡ neg (cond b (odd (suc (prec f)) false q k (low f)) (inf false))
    go true = odd_turned (suc (prec f)) q k (low f)
    go false = refl

-- The sign makes no other difference: a negative fraction rounds as its opposite does.
pub rounding_turned : (f : Format) (a c : ℕ) → round f true a c ≡ neg (round f false a c)
rounding_turned f a c =
    round_is f true a c ∙ units_turned f (kept (prec f) (a * 2 ^ low f) c) (drop (prec f) (a * 2 ^ low f) c) ∙ ap neg (sym (round_is f false a c))

same_back : (a b : ℕ) → T (eqb a b) → T (eqb b a)
same_back a b t = eq→eqb (sym (eqb→eq a b t))

either_way : (p q q' : Bool) → (T q → T q') → T (p || q) → T (p || q')
either_way true q q' f t = tt
either_way false q q' f t = f t

equal_back : (a b : ℕ) → T (eqb a b && true) → T (eqb b a && true)
equal_back a b h = and_i (eqb b a) true (same_back a b (and_l (eqb a b) true h)) tt

zeros_back : (a b : ℕ) → T (eqb a b && eqb a 0) → T (eqb b a && eqb b 0)
zeros_back a b h =
    let e = and_l (eqb a b) (eqb a 0) h in
    and_i (eqb b a) (eqb b 0) (same_back a b e) (subst (λ (z : ℕ). T (eqb z 0)) (eqb→eq a b e) (and_r (eqb a b) (eqb a 0) h))

-- in sizes: ±a ≤ ±b, and the other way round with the signs turned
turned_sizes : (s t : Bool) (a b : ℕ) → T (below s a t b || level s a t b) → T (below (not t) b (not s) a || level (not t) b (not s) a)
turned_sizes false false a b h = either_way (ltb a b) (eqb a b && true) (eqb b a && true) (equal_back a b) h
turned_sizes false true a b h = zeros_back a b h
turned_sizes true false a b h =
    subst (λ (z : ℕ). T (ltb 0 z || (eqb b a && eqb b 0))) (add_comm a b)
    (either_way (ltb 0 (a + b)) (eqb a b && eqb a 0) (eqb b a && eqb b 0) (zeros_back a b) h)
turned_sizes true true a b h = either_way (ltb b a) (eqb a b && true) (eqb b a && true) (equal_back a b) h

-- Turning both signs turns the order.
pub order_turned : (x y : Float) → T (le x y) → T (le (neg y) (neg x))
unfolding le neg
order_turned nan y h = absurd h
order_turned (inf true) nan h = absurd h
order_turned (inf false) nan h = absurd h
order_turned (inf true) (inf true) h = tt
order_turned (inf true) (inf false) h = tt
order_turned (inf false) (inf true) h = absurd h
order_turned (inf false) (inf false) h = tt
order_turned (inf true) (fin t n d) h = tt
order_turned (inf false) (fin t n d) h = absurd h
order_turned (fin s m e) nan h = absurd h
order_turned (fin s m e) (inf true) h = absurd h
order_turned (fin s m e) (inf false) h = tt
order_turned (fin s m e) (fin t n d) h = turned_sizes s t (m * up e * down d) (n * up d * down e) h

-- Of two negative fractions the one that is further down rounds to a value that is no larger.
pub rounding_monotone_below : (f : Format) (a b c d : ℕ) → 0 < b → 0 < d → a * d ≤ c * b → T (le (round f true c d) (round f true a b))
rounding_monotone_below f a b c d B D h =
    rw (rounding_turned f c d, rounding_turned f a b) (order_turned (round f false a b) (round f false c d) (round_mono f a b c d B D h))

-- Two values of a format with one sign and one size are one.
pub value_unique : (f : Format) (x y : Float) (s : Bool) (a c : ℕ) → 0 < c → T (fits f x) → T (fits f y) → HasValue x s a c → HasValue y s a c → x ≡ y
value_unique = unique

-- A value of a format is rounded to itself.
pub rounding_held : (f : Format) (s : Bool) (m : ℕ) (e : ℤ) → T (fits f (fin s m e)) → round f s (m * up e) (down e) ≡ fin s m e
rounding_held = itself

-- A finite value of a format is a whole number of its smallest value, 2 ^ -low: of at most prec binary digits, with zeros after them.
pub value_in_units : (f : Format) (s : Bool) (m : ℕ) (e : ℤ) → T (fits f (fin s m e)) → InUnits f (fin s m e) s
value_in_units = in_units

-- Any two answers to one call that the contract of `is_finite` permits are equal; and so for the other functions.
pub is_finite_determined : Determined is-finite-contract.Post
is_finite_determined κ a s s' r r' p q = p ∙ sym q

pub mark_determined : Determined mark-contract.Post
mark_determined κ a s s' r r' p q = p ∙ sym q

pub magnitude_determined : Determined magnitude-contract.Post
magnitude_determined κ a s s' r r' p q = p ∙ sym q

pub is_zero_determined : Determined is-zero-contract.Post
is_zero_determined κ a s s' r r' p q = p ∙ sym q

pub to_bits_determined : Determined to-bits-contract.Post
to_bits_determined κ a s s' r r' p q = p ∙ sym q

pub to_bits32_determined : Determined to-bits32-contract.Post
to_bits32_determined κ a s s' r r' p q = p ∙ sym q

pub of_bits_determined : Determined of-bits-contract.Post
of_bits_determined κ a s s' r r' p q = p ∙ sym q
