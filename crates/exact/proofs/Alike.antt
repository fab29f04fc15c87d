-- "Equal, or both zeros" (specs/Alike.antt) is an equivalence, and is kept by sums, differences, products, quotients by what is no zero, the sign turned, and by every test.
-- Not by a quotient by a zero: 1/+0 and 1/-0 are two infinities. Assumes nothing.
use mathlib.Core.Path.{◌≡◌, refl, sym, ap, ◌∙◌, subst}
use mathlib.Core.Bool.{Bool, true, false, not, ◌&&◌, ◌||◌, true≢false}
use mathlib.Core.List.{List, [], ◌∷◌}
use Prim.Native.Nat.{ℕ, zero, suc, ◌+◌, ◌*◌, ◌<◌}
use native.Mathlib.Nat.{zero-add, add_comm, mul-pos}
use borrow.Author.Tests.{lt-ltb}
use lib.IntN.{ℤ, pos}
use lib.Dec.{T, ltb, eqb, eqb-suc-zero}
use lib.Ieee.{Float, nan, inf, fin, binary64, up, down, sub, mul, div, neg, lt, eq, le, below, fits}
use lib.Ieee.Fits.{down_pos}
use lib.Ieee.Scale.{finite}
use Rattle.exact.specs.F64.{minus, ◌⊕◌, ◌⊖◌, ◌⊗◌, ◌⊘◌, is_zero}
use Rattle.exact.specs.Alike.{◌≐◌, same, both_zero, AllAlike}
use Rattle.exact.proofs.Tests.{size_pos, equals_zero, zero_equals}
use Rattle.exact.proofs.Zeros.{zero_elim, zero_rounds, nought, not_under, zero_plus_zero, any_zero_plus, plus_any_zero, zero_plus_itself, itself_plus_zero, minus_is_zero, zero_minus, zero_times, times_zero, zero_over_other}

-- ---- an equivalence

pub ≐-refl : {x : Float} → x ≐ x
≐-refl = same refl

-- the same with the number written
pub its : (x : Float) → x ≐ x
its x = same refl

pub ≐-sym : {x y : Float} → x ≐ y → y ≐ x
≐-sym (same p) = same (sym p)
≐-sym (both_zero p q) = both_zero q p

pub ≐-trans : {x y z : Float} → x ≐ y → y ≐ z → x ≐ z
≐-trans (same p) (same q) = same (p ∙ q)
≐-trans (same p) (both_zero q r) = both_zero (ap is_zero p ∙ q) r
≐-trans (both_zero p q) (same r) = both_zero p (ap is_zero (sym r) ∙ q)
≐-trans (both_zero p q) (both_zero r s) = both_zero p s

pub all_alike : (xs : List Float) → AllAlike xs xs
all_alike [] = tt
all_alike (x ∷ xs) = (≐-refl, all_alike xs)

-- what is no zero is alike only to itself
pub ≐-other : {x y : Float} → is_zero y ≡ false → x ≐ y → x ≡ y
≐-other n (same p) = p
≐-other n (both_zero p q) = absurd (true≢false (sym q ∙ n))

pub ≐-isZero : {x y : Float} → x ≐ y → is_zero x ≡ is_zero y
≐-isZero (same p) = ap is_zero p
≐-isZero (both_zero p q) = p ∙ sym q

pub ≐-finite : {x y : Float} → x ≐ y → finite x ≡ finite y
≐-finite (same p) = ap (λ (x : Float). finite x) p
≐-finite {x} {y} (both_zero p q) = so x p ∙ sym (so y q)
  where
    so : (x : Float) → is_zero x ≡ true → finite x ≡ true
    so = zero_elim (λ (x : Float). finite x ≡ true) (λ s e. refl)

pub finite_too : {x y : Float} → x ≐ y → T (finite x) → T (finite y)
finite_too p t = subst T (≐-finite p) t

-- What relates every number to itself, and any zero to any other, relates all that are alike.
pub ≐-elim : (P : Float → Float → Type 0) → ((x : Float) → P x x) → ((s t : Bool) (e d : ℤ) → P (fin s zero e) (fin t zero d)) → {x y : Float} → x ≐ y → P x y
≐-elim P r z {x} (same p) = subst (P x) p (r x)
≐-elim P r z {x} {y} (both_zero p q) = zero_elim (λ (x : Float). P x y) (λ s e. zero_elim (P (fin s zero e)) (λ t d. z s t e d) y q) x p

-- ---- sums. Where not both sides are zeros, they are equal

left_same : {x x' : Float} (y : Float) → is_zero y ≡ false → x ≐ x' → x ⊕ y ≡ x' ⊕ y
left_same y n = ≐-elim (λ (x x' : Float). x ⊕ y ≡ x' ⊕ y) (λ x. refl) (λ s t e d. any_zero_plus s t e d y n)

right_same : (x : Float) {y y' : Float} → is_zero x ≡ false → y ≐ y' → x ⊕ y ≡ x ⊕ y'
right_same x n = ≐-elim (λ (y y' : Float). x ⊕ y ≡ x ⊕ y') (λ y. refl) (λ s t e d. plus_any_zero s t e d x n)

pub sum_same : {x x' y y' : Float} → (is_zero x && is_zero y) ≡ false → x ≐ x' → y ≐ y' → x ⊕ y ≡ x' ⊕ y'
sum_same {x} {x'} {y} {y'} n p q = go (is_zero x) refl (is_zero y) refl n
  where
    go : (b : Bool) → is_zero x ≡ b → (c : Bool) → is_zero y ≡ c → (b && c) ≡ false → x ⊕ y ≡ x' ⊕ y'
    go true e true f n = absurd (true≢false n)
    go true e false f n = left_same y f p ∙ ap (λ (z : Float). x' ⊕ z) (sym (≐-other f (≐-sym q)))
    go false e c f n = right_same x e q ∙ ap (λ (z : Float). z ⊕ y') (sym (≐-other e (≐-sym p)))

infixl 60 ◌⟨⊕⟩◌ ◌⟨⊖⟩◌
infixl 70 ◌⟨⊗⟩◌
pub ◌⟨⊕⟩◌ : {x x' y y' : Float} → x ≐ x' → y ≐ y' → x ⊕ y ≐ x' ⊕ y'
◌⟨⊕⟩◌ {x} {x'} {y} {y'} p q = go (is_zero x) refl (is_zero y) refl
  where
    go : (b : Bool) → is_zero x ≡ b → (c : Bool) → is_zero y ≡ c → x ⊕ y ≐ x' ⊕ y'
    go true e true f = both_zero (zero_plus_zero x y e f) (zero_plus_zero x' y' (sym (≐-isZero p) ∙ e) (sym (≐-isZero q) ∙ f))
    go true e false f = same (sum_same (rw (e, f) refl) p q)
    go false e c f = same (sum_same (rw e refl) p q)

-- ---- the sign turned, and differences

pub ≐-minus : {x y : Float} → x ≐ y → minus x ≐ minus y
≐-minus (same p) = same (ap neg p)
≐-minus {x} {y} (both_zero p q) = both_zero (zero_minus x p) (zero_minus y q)

pub ◌⟨⊖⟩◌ : {x x' y y' : Float} → x ≐ x' → y ≐ y' → x ⊖ y ≐ x' ⊖ y'
unfolding sub
p ⟨⊖⟩ q = p ⟨⊕⟩ ≐-minus q

pub difference_same : {x x' y y' : Float} → (is_zero x && is_zero y) ≡ false → x ≐ x' → y ≐ y' → x ⊖ y ≡ x' ⊖ y'
unfolding sub
difference_same {x} {x'} {y} {y'} n p q = sum_same (ap (λ (b : Bool). is_zero x && b) (minus_is_zero y) ∙ n) p (≐-minus q)

-- ---- products

zeros_times : (y : Float) (s t : Bool) (e d : ℤ) → fin s zero e ⊗ y ≐ fin t zero d ⊗ y
zeros_times nan s t e d = unfold mul in same refl
zeros_times (inf b) s t e d = unfold mul in same refl
zeros_times (fin b n k) s t e d = unfold is_zero in both_zero (zero_times (fin s zero e) (fin b n k) refl tt) (zero_times (fin t zero d) (fin b n k) refl tt)

times_zeros : (y : Float) (s t : Bool) (e d : ℤ) → y ⊗ fin s zero e ≐ y ⊗ fin t zero d
times_zeros nan s t e d = unfold mul in same refl
times_zeros (inf b) s t e d = unfold mul in same refl
times_zeros (fin b n k) s t e d = unfold is_zero in both_zero (times_zero (fin b n k) (fin s zero e) tt refl) (times_zero (fin b n k) (fin t zero d) tt refl)

pub ◌⟨⊗⟩◌ : {x x' y y' : Float} → x ≐ x' → y ≐ y' → x ⊗ y ≐ x' ⊗ y'
◌⟨⊗⟩◌ {x} {x'} {y} {y'} p q =
    ≐-trans (≐-elim (λ (x x' : Float). x ⊗ y ≐ x' ⊗ y) (λ x. ≐-refl) (zeros_times y) p) (≐-elim (λ (y y' : Float). x' ⊗ y ≐ x' ⊗ y') (λ y. ≐-refl) (times_zeros x') q)

-- a square has no sign, so that it is equal
zero_square : (s : Bool) (e : ℤ) → fin s zero e ⊗ fin s zero e ≡ fin false 0 (pos 0)
unfolding mul
zero_square true e = zero_rounds binary64 false (0 * up e * (0 * up e)) (down e * down e) (nought (up e) (0 * up e)) (mul-pos (down_pos e) (down_pos e))
zero_square false e = zero_rounds binary64 false (0 * up e * (0 * up e)) (down e * down e) (nought (up e) (0 * up e)) (mul-pos (down_pos e) (down_pos e))

pub square_same : {x y : Float} → x ≐ y → x ⊗ x ≡ y ⊗ y
square_same = ≐-elim (λ (x y : Float). x ⊗ x ≡ y ⊗ y) (λ x. refl) (λ s t e d. zero_square s e ∙ sym (zero_square t d))

-- ---- quotients, by what is no zero

zeros_over : (y : Float) → is_zero y ≡ false → (s t : Bool) (e d : ℤ) → fin s zero e ⊘ y ≐ fin t zero d ⊘ y
zeros_over nan n s t e d = unfold div in same refl
zeros_over (inf b) n s t e d = unfold div is_zero in both_zero refl refl
zeros_over (fin b m k) n s t e d = unfold is_zero in both_zero (zero_over_other (fin s zero e) (fin b m k) refl tt n) (zero_over_other (fin t zero d) (fin b m k) refl tt n)

pub ≐-over : {x x' y y' : Float} → is_zero y' ≡ false → x ≐ x' → y ≐ y' → x ⊘ y ≐ x' ⊘ y'
≐-over {x} {x'} {y} {y'} n p q = ≐-trans (same (ap (λ (z : Float). x ⊘ z) (≐-other n q))) (≐-elim (λ (x x' : Float). x ⊘ y' ≐ x' ⊘ y') (λ x. ≐-refl) (zeros_over y' n) p)

-- and by one number, a zero among them: what is no zero is equal, and zeros over a zero are NaN
pub over_kept : {x y : Float} (k : Float) → x ≐ y → x ⊘ k ≐ y ⊘ k
over_kept {x} {y} k p = go (is_zero k) refl
  where
    go : (b : Bool) → is_zero k ≡ b → x ⊘ k ≐ y ⊘ k
    go false n = ≐-over n p (its k)
    go true z = zero_elim (λ (k : Float). x ⊘ k ≐ y ⊘ k) (λ s e. ≐-elim (λ (x y : Float). x ⊘ fin s zero e ≐ y ⊘ fin s zero e) (λ x. its (x ⊘ fin s zero e)) (λ t u d c. unfold div in same refl) p) k z

-- ---- a zero more or less

pub zero_plus : (z x : Float) → is_zero z ≡ true → T (fits binary64 x) → z ⊕ x ≐ x
zero_plus z x p f = go (is_zero x) refl
  where
    go : (b : Bool) → is_zero x ≡ b → z ⊕ x ≐ x
    go true n = both_zero (zero_plus_zero z x p n) n
    go false n = same (zero_plus_itself z x p n f)

pub plus_zero : (x z : Float) → T (fits binary64 x) → is_zero z ≡ true → x ⊕ z ≐ x
plus_zero x z f p = go (is_zero x) refl
  where
    go : (b : Bool) → is_zero x ≡ b → x ⊕ z ≐ x
    go true n = both_zero (zero_plus_zero x z n p) n
    go false n = same (itself_plus_zero x z n p f)

-- ---- tests

-- a zero is below what is above it, and above what is below it
zero_below : (s : Bool) (e : ℤ) (t : Bool) (n : ℕ) (d : ℤ) → lt (fin s zero e) (fin t n d) ≡ (not t && not (eqb n 0))
unfolding lt
zero_below true e true n d = rw (nought (up e) (down d)) (not_under (n * up d * down e))
zero_below false e true n d = refl
zero_below s e false zero d = rw (nought (up e) (down d), nought (up d) (down e)) (go s)
  where
    go : (s : Bool) → below s 0 false 0 ≡ false
    go true = refl
    go false = refl
zero_below s e false (suc n) d = rw (nought (up e) (down d), eqb-suc-zero n) (go s)
  where
    go : (s : Bool) → below s 0 false (suc n * up d * down e) ≡ true
    go true = lt-ltb 0 (0 + suc n * up d * down e) (subst (λ (x : ℕ). 0 < x) (sym (zero-add (suc n * up d * down e))) (size_pos n d e))
    go false = lt-ltb 0 (suc n * up d * down e) (size_pos n d e)

left_lt : (y : Float) (s t : Bool) (e d : ℤ) → lt (fin s zero e) y ≡ lt (fin t zero d) y
left_lt nan s t e d = unfold lt in refl
left_lt (inf b) s t e d = unfold lt in refl
left_lt (fin b n k) s t e d = zero_below s e b n k ∙ sym (zero_below t d b n k)

-- on the right: with both signs turned it stands on the left
below_turned : (s t : Bool) (a b : ℕ) → below s a t b ≡ below (not t) b (not s) a
below_turned false false a b = refl
below_turned false true a b = refl
below_turned true false a b = ap (ltb 0) (add_comm a b)
below_turned true true a b = refl

turned : (x : Float) (s : Bool) (e : ℤ) → lt x (fin s zero e) ≡ lt (fin (not s) zero e) (neg x)
unfolding lt neg
turned nan s e = refl
turned (inf true) s e = refl
turned (inf false) s e = refl
turned (fin t n d) s e = below_turned t s (n * up d * down e) (0 * up e * down d)

right_lt : (x : Float) (s t : Bool) (e d : ℤ) → lt x (fin s zero e) ≡ lt x (fin t zero d)
right_lt x s t e d = turned x s e ∙ left_lt (neg x) (not s) (not t) e d ∙ sym (turned x t d)

-- a test that sees no zero's sign, neither on its left nor on its right
tested :
    (test : Float → Float → Bool)
    → ((y : Float) (s t : Bool) (e d : ℤ) → test (fin s zero e) y ≡ test (fin t zero d) y)
    → ((x : Float) (s t : Bool) (e d : ℤ) → test x (fin s zero e) ≡ test x (fin t zero d))
    → {x x' y y' : Float} → x ≐ x' → y ≐ y' → test x y ≡ test x' y'
tested test l r {x} {x'} {y} {y'} p q =
    ≐-elim (λ (x x' : Float). test x y ≡ test x' y) (λ x. refl) (l y) p ∙ ≐-elim (λ (y y' : Float). test x' y ≡ test x' y') (λ y. refl) (r x') q

pub ≐-lt : {x x' y y' : Float} → x ≐ x' → y ≐ y' → lt x y ≡ lt x' y'
≐-lt p q = tested lt left_lt right_lt p q

pub ≐-eq : {x x' y y' : Float} → x ≐ x' → y ≐ y' → eq x y ≡ eq x' y'
≐-eq p q = tested eq (λ y s t e d. zero_equals y s e ∙ sym (zero_equals y t d)) (λ x s t e d. equals_zero x s e ∙ sym (equals_zero x t d)) p q

pub ≐-le : {x x' y y' : Float} → x ≐ x' → y ≐ y' → le x y ≡ le x' y'
unfolding le
≐-le {x} {x'} {y} {y'} p q = ap (λ (b : Bool). b || eq x y) (≐-lt p q) ∙ ap (λ (b : Bool). lt x' y' || b) (≐-eq p q)
