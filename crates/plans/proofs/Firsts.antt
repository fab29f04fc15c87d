-- The first of some numbers that is not 0. Assumes nothing.
use mathlib.Core.Path.{◌≡◌, refl, sym, ap, ◌∙◌}
use mathlib.Core.Bool.{Bool, true, false, cond}
use Prim.Native.Nat.{ℕ, zero, suc, ◌+◌, ◌≤◌, ◌<◌}
use native.Mathlib.Omega.{arith}
use borrow.Author.Tests.{eqb-true, eq-eqb, ltb-true, ltb-false, lt-ltb, le-ltb}
use lib.Dec.{eqb, ltb}
use Rattle.plans.specs.Built.{before_refused}

-- a number, or another where it is 0
abbrev pub or_else : ℕ → ℕ → ℕ
or_else a b = cond (eqb a 0) b a

pub or_zero : (a : ℕ) → or_else a 0 ≡ a
or_zero a = go (eqb a 0) refl
  where
    go : (x : Bool) → eqb a 0 ≡ x → cond x 0 a ≡ a
    go true e = sym (eqb-true a 0 e)
    go false e = refl

pub or_assoc : (a b c : ℕ) → or_else (or_else a b) c ≡ or_else a (or_else b c)
or_assoc a b c = go (eqb a 0) refl
  where
    go : (x : Bool) → eqb a 0 ≡ x → or_else (cond x b a) c ≡ cond x (or_else b c) a
    go true e = refl
    go false e = rw e refl

-- of k numbers from the n-th on; 0 if all are
unfoldable pub first_from : (ℕ → ℕ) → ℕ → ℕ → ℕ
first_from f n zero = 0
first_from f n (suc k) = or_else (f n) (first_from f (suc n) k)

-- the number at the place where before-refused stops
pub stops_at : (f : ℕ → ℕ) (n k : ℕ) → (before_refused f n k ≤ k) × (cond (ltb (before_refused f n k) k) (f (n + before_refused f n k)) 0 ≡ first_from f n k)
unfolding before_refused first_from
stops_at f n zero = (omega arith, refl)
stops_at f n (suc k) = go (eqb (f n) 0) (stops_at f (suc n) k)
  where
    shifted : (b : ℕ) → cond (ltb (suc b) (suc k)) (f (n + suc b)) 0 ≡ cond (ltb b k) (f (suc n + b)) 0
    shifted b = let e : n + suc b ≡ suc n + b = omega arith in ap (λ (i : ℕ). cond (ltb (suc b) (suc k)) (f i) 0) e ∙ ap (λ (x : Bool). cond x (f (suc n + b)) 0) (less (ltb b k) refl)
      where
        less : (x : Bool) → ltb b k ≡ x → ltb (suc b) (suc k) ≡ x
        less true e = lt-ltb (suc b) (suc k) (omega (arith, ltb-true b k e))
        less false e = le-ltb (suc b) (suc k) (omega (arith, ltb-false b k e))

    go : (x : Bool) → (before_refused f (suc n) k ≤ k) × (cond (ltb (before_refused f (suc n) k) k) (f (suc n + before_refused f (suc n) k)) 0 ≡ first_from f (suc n) k)
        → (cond x (suc (before_refused f (suc n) k)) 0 ≤ suc k) × (cond (ltb (cond x (suc (before_refused f (suc n) k)) 0) (suc k)) (f (n + cond x (suc (before_refused f (suc n) k)) 0)) 0 ≡ cond x (first_from f (suc n) k) (f n))
    go true h = (omega (arith, h.0), shifted (before_refused f (suc n) k) ∙ h.1)
    go false h = let e : n + 0 ≡ n = omega arith in (omega arith, rw (lt-ltb 0 (suc k) (omega arith)) (ap f e))

pub first_split : (f : ℕ → ℕ) (a n b : ℕ) → first_from f n (a + b) ≡ or_else (first_from f n a) (first_from f (n + a) b)
unfolding first_from
first_split f zero n b = let e : 0 + b ≡ b = omega arith in let g : n ≡ n + 0 = omega arith in ap (first_from f n) e ∙ ap (λ (m : ℕ). first_from f m b) g
first_split f (suc a) n b =
    let e : suc a + b ≡ suc (a + b) = omega arith in
    let g : suc n + a ≡ n + suc a = omega arith in
    ap (first_from f n) e
    ∙ ap (or_else (f n)) (first_split f a (suc n) b ∙ ap (λ (m : ℕ). or_else (first_from f (suc n) a) (first_from f m b)) g)
    ∙ sym (or_assoc (f n) (first_from f (suc n) a) (first_from f (n + suc a) b))

-- the same numbers in two places
pub first_same : (f g : ℕ → ℕ) (k n m : ℕ) → ((i : ℕ) → i < k → f (n + i) ≡ g (m + i)) → first_from f n k ≡ first_from g m k
unfolding first_from
first_same f g zero n m h = refl
first_same f g (suc k) n m h =
    let e : n ≡ n + 0 = omega arith in
    let d : m + 0 ≡ m = omega arith in
    let i = first_same f g k (suc n) (suc m) (λ i l. let a : suc n + i ≡ n + suc i = omega arith in let b : m + suc i ≡ suc m + i = omega arith in ap f a ∙ h (suc i) (omega (arith, l)) ∙ ap g b) in
    ap (λ (x : ℕ). or_else x (first_from f (suc n) k)) (ap f e ∙ h 0 (omega arith) ∙ ap g d) ∙ ap (or_else (g m)) i

-- from 0 on, one more
pub first_more : (f : ℕ → ℕ) (n : ℕ) → first_from f 0 (suc n) ≡ or_else (first_from f 0 n) (f n)
unfolding first_from
first_more f n =
    let e : suc n ≡ n + 1 = omega arith in
    let g : 0 + n ≡ n = omega arith in
    ap (first_from f 0) e ∙ first_split f n 0 1 ∙ ap (or_else (first_from f 0 n)) (or_zero (f (0 + n)) ∙ ap f g)

-- where none is, each is 0
zero_both : (a b : ℕ) → or_else a b ≡ 0 → (a ≡ 0) × (b ≡ 0)
zero_both a b h = go (eqb a 0) refl h
  where
    go : (x : Bool) → eqb a 0 ≡ x → cond x b a ≡ 0 → (a ≡ 0) × (b ≡ 0)
    go true e h = (eqb-true a 0 e, h)
    go false e h = let z : true ≡ false = sym (ap (λ (n : ℕ). eqb n 0) h) ∙ e in let w : ◌≡◌ {A = ℕ} 0 1 = cc in absurd (omega arith)

pub all_zero : (f : ℕ → ℕ) (n k : ℕ) → first_from f 0 n ≡ 0 → k < n → f k ≡ 0
all_zero f zero k h l = absurd (omega (arith, l))
all_zero f (suc n) k h l =
    let b = zero_both (first_from f 0 n) (f n) (sym (first_more f n) ∙ h) in
    go (ltb k n) refl b.0 b.1 (λ l. all_zero f n k b.0 l)
  where
    go : (x : Bool) → ltb k n ≡ x → first_from f 0 n ≡ 0 → f n ≡ 0 → (k < n → f k ≡ 0) → f k ≡ 0
    go true e a b i = i (ltb-true k n e)
    go false e a b i = let q : k ≡ n = omega (arith, l, ltb-false k n e) in ap f q ∙ b

-- a number that came before changes nothing
pub first_again : (f : ℕ → ℕ) (n k : ℕ) → k < n → f n ≡ f k → first_from f 0 (suc n) ≡ first_from f 0 n
first_again f n k l e = first_more f n ∙ go (eqb (first_from f 0 n) 0) refl
  where
    go : (x : Bool) → eqb (first_from f 0 n) 0 ≡ x → cond x (f n) (first_from f 0 n) ≡ first_from f 0 n
    go true z = let w = eqb-true (first_from f 0 n) 0 z in e ∙ all_zero f n k w l ∙ sym w
    go false z = refl

-- where none is, all stand before
pub none_stops : (f : ℕ → ℕ) (k n : ℕ) → first_from f n k ≡ 0 → before_refused f n k ≡ k
unfolding first_from before_refused
none_stops f zero n h = refl
none_stops f (suc k) n h =
    let b = zero_both (f n) (first_from f (suc n) k) h in
    rw (eq-eqb (f n) 0 b.0) (ap suc (none_stops f k (suc n) b.1))
