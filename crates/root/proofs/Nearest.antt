-- The number of steps nearest to a root, found: from the digits q of the root of n and what is left of n, the definition's `largest` is q or q + 1 (`nearest_steps`),
-- and the last place is where the digits end (`last_place`). Assumes nothing.
use mathlib.Core.Path.{◌≡◌, refl, sym, ap, ◌∙◌, subst}
use mathlib.Core.Logic.{◌⊎◌, inl, inr}
use mathlib.Core.Bool.{Bool, not, cond}
use Prim.Native.Nat.{ℕ, zero, suc, ◌+◌, ◌-◌, ◌*◌, ◌/◌, ◌^◌, ◌≤◌, ◌<◌}
use native.Mathlib.Nat.{le_trans, le_of_eq, lt_of_lt_of_le, lt_of_le_of_lt, lt_of_not-le, lt_irrefl, eq-or-lt_of_le, le_of_suc-le-suc, mul_assoc, mul_left_comm, mul-le-mul, mul-le-mul_right, mul-lt-mul_of_pos_right, pow-suc}
use native.Mathlib.Omega.{arith}
use lib.Arith.{le-zero, lt→nleb}
use lib.Dec.{T, le→leb}
use lib.Pow.{pow-add, pow_pos, pow_mono, shl_lt}
use lib.Ieee.{size}
use lib.Ieee.Bits.{is_true, cond_no}
use lib.Ieee.Digits.{size-lt, size-le}
use Rattle.root.specs.Root.{largest, reaches, last}
use Rattle.root.proofs.Step.{binomial}

-- ---- the largest number that passes a test
step : (test : ℕ → Bool) (b r : ℕ) → T (test r) → ((j : ℕ) → r < j → T (not (test j))) → (r ≤ b → largest test b ≡ r) → (r ≡ suc b) ⊎ (r < suc b)
    → cond (test (suc b)) (suc b) (largest test b) ≡ r
step test b r p n ih (inl e) = ap (λ (t : Bool). cond t (suc b) (largest test b)) (is_true (test (suc b)) (subst (λ (x : ℕ). T (test x)) e p)) ∙ sym e
step test b r p n ih (inr l) = cond_no (test (suc b)) (suc b) (largest test b) (n (suc b) l) ∙ ih (le_of_suc-le-suc l)

pub largest_is : (test : ℕ → Bool) (b r : ℕ) → r ≤ b → T (test r) → ((j : ℕ) → r < j → T (not (test j))) → largest test b ≡ r
unfolding largest
largest_is test zero r h p n = sym (le-zero h)
largest_is test (suc b) r h p n = step test b r p n (λ l. largest_is test b r l p n) (eq-or-lt_of_le h)

-- ---- squares
double : (q : ℕ) → 2 * q * (2 * q) ≡ 4 * (q * q)
double q = mul_assoc 2 q (2 * q) ∙ ap (λ (x : ℕ). 2 * x) (mul_left_comm q 2 q) ∙ regroup (q * q)
  where
    regroup : (x : ℕ) → 2 * (2 * x) ≡ 4 * x
    regroup x = omega arith

-- (2q + a)^2
around : (q a : ℕ) → (2 * q + a) * (2 * q + a) ≡ 4 * (q * q) + 2 * (2 * q * a) + a * a
around q a = binomial (2 * q) a ∙ ap (λ (x : ℕ). x + 2 * (2 * q * a) + a * a) (double q)

at_most_lem : (u q : ℕ) → u ≤ q → u * u ≤ q * q
at_most_lem u q h = mul-le-mul h h

-- ---- the test at r, and past it
abbrev pub Passes : ℕ → ℕ → Type 0
Passes n r = (2 * r - 1) * (2 * r - 1) ≤ 4 * n

abbrev pub Fails : ℕ → ℕ → Type 0
Fails n r = (j : ℕ) → r < j → 4 * n < (2 * j - 1) * (2 * j - 1)

further : (n r s : ℕ) → 4 * n < s * s → s ≡ 2 * r + 1 → Fails n r
further n r s h e j l = lt_of_lt_of_le h (at_most_lem s (2 * j - 1) (omega arith))

pub nearer_passes : (n q rest r : ℕ) → rest + q * q ≡ n → rest ≤ 2 * q → ((q < rest) × (r ≡ q + 1)) ⊎ ((rest ≤ q) × (r ≡ q)) → Passes n r × Fails n r
nearer_passes n q rest r e m (inl (l, h)) =
    let a = around q 1 in
    let b = around q 3 in
    let c : 2 * r - 1 ≡ 2 * q + 1 = omega arith in
    (le_trans (le_of_eq (ap (λ (x : ℕ). x * x) c)) (omega arith), further n r (2 * q + 3) (omega arith) (omega arith))
nearer_passes n q rest r e m (inr (l, h)) =
    let a = around q 1 in
    let d = double q in
    (le_trans (at_most_lem (2 * r - 1) (2 * q) (omega arith)) (omega arith), further n r (2 * q + 1) (omega arith) (omega arith))

-- ---- the same, with both sides in steps of the last place
scale : (a n p : ℕ) → a ≤ 4 * n → a * p ≤ 4 * (n * p)
scale a n p h = le_trans (mul-le-mul_right p h) (le_of_eq (mul_assoc 4 n p))

scale_lt : (a n p : ℕ) → 0 < p → 4 * n < a → 4 * (n * p) < a * p
scale_lt a n p P h = lt_of_le_of_lt (le_of_eq (sym (mul_assoc 4 n p))) (mul-lt-mul_of_pos_right h P)

pub four_pow : (k : ℕ) → 4 ^ k ≡ 2 ^ (2 * k)
four_pow zero = refl
four_pow (suc k) = pow-suc 4 k ∙ ap (λ (x : ℕ). x * 4) (four_pow k) ∙ sym (pow-add 2 (2 * k) 2) ∙ ap (λ (x : ℕ). 2 ^ x) (two_more k)
  where
    two_more : (k : ℕ) → 2 * k + 2 ≡ 2 * suc k
    two_more k = omega arith

four_pos : (k : ℕ) → 0 < 4 ^ k
four_pos k = subst (λ (x : ℕ). 0 < x) (sym (four_pow k)) (pow_pos (2 * k))

pub nearest_steps : (n k r b : ℕ) → Passes n r → Fails n r → r ≤ b → largest (reaches (n * 4 ^ k) k) b ≡ r
unfolding reaches
nearest_steps n k r b p f h =
    largest_is (reaches (n * 4 ^ k) k) b r h (le→leb ((2 * r - 1) * (2 * r - 1) * 4 ^ k) (4 * (n * 4 ^ k)) (scale ((2 * r - 1) * (2 * r - 1)) n (4 ^ k) p))
    (λ j l. lt→nleb ((2 * j - 1) * (2 * j - 1) * 4 ^ k) (4 * (n * 4 ^ k)) (scale_lt ((2 * j - 1) * (2 * j - 1)) n (4 ^ k) (four_pos k) (f j l)))

-- ---- a number of 105 or 106 digits, and 2k zeros: its root has 53 digits, and k more
pub last_place : (n k : ℕ) → 2 ^ 104 ≤ n → n < 2 ^ 106 → last (n * 4 ^ k) ≡ k
last_place n k lo hi = subst (λ (x : ℕ). last (n * x) ≡ k) (sym (four_pow k)) (halved (size (n * 2 ^ (2 * k))) k above (size-le (n * 2 ^ (2 * k)) (106 + 2 * k) (shl_lt 106 (2 * k) hi)))
  where
    above : 104 + 2 * k < size (n * 2 ^ (2 * k))
    above =
        lt_of_not-le (λ (g : size (n * 2 ^ (2 * k)) ≤ 104 + 2 * k).
        lt_irrefl (n * 2 ^ (2 * k))
        (lt_of_lt_of_le (size-lt (n * 2 ^ (2 * k))) (le_trans (pow_mono g) (le_trans (le_of_eq (pow-add 2 104 (2 * k))) (mul-le-mul_right (2 ^ (2 * k)) lo)))))

    halved : (z k : ℕ) → 104 + 2 * k < z → z ≤ 106 + 2 * k → (z + 1) / 2 - 53 ≡ k
    halved z k l h = omega arith
