-- No number of units is nearer to the root than the nearest step (`no_nearer`). The middle between the step and another value of the format, squared, is not past n:
-- next to the root the format's values are whole steps (`on_step`), and a smaller one than all of these is further off. Assumes nothing.
use mathlib.Core.Path.{◌≡◌, refl, sym, ap, ◌∙◌, subst}
use mathlib.Core.Logic.{◌⊎◌, inl, inr}
use mathlib.Core.Bool.{Bool, true, false, cond}
use Prim.Native.Nat.{ℕ, zero, suc, ◌+◌, ◌-◌, ◌*◌, ◌/◌, ◌^◌, ◌≤◌, ◌<◌, zero-le}
use native.Mathlib.Nat.{le_refl, le_trans, le_of_eq, le_of_lt, lt_of_lt_of_le, lt_of_le_of_lt, lt_of_not-le, not-le_of_lt, lt_irrefl, eq-or-lt_of_le, le_of_suc-le-suc, mul_assoc, mul-mul-mul_comm, mul-le-mul, mul-le-mul_right, lt_of_mul-lt-mul_right, add-mul, add-le-add, zero-mul}
use native.Mathlib.Omega.{arith}
use native.Mathlib.Decide.{dec_le}
use lib.Dec.{T, leb→le, le→leb, lit≤}
use lib.Pow.{pow-add, pow_mono, shl_lt}
use lib.Ieee.{size}
use lib.Ieee.Digits.{size-lt, size_reaches}
use Rattle.root.specs.Root.{largest, reaches, last}
use Rattle.root.proofs.Nearest.{four_pow}

-- ---- the largest number that passes: it does, if 0 does, and no other up to the bound
pub largest_passes : (test : ℕ → Bool) (b : ℕ) → T (test 0) → T (test (largest test b))
unfolding largest
largest_passes test zero h = h
largest_passes test (suc b) h = go (test (suc b)) refl (largest_passes test b h)
  where
    go : (t : Bool) → test (suc b) ≡ t → T (test (largest test b)) → T (test (cond t (suc b) (largest test b)))
    go true e ih = subst T (sym e) tt
    go false e ih = ih

pub largest_most : (test : ℕ → Bool) (b j : ℕ) → j ≤ b → T (test j) → j ≤ largest test b
unfolding largest
largest_most test zero j h t = h
largest_most test (suc b) j h t = go (test (suc b)) refl (λ l. largest_most test b j l t) (eq-or-lt_of_le h)
  where
    go : (u : Bool) → test (suc b) ≡ u → (j ≤ b → j ≤ largest test b) → (j ≡ suc b) ⊎ (j < suc b) → j ≤ cond u (suc b) (largest test b)
    go true e ih w = h
    go false e ih (inl q) = absurd (subst T (ap test q ∙ e) t)
    go false e ih (inr l) = ih (le_of_suc-le-suc l)

pub largest_up_to : (test : ℕ → Bool) (b : ℕ) → largest test b ≤ b
unfolding largest
largest_up_to test zero = le_refl 0
largest_up_to test (suc b) = go (test (suc b)) (largest_up_to test b)
  where
    go : (u : Bool) → largest test b ≤ b → cond u (suc b) (largest test b) ≤ suc b
    go true h = le_refl (suc b)
    go false h = le_trans h (le_of_lt (le_refl (suc b)))

-- ---- the root of n lies between 2 ^ 52 and 2 ^ 53 steps of its last place
pub between : (n : ℕ) → 2 ^ 105 ≤ n → (4 ^ (52 + last n) ≤ n) × (n < 4 ^ (53 + last n))
between n h =
    let z = size n in
    let k = last n in
    let s = halves z k at_least refl in (
      le_trans (le_of_eq (four_pow (52 + k))) (size_reaches n (2 * (52 + k)) s.0),
      lt_of_lt_of_le (size-lt n) (le_trans (pow_mono s.1) (le_of_eq (sym (four_pow (53 + k))))),
    )
  where
    at_least : 105 < size n
    at_least = lt_of_not-le (λ (g : size n ≤ 105). not-le_of_lt (size-lt n) (le_trans (pow_mono g) h))

    halves : (z k : ℕ) → 105 < z → k ≡ (z + 1) / 2 - 53 → (2 * (52 + k) < z) × (z ≤ 2 * (53 + k))
    halves z k l e = omega arith

-- ---- squares of whole steps
pub step_square : (a k : ℕ) → a * 2 ^ k * (a * 2 ^ k) ≡ a * a * 4 ^ k
step_square a k = mul-mul-mul_comm a (2 ^ k) a (2 ^ k) ∙ ap (λ (z : ℕ). a * a * z) (sym (pow-add 2 k k) ∙ ap (λ (z : ℕ). 2 ^ z) (both k) ∙ sym (four_pow k))
  where
    both : (k : ℕ) → k + k ≡ 2 * k
    both k = omega arith

squared : {a b : ℕ} → a ≤ b → a * a ≤ b * b
squared h = mul-le-mul h h

-- ---- what the nearest step is, of an n whose root has 53 digits and more
pub record Nearest (n k r : ℕ) : Type 0 where
  pub passes : (2 * r - 1) * (2 * r - 1) * 4 ^ k ≤ 4 * n
  pub fails : 4 * n < (2 * r + 1) * (2 * r + 1) * 4 ^ k
  pub least : 2 ^ 52 ≤ r
  pub reached : 4 ^ (52 + k) ≤ n

least_passes : (n k : ℕ) → 4 ^ (52 + k) ≤ n → (2 * 2 ^ 52 - 1) * (2 * 2 ^ 52 - 1) * 4 ^ k ≤ 4 * n
least_passes n k h = le_trans (mul-le-mul_right (4 ^ k) (lit≤ {m = (2 * 2 ^ 52 - 1) * (2 * 2 ^ 52 - 1)} {n = 4 * 4 ^ 52} tt)) (le_trans (le_of_eq (mul_assoc 4 (4 ^ 52) (4 ^ k))) (four_le (4 ^ 52 * 4 ^ k) n (subst (λ (z : ℕ). z ≤ n) (pow-add 4 52 k) h)))
  where
    four_le : (a b : ℕ) → a ≤ b → 4 * a ≤ 4 * b
    four_le a b h = omega arith

greatest_fails : (n k r : ℕ) → n < 4 ^ (53 + k) → r ≡ 2 ^ 53 → 4 * n < (2 * r + 1) * (2 * r + 1) * 4 ^ k
greatest_fails n k r h e =
    lt_of_lt_of_le (four_lt n (4 ^ 53 * 4 ^ k) (subst (λ (z : ℕ). n < z) (pow-add 4 53 k) h))
    (le_trans (le_of_eq (sym (mul_assoc 4 (4 ^ 53) (4 ^ k)))) (mul-le-mul_right (4 ^ k) (subst (λ (z : ℕ). 4 * 4 ^ 53 ≤ (2 * z + 1) * (2 * z + 1)) (sym e) (lit≤ tt))))
  where
    four_lt : (a b : ℕ) → a < b → 4 * a < 4 * b
    four_lt a b h = omega arith

zero_reaches : (n k : ℕ) → T (reaches n k 0)
unfolding reaches
zero_reaches n k = le→leb (0 * 4 ^ k) (4 * n) (le_trans (le_of_eq (zero-mul (4 ^ k))) zero-le)

pub nearest : (n : ℕ) → 2 ^ 105 ≤ n → Nearest n (last n) (largest (reaches n (last n)) (2 ^ 53))
unfolding reaches
nearest n h =
    let k = last n in
    let test = reaches n k in
    let r = largest test (2 ^ 53) in
    let b = between n h in
    let next : r < 2 ^ 53 → 4 * n < (2 * suc r - 1) * (2 * suc r - 1) * 4 ^ k =
    λ (l : r < 2 ^ 53). lt_of_not-le (λ (g : (2 * suc r - 1) * (2 * suc r - 1) * 4 ^ k ≤ 4 * n). lt_irrefl r (largest_most test (2 ^ 53) (suc r) l (le→leb ((2 * suc r - 1) * (2 * suc r - 1) * 4 ^ k) (4 * n) g))) in
    record {
      passes = leb→le ((2 * r - 1) * (2 * r - 1) * 4 ^ k) (4 * n) (largest_passes test (2 ^ 53) (zero_reaches n k));
      fails = go n k r b.1 next (eq-or-lt_of_le (largest_up_to test (2 ^ 53)));
      least = largest_most test (2 ^ 53) (2 ^ 52) (lit≤ tt) (le→leb ((2 * 2 ^ 52 - 1) * (2 * 2 ^ 52 - 1) * 4 ^ k) (4 * n) (least_passes n k b.0));
      reached = b.0;
    }
  where
    odd : (r : ℕ) → 2 * suc r - 1 ≡ 2 * r + 1
    odd r = omega arith

    go : (n k r : ℕ) → n < 4 ^ (53 + k) → (r < 2 ^ 53 → 4 * n < (2 * suc r - 1) * (2 * suc r - 1) * 4 ^ k) → (r ≡ 2 ^ 53) ⊎ (r < 2 ^ 53) → 4 * n < (2 * r + 1) * (2 * r + 1) * 4 ^ k
    go n k r b f (inl e) = greatest_fails n k r b e
    go n k r b f (inr l) = subst (λ (z : ℕ). 4 * n < z * z * 4 ^ k) (odd r) (f l)

-- ---- the format's values next to the root are whole steps
on_step : (m j k : ℕ) → m < 2 ^ 53 → 2 ^ 52 * 2 ^ k < m * 2 ^ j → (c : ℕ) × (m * 2 ^ j ≡ c * 2 ^ k)
on_step m j k h l = (m * 2 ^ (j - k), ap (λ (z : ℕ). m * z) (ap (λ (z : ℕ). 2 ^ z) (sym (back j k more)) ∙ pow-add 2 (j - k) k) ∙ sym (mul_assoc m (2 ^ (j - k)) (2 ^ k)))
  where
    more : k ≤ j
    more = le_of_suc-le-suc (lt_of_not-le (λ (g : suc j ≤ k).
        not-le_of_lt (lt_of_lt_of_le (shl_lt 53 j h) (le_trans (pow_mono {i = 53 + j} {j = 52 + k} (room j k g)) (le_of_eq (pow-add 2 52 k)))) (le_of_lt l)))
      where
        room : (j k : ℕ) → suc j ≤ k → 53 + j ≤ 52 + k
        room j k g = omega arith

    back : (j k : ℕ) → k ≤ j → j - k + k ≡ j
    back j k h = omega arith

-- ---- no value is nearer: m * 2 ^ j units against the r steps
step_below : (c r k : ℕ) → c * 2 ^ k < r * 2 ^ k → c * 2 ^ k + r * 2 ^ k ≤ (2 * r - 1) * 2 ^ k
step_below c r k h = le_trans (le_of_eq (sym (add-mul c r (2 ^ k)))) (mul-le-mul_right (2 ^ k) (less c r (lt_of_mul-lt-mul_right (2 ^ k) h)))
  where
    less : (c r : ℕ) → c < r → c + r ≤ 2 * r - 1
    less c r h = omega arith

step_above : (c r k : ℕ) → r * 2 ^ k < c * 2 ^ k → (2 * r + 1) * 2 ^ k ≤ c * 2 ^ k + r * 2 ^ k
step_above c r k h = le_trans (mul-le-mul_right (2 ^ k) (more c r (lt_of_mul-lt-mul_right (2 ^ k) h))) (le_of_eq (add-mul c r (2 ^ k)))
  where
    more : (c r : ℕ) → r < c → 2 * r + 1 ≤ c + r
    more c r h = omega arith

-- below the first whole step: further off than that step, which is not past the root itself
low_below : (n k r u : ℕ) → Nearest n k r → u ≤ 2 ^ 52 * 2 ^ k → u < r * 2 ^ k → (u + r * 2 ^ k) * (u + r * 2 ^ k) ≤ 4 * n
low_below n k r u N h l = go (eq-or-lt_of_le N.least)
  where
    go : (2 ^ 52 ≡ r) ⊎ (2 ^ 52 < r) → (u + r * 2 ^ k) * (u + r * 2 ^ k) ≤ 4 * n
    go (inl e) =
        le_trans (squared (le_trans (add-le-add h (le_of_eq (ap (λ (z : ℕ). z * 2 ^ k) (sym e)))) (le_of_eq (sym (add-mul (2 ^ 52) (2 ^ 52) (2 ^ k))))))
        (le_trans (le_of_eq (step_square (2 ^ 52 + 2 ^ 52) k ∙ mul_assoc 4 (4 ^ 52) (4 ^ k))) (four_le (4 ^ 52 * 4 ^ k) n (subst (λ (z : ℕ). z ≤ n) (pow-add 4 52 k) N.reached)))
      where
        four_le : (a b : ℕ) → a ≤ b → 4 * a ≤ 4 * b
        four_le a b h = omega arith
    go (inr g) =
        le_trans (squared (le_trans (add-le-add h (le_refl (r * 2 ^ k))) (le_trans (le_of_eq (sym (add-mul (2 ^ 52) r (2 ^ k)))) (mul-le-mul_right (2 ^ k) (less (2 ^ 52) r g)))))
        (le_trans (le_of_eq (step_square (2 * r - 1) k)) N.passes)
      where
        less : (c r : ℕ) → c < r → c + r ≤ 2 * r - 1
        less c r h = omega arith

pub no_nearer : (n k r m j : ℕ) → Nearest n k r → m < 2 ^ 53
    → (m * 2 ^ j < r * 2 ^ k → (m * 2 ^ j + r * 2 ^ k) * (m * 2 ^ j + r * 2 ^ k) ≤ 4 * n)
    × (r * 2 ^ k < m * 2 ^ j → 4 * n ≤ (m * 2 ^ j + r * 2 ^ k) * (m * 2 ^ j + r * 2 ^ k))
no_nearer n k r m j N h = (under (dec_le (m * 2 ^ j) (2 ^ 52 * 2 ^ k)), over)
  where
    stepped : (c : ℕ) → m * 2 ^ j ≡ c * 2 ^ k → m * 2 ^ j < r * 2 ^ k → (m * 2 ^ j + r * 2 ^ k) * (m * 2 ^ j + r * 2 ^ k) ≤ 4 * n
    stepped c e l =
        le_trans (squared (subst (λ (z : ℕ). z + r * 2 ^ k ≤ (2 * r - 1) * 2 ^ k) (sym e) (step_below c r k (subst (λ (z : ℕ). z < r * 2 ^ k) e l)))) (le_trans (le_of_eq (step_square (2 * r - 1) k)) N.passes)

    under : Dec (m * 2 ^ j ≤ 2 ^ 52 * 2 ^ k) → m * 2 ^ j < r * 2 ^ k → (m * 2 ^ j + r * 2 ^ k) * (m * 2 ^ j + r * 2 ^ k) ≤ 4 * n
    under (yes p) l = low_below n k r (m * 2 ^ j) N p l
    under (no q) l = let s = on_step m j k h (lt_of_not-le q) in stepped s.0 s.1 l

    over : r * 2 ^ k < m * 2 ^ j → 4 * n ≤ (m * 2 ^ j + r * 2 ^ k) * (m * 2 ^ j + r * 2 ^ k)
    over l =
        let s = on_step m j k h (lt_of_le_of_lt (mul-le-mul_right (2 ^ k) N.least) l) in
        le_trans (le_of_lt N.fails)
        (le_trans (le_of_eq (sym (step_square (2 * r + 1) k)))
        (squared (subst (λ (z : ℕ). (2 * r + 1) * 2 ^ k ≤ z + r * 2 ^ k) (sym s.1) (step_above s.0 r k (subst (λ (z : ℕ). r * 2 ^ k < z) s.1 l)))))
