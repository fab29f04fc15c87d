-- G for x in 0..1/2. It is x times 24 levels of `H` (`nested`), so it lies in 0..x (`G_low`, `G_high`) and is at most x^3 off x (`small`).
-- It grows at most twice as fast as x (`slope`). Assumes nothing.
use Rattle.std.proofs.Common.{◌≡◌, ℕ, zero, suc, ◌+◌, ◌*◌, ◌≤◌, Bool, true, false, not, refl, add-zero, mul-pos, mul-zero, zero-add, mul-one, le_of_mul-le-mul_right, add-one, arith}
use native.Mathlib.Nat.{sub-zero}
use Rattle.exact.specs.Fraction.{Fraction, Proper, ◌≼◌, ◌≈◌, over, whole, ◌⊞◌, opposite, ◌⊟◌, ◌⊠◌, ◌⧄◌, power, signed, Within}
use Rattle.exact.proofs.Fractions.{over_proper, whole_proper, ⊞-proper, ⊟-proper, ⊠-proper, ⧄-proper, power_proper, signed_proper, ≼_refl, ≼_trans, ≼-antisym, ≈→≼, ≈-sym, ≈-refl, ≈-≼, ≼-≈, ≈-trans, ⊞-comm, ⊞-assoc, ⊞-zero, ⊞-mono, ⊞-cong, opposite_opposite, opposite-⊞, opposite_cong, move, ⊠-comm, ⊠-assoc, ⊠-one, ⊠-⊞, ⊠-not-negative, ⊠-mono, ⊠-cong, opposite-⊠, over-≼, within_refl, within_wider, within_trans, within_same, within_to, within_opposite, within-⊞, within-⊠}
use Rattle.arctan.specs.Series.{terms, alternates, term, sum, G}
use Rattle.arctan.proofs.Horner.{odd, H, odd_proper, H_proper, zero-⊞, one-⊠, rest_high, part, half_one, H_low, H_high}

-- ---- laws of fractions

pub ⊠-zero : (a : Fraction) → a ⊠ whole 0 ≈ whole 0
unfolding ◌⊠◌ over
⊠-zero a = omega arith

pub take_nothing : (a b : Fraction) → a ⊟ b ⊠ whole 0 ≈ a
unfolding ◌⊞◌ opposite ◌⊠◌ over
take_nothing a b = omega arith

pub ⊠-cong-right : {a b : Fraction} (c : Fraction) → a ≈ b → c ⊠ a ≈ c ⊠ b
⊠-cong-right {a} {b} c h = rw (⊠-comm c a, ⊠-comm c b) (⊠-cong c h)

-- to divide by a whole number is to multiply by its reciprocal
pub ⧄-whole : (a : Fraction) (n : ℕ) → a ⧄ whole n ≡ a ⊠ over 1 n
unfolding ◌⧄◌ ◌⊠◌ over
⧄-whole a n = simp (mul-one, mul-zero, add-zero, zero-add, sub-zero)

pub ⊠-signed : (s : Bool) (a b : Fraction) → a ⊠ signed s b ≡ signed s (a ⊠ b)
⊠-signed false a b = refl
⊠-signed true a b = rw (⊠-comm a b, opposite-⊠, ⊠-comm a (opposite b))

pub opposite_signed : (s : Bool) (a : Fraction) → opposite (signed s a) ≡ signed (not s) a
opposite_signed false a = refl
opposite_signed true a = opposite_opposite a

power_square : (x : Fraction) (n : ℕ) → power (x ⊠ x) n ≡ power x (2 * n)
unfolding power
power_square x zero = refl
power_square x (suc n) =
    let e : 2 * suc n ≡ suc (suc (2 * n)) = omega arith in
    rw (power_square x n, ← ⊠-assoc, e)

-- how far from a the rest is when b is taken off
pub off : {a b : Fraction} → Proper a → Proper b → whole 0 ≼ b → Within b (a ⊟ b) a
off {a} {b} A B h = record {
  left = ⊟-proper A B;
  right = A;
  not_above = (move (a ⊟ b) a b).1 (≼_trans A (rest_high h) (rw ⊞-zero at (⊞-mono (≼_refl a) h)));
  not_below = (move a (a ⊟ b) b).1 (rw (⊞-comm (a ⊟ b) b) ((move a b (a ⊟ b)).0 (≼_refl (a ⊟ b))));
}

-- ε is no less than nothing if anything is within it
pub within_low : {ε a b : Fraction} → Within ε a b → whole 0 ≼ ε
unfolding over ◌⊞◌ opposite
within_low {ε} h =
    let g : ε.minus ≤ ε.plus = le_of_mul-le-mul_right (omega (arith, h.not_above.holds, h.not_below.holds)) (mul-pos h.left.above h.right.above) in
    omega arith

pub within_rest : {ε a b c : Fraction} → Proper c → Within ε a b → Within ε (c ⊟ a) (c ⊟ b)
within_rest C h = rw zero-⊞ at (within-⊞ (within_refl C (≼_refl (whole 0))) (within_opposite h))

-- ---- numbers in 0..m

-- x is a number in 0..m. What other files use has the three apart.
pub record In (m x : Fraction) : Type 0 where
  pub proper : Proper x
  pub low : whole 0 ≼ x
  pub high : x ≼ m

abbrev pub 1/2 : Fraction
1/2 = over 1 2

pub wider : {m n x : Fraction} → Proper m → m ≼ n → In m x → In n x
wider M h X = record { proper = X.proper; low = X.low; high = ≼_trans M X.high h }

-- a factor of at most m
pub within_scale : {ε m a b c : Fraction} → Proper ε → In m c → Within ε a b → Within (ε ⊠ m) (a ⊠ c) (b ⊠ c)
within_scale {ε} {m} {c = c} E C h = within_wider (⊠-proper E C.proper) (rw (⊠-comm ε c, ⊠-comm ε m) (⊠-mono (within_low h) C.high)) (within-⊠ C.proper C.low h)

-- a c - b d is (a - b) c + b (c - d)
within_products : {ε m a b c d : Fraction} → Proper ε → In m b → In m c → Within ε a b → Within ε c d → Within (ε ⊠ m ⊞ ε ⊠ m) (a ⊠ c) (b ⊠ d)
within_products {b = b} {c} {d} E B C h k = within_trans (within_scale E C h) (rw (⊠-comm b c, ⊠-comm b d) (within_scale E B k))

pub two_halves : (a : Fraction) → a ⊠ 1/2 ⊞ a ⊠ 1/2 ≈ a
unfolding over ◌⊠◌ ◌⊞◌
two_halves a = omega arith

-- a product of two that are at most 1/2 is no further off than either
within_halves : {ε a b c d : Fraction} → Proper ε → In 1/2 b → In 1/2 c → Within ε a b → Within ε c d → Within ε (a ⊠ c) (b ⊠ d)
within_halves {ε} E B C h k =
    let half = ⊠-proper E (over_proper 1 2 (omega arith)) in
    within_wider (⊞-proper half half) (≈→≼ (two_halves ε)) (within_products E B C h k)

-- ---- G is x times 24 levels

-- what a level below gains, the level above loses, times y
carry : (c y : Fraction) {p q r : Fraction} → Proper y → Proper q → Proper r → p ≈ q ⊞ r → c ⊟ y ⊠ p ≈ c ⊟ y ⊠ q ⊞ opposite (y ⊠ r)
carry c y {p} {q} {r} Y Q R h =
    let e = ≈-trans (⊠-proper Y (⊞-proper Q R)) (⊠-cong-right y h) (⊠-⊞ y q r) in
    rw (⊞-assoc c, ← opposite-⊞) (⊞-cong (≈-refl c) (opposite_cong e))

-- one more level is one more term
last : (n k : ℕ) {y : Fraction} → Proper y → H (suc n) k y ≈ H n k y ⊞ signed (alternates n) (power y n ⊠ odd (k + n))
unfolding H power
last zero k {y} Y = rw (zero-⊞, one-⊠, add-zero) (take_nothing (odd k) y)
last (suc n) k {y} Y =
    let s = alternates n in
    let e : suc k + n ≡ k + suc n = omega arith in
    let R = signed_proper s (⊠-proper (power_proper n Y) (odd_proper (suc k + n))) in
    rw (⊠-signed, opposite_signed, ← ⊠-assoc y, ⊠-comm y (power y n), e) at (carry (odd k) y Y (H_proper n (suc k) Y) R (last n (suc k) Y))

power_odd : (x : Fraction) (n : ℕ) → power x (2 * n + 1) ≡ x ⊠ power (x ⊠ x) n
unfolding power
power_odd x n = rw (add-one, power_square, ⊠-comm x (power x (2 * n)))

term_nested : (n : ℕ) (x : Fraction) → term n x ≡ x ⊠ signed (alternates n) (power (x ⊠ x) n ⊠ odd n)
unfolding term
term_nested n x = rw (⧄-whole, power_odd, ⊠-assoc x, ⊠-signed)

sum_nested : (n : ℕ) {x : Fraction} → Proper x → sum n x ≈ x ⊠ H n 0 (x ⊠ x)
unfolding sum
sum_nested zero {x} X = unfold H in ≈-sym (⊠-zero x)
sum_nested (suc n) {x} X =
    let y = x ⊠ x in
    let Y = ⊠-proper X X in
    let t = signed (alternates n) (power y n ⊠ odd n) in
    let T = signed_proper (alternates n) (⊠-proper (power_proper n Y) (odd_proper n)) in
    let h = H_proper n 0 Y in
    let all = ≈-trans (⊞-proper (⊠-proper X h) (⊠-proper X T)) (⊞-cong (sum_nested n X) (≈-refl (x ⊠ t))) (≈-sym (⊠-⊞ x (H n 0 y) t)) in
    rw term_nested (≈-trans (⊠-proper X (⊞-proper h T)) all (⊠-cong-right x (≈-sym (rw zero-add at (last n 0 Y)))))

pub nested : (x : Fraction) → Proper x → G x ≈ x ⊠ H terms 0 (x ⊠ x)
unfolding G
nested x X = sum_nested terms X

sum_proper : (n : ℕ) {x : Fraction} → Proper x → Proper (sum n x)
unfolding sum term over
sum_proper zero X = whole_proper 0
sum_proper (suc n) X = ⊞-proper (sum_proper n X) (signed_proper (alternates n) (⧄-proper (power_proper (2 * n + 1) X) (omega arith)))

pub G_proper : {x : Fraction} → Proper x → Proper (G x)
unfolding G
G_proper X = sum_proper terms X

-- ---- where G lies

pub square : {x : Fraction} → In 1/2 x → In 1/2 (x ⊠ x)
square X = record { proper = ⊠-proper X.proper X.proper; low = ⊠-not-negative X.low X.low; high = ≼_trans X.proper (part X.low (half_one X.high)) X.high }

pub level : (n k : ℕ) {y : Fraction} → In 1/2 y → In (odd k) (H n k y)
level n k Y = record { proper = H_proper n k Y.proper; low = H_low Y.proper Y.low Y.high n k; high = H_high Y.proper Y.low Y.high n k }

-- the levels below the k-th: c_(k+1) is at most 1/3
below : (n k : ℕ) {y : Fraction} → In 1/2 y → In 1/2 (H n (suc k) y)
below n k Y = wider (odd_proper (suc k)) ((over-≼ 1 (2 * suc k + 1) 1 2).1 (omega arith)) (level n (suc k) Y)

-- of 1 at most y is taken off
near_one : (n : ℕ) {y : Fraction} → In 1/2 y → Within y (H (suc n) 0 y) (whole 1)
unfolding H
near_one n {y} Y =
    let h = below n 0 Y in
    within_wider (⊠-proper Y.proper h.proper) (rw (⊠-comm y (H n 1 y)) (part Y.low (half_one h.high)))
    (off (whole_proper 1) (⊠-proper Y.proper h.proper) (⊠-not-negative Y.low h.low))

-- and at most y / 3
near_third : (n : ℕ) {y : Fraction} → In 1/2 y → Within (y ⊠ over 1 3) (H (suc n) 0 y) (whole 1)
unfolding H
near_third n {y} Y =
    let h = level n 1 Y in
    within_wider (⊠-proper Y.proper h.proper) (rw (⊠-comm y (H n 1 y), ⊠-comm y (over 1 3)) (⊠-mono Y.low h.high))
    (off (whole_proper 1) (⊠-proper Y.proper h.proper) (⊠-not-negative Y.low h.low))

module _ {x : Fraction} (X : Proper x) (low : whole 0 ≼ x) (high : x ≼ over 1 2) where
  here : In 1/2 x
  here = record { proper = X; low = low; high = high }

  -- c_0 is 1
  levels : In (whole 1) (H terms 0 (x ⊠ x))
  levels = level terms 0 (square here)

  pub G_low : whole 0 ≼ G x
  G_low = ≼-≈ (⊠-proper X levels.proper) (⊠-not-negative low levels.low) (≈-sym (nested x X))

  pub G_high : G x ≼ x
  G_high = ≈-≼ (⊠-proper X levels.proper) (nested x X) (rw (⊠-comm x (H terms 0 (x ⊠ x))) (part low levels.high))

  pub small : Within (x ⊠ (x ⊠ x)) (G x) x
  small =
      let y = x ⊠ x in
      let h = H terms 0 y in
      within_same (G_proper X) (nested x X) (rw (⊠-comm y x, ⊠-comm h x, one-⊠) at (within-⊠ X low (near_one 23 (square here))))

  pub third : Within (x ⊠ x ⊠ over 1 3 ⊠ x) (G x) x
  third =
      let h = H terms 0 (x ⊠ x) in
      within_same (G_proper X) (nested x X) (rw (⊠-comm h x, one-⊠) at (within-⊠ X low (near_third 23 (square here))))

pub G_zero : G (whole 0) ≈ whole 0
G_zero =
    let z = ≼_refl (whole 0) in
    let half = (over-≼ 0 1 1 2).1 (omega arith) in
    ≼-antisym (G_high (whole_proper 0) z half) (G_low (whole_proper 0) z half)

-- ---- how fast G grows

-- a level grows no faster than y: by the halves of y and of the level below
H_slope : {ε y z : Fraction} (n k : ℕ) → Proper ε → In 1/2 y → In 1/2 z → Within ε y z → Within ε (H n k y) (H n k z)
unfolding H
H_slope zero k E Y Z h = within_refl (whole_proper 0) (within_low h)
H_slope (suc n) k E Y Z h = within_rest (odd_proper k) (within_halves E Z (below n k Y) h (H_slope n (suc k) E Y Z h))

-- a h - b h' is (a - b) h + b (h - h'), where h is at most 1, b too, and h - h' at most a - b
pub slope : {ε a b : Fraction} → Proper a → whole 0 ≼ a → a ≼ over 1 2 → Proper b → whole 0 ≼ b → b ≼ over 1 2 → Proper ε → Within ε a b → Within (ε ⊞ ε) (G a) (G b)
slope {a = a} {b} A al ah B bl bh E h =
    let a_in = here A al ah in
    let b-in = here B bl bh in
    let ha = levels A al ah in
    let b-one = wider (over_proper 1 2 (omega arith)) ((over-≼ 1 2 1 1).1 (omega arith)) b-in in
    let squares = within_halves E b-in a_in h h in
    let products = rw ⊠-one at (within_products E b-one ha h (H_slope terms 0 E (square a_in) (square b-in) squares)) in
    within_to (G_proper B) (≈-sym (nested b B)) (within_same (G_proper A) (nested a A) products)
