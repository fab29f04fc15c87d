-- How large the numbers of the series are (specs/Whole.antt), so that nothing wraps. A product is at most a * b / 2 ^ 60 and less than two below it.
-- So it is at most either factor where the other is at most 2 ^ 60, which counts 1; a nested sum is at most its first coefficient, and no more than a coefficient is taken off it. Assumes nothing.
use Rattle.std.proofs.Common.{◌≡◌, ℕ, suc, ◌+◌, ◌*◌, ◌/◌, ◌%◌, ◌^◌, ◌<◌, ◌≤◌, List, ◌∷◌, le_trans, mul-le-mul_right, mul-le-mul, lt_of_mul-lt-mul_right, mul-le-mul_left, le_of_mul-le-mul_right, sub-le, arith, lit<}
use Rattle.arctan.specs.Whole.{product, nested}
use Rattle.arctan.proofs.Table.{Cut, Cuts, none, more, first, rest}

-- ---- the product. Here x and y are the high halves, u and v the low ones

low : (x u y v : ℕ) → (x * y + (x * v + u * y) / 2 ^ 30) * 2 ^ 60 ≤ (x * 2 ^ 30 + u) * (y * 2 ^ 30 + v)
low x u y v = omega arith

high : (x u y v : ℕ) → u < 2 ^ 30 → v < 2 ^ 30 → (x * 2 ^ 30 + u) * (y * 2 ^ 30 + v) < (x * y + (x * v + u * y) / 2 ^ 30 + 2) * 2 ^ 60
high x u y v p q = omega (arith, mul-le-mul p q)

parts : (a : ℕ) → a / 2 ^ 30 * 2 ^ 30 + a % 2 ^ 30 ≡ a
parts a = omega arith

pub product_not_above : (a b : ℕ) → product a b * 2 ^ 60 ≤ a * b
unfolding product
product_not_above a b = rw (parts a, parts b) at (low (a / 2 ^ 30) (a % 2 ^ 30) (b / 2 ^ 30) (b % 2 ^ 30))

pub product_not_below : (a b : ℕ) → a * b < (product a b + 2) * 2 ^ 60
unfolding product
product_not_below a b = rw (parts a, parts b) at (high (a / 2 ^ 30) (a % 2 ^ 30) (b / 2 ^ 30) (b % 2 ^ 30) (omega arith) (omega arith))

pub product_left : (a b : ℕ) → b ≤ 2 ^ 60 → product a b ≤ a
product_left a b h = le_of_mul-le-mul_right {k = 2 ^ 60} (le_trans (product_not_above a b) (mul-le-mul_left a h)) (lit< tt)

pub product_right : (a b : ℕ) → a ≤ 2 ^ 60 → product a b ≤ b
product_right a b h = le_of_mul-le-mul_right {k = 2 ^ 60} (omega (arith, product_not_above a b, mul-le-mul_right b h)) (lit< tt)

-- ---- the nested sum, over coefficients from the k-th on

pub nested_not_above : {k : ℕ} {cs : List ℕ} (y : ℕ) → Cuts k cs → nested y cs * (2 * k + 1) ≤ 2 ^ 60
unfolding nested
nested_not_above y none = omega arith
nested_not_above {k} y (more {c = c} {cs} h t) = le_trans (mul-le-mul_right (2 * k + 1) (sub-le c (product y (nested y cs)))) h.not_above

pub nested_one : {k : ℕ} {cs : List ℕ} (y : ℕ) → Cuts k cs → nested y cs ≤ 2 ^ 60
nested_one y t = omega (arith, nested_not_above y t)

-- what is at most 1 / (2 * k + 3) is at most the coefficient before, cut as that is
falls : {k c n : ℕ} → Cut k c → n * (2 * suc k + 1) ≤ 2 ^ 60 → n ≤ c
falls {k} {c} {n} h t =
    let l : n < c + 1 = lt_of_mul-lt-mul_right (2 * k + 1) (omega (arith, h.not_below)) in
    omega arith

-- no more is taken off a coefficient than it is
pub taken : {k c : ℕ} {cs : List ℕ} (y : ℕ) → y ≤ 2 ^ 60 → Cuts k (c ∷ cs) → product y (nested y cs) ≤ c
taken {cs = cs} y h t = le_trans (product_right y (nested y cs) h) (falls (first t) (nested_not_above y (rest t)))
