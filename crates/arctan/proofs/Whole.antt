-- How far the series in whole numbers (specs/Whole.antt) is from the exact one (`H`, proofs/Horner.antt): at most 1000 of its units 2 ^ -60, for an argument of at most 1/2 that is known within 400 (`series_near`). And it is at most its argument (`series_small`).
-- One law for a product (`product_near`): an error of either factor weighs as the other factor, and the product itself loses less than two units. The levels go by induction along the table; since the square is at most 1/2, 1000 units serve at every level. Assumes nothing.
use Rattle.std.proofs.Common.{ℕ, ◌+◌, ◌-◌, ◌*◌, ◌^◌, ◌<◌, ◌≤◌, List, length, mul-le-mul_right, mul-le-mul_left, arith, lit<, lit≤}
use Rattle.exact.specs.Fraction.{Fraction, Proper, ◌≼◌, ◌≈◌, over, whole, ◌⊞◌, opposite, ◌⊟◌, ◌⊠◌, Within}
use Rattle.exact.proofs.Fractions.{over_proper, ⊞-proper, ⊠-proper, ≼_trans, ≈→≼, ⊠-comm, ⊠-mono, ⊠-not-negative, over-≼, over-⊞, over-⊠, within_wider, within_trans, within_same, within_opposite, within-⊞, within-⊠}
use Rattle.arctan.specs.Whole.{product, nested, reciprocals, series}
use Rattle.arctan.proofs.Table.{Cut, Cuts, none, more, table}
use Rattle.arctan.proofs.Bounds.{product_not_above, product_not_below, product_left, nested_one, taken}
use Rattle.arctan.proofs.Horner.{odd, H, part, half_one}

-- n counts a, and is at most e units off
abbrev pub Counts : ℕ → ℕ → Fraction → Type 0
Counts e n a = Within (over e (2 ^ 60)) (over n (2 ^ 60)) a

counted : (n : ℕ) → Proper (over n (2 ^ 60))
counted n = over_proper n (2 ^ 60) (lit< tt)

-- a larger error is allowed; and errors add up
looser : (e d : ℕ) {a b : Fraction} → e ≤ d → Within (over e (2 ^ 60)) a b → Within (over d (2 ^ 60)) a b
looser e d h w = within_wider (counted e) ((over-≼ e (2 ^ 60) d (2 ^ 60)).1 (mul-le-mul_right (2 ^ 60) h)) w

joined : (e d : ℕ) {a b : Fraction} → Within (over e (2 ^ 60) ⊞ over d (2 ^ 60)) a b → Within (over (e + d) (2 ^ 60)) a b
joined e d w = within_wider (⊞-proper (counted e) (counted d)) (≈→≼ (over-⊞ e d (2 ^ 60))) w

-- n counts p / q, multiplied out
counts_over : (e n p q : ℕ) → 0 < q → n * q ≤ p * 2 ^ 60 + e * q → p * 2 ^ 60 ≤ n * q + e * q → Counts e n (over p q)
unfolding over ◌⊞◌ opposite
counts_over e n p q Q h k = record { left = counted n; right = over_proper p q Q; not_above = omega arith; not_below = omega arith }

-- ---- the product

product_loses : (a b : ℕ) → Counts 2 (product a b) (over a (2 ^ 60) ⊠ over b (2 ^ 60))
product_loses a b = rw over-⊠ (counts_over 2 (product a b) (a * b) (2 ^ 60 * 2 ^ 60) (lit< tt) (omega (arith, product_not_above a b)) (omega (arith, product_not_below a b)))

not_negative : (n : ℕ) → whole 0 ≼ over n (2 ^ 60)
not_negative n = (over-≼ 0 1 n (2 ^ 60)).1 (omega arith)

-- e units of the first factor weigh as the second does, which is counted
first_weighs : (e b f : ℕ) → e * b ≤ f * 2 ^ 60 → over e (2 ^ 60) ⊠ over b (2 ^ 60) ≼ over f (2 ^ 60)
first_weighs e b f h = rw over-⊠ ((over-≼ (e * b) (2 ^ 60 * 2 ^ 60) f (2 ^ 60)).1 (omega arith))

-- d units of the second weigh as the first does, which is at most 1/2
second_weighs : {A : Fraction} (d g : ℕ) → A ≼ over 1 2 → d ≤ 2 * g → over d (2 ^ 60) ⊠ A ≼ over g (2 ^ 60)
second_weighs {A} d g high h =
    rw (⊠-comm (over d (2 ^ 60)) A)
    (≼_trans (⊠-proper (over_proper 1 2 (lit< tt)) (counted d)) (⊠-mono (not_negative d) high) (rw over-⊠ ((over-≼ (1 * d) (2 * 2 ^ 60) g (2 ^ 60)).1 (omega arith))))

module _ {A B : Fraction} (low : whole 0 ≼ A) (high : A ≼ over 1 2) where
  pub product_near : (a b e d f g : ℕ) → e * b ≤ f * 2 ^ 60 → d ≤ 2 * g → Counts e a A → Counts d b B → Counts (2 + f + g) (product a b) (A ⊠ B)
  product_near a b e d f g h k p q =
      let first = within_wider (⊠-proper (counted e) (counted b)) (first_weighs e b f h) (within-⊠ (counted b) (not_negative b) p) in
      let second = within_wider (⊠-proper (counted d) p.right) (second_weighs d g high k) (within-⊠ p.right low q) in
      joined (2 + f) g (within_trans (joined 2 f (within_trans (product_loses a b) first)) (rw (⊠-comm (over b (2 ^ 60)) A, ⊠-comm B A) at second))

-- ---- a level

coefficient : {k c : ℕ} → Cut k c → Counts 1 c (odd k)
coefficient {k} {c} h = counts_over 1 c 1 (2 * k + 1) (omega arith) (omega (arith, h.not_above)) (omega (arith, h.not_below))

difference : (c p : ℕ) → p ≤ c → over (c - p) (2 ^ 60) ≈ over c (2 ^ 60) ⊟ over p (2 ^ 60)
unfolding over ◌⊞◌ opposite
difference c p h = omega arith

level : {k c : ℕ} (p d : ℕ) {Q : Fraction} → Cut k c → p ≤ c → Counts d p Q → Counts (1 + d) (c - p) (odd k ⊟ Q)
level {k} {c} p d h l q = within_same (counted (c - p)) (difference c p l) (joined 1 d (within-⊞ (coefficient h) (within_opposite q)))

-- ---- all levels

module _ {Y : Fraction} (low : whole 0 ≼ Y) (high : Y ≼ over 1 2) (y : ℕ) (y_one : y ≤ 2 ^ 60) (near : Counts 402 y Y) where
  nested_near : {k : ℕ} {cs : List ℕ} → Cuts k cs → Counts 1000 (nested y cs) (H (length cs) k Y)
  unfolding nested H
  nested_near none = counts_over 1000 0 0 1 (omega arith) (omega arith) (omega arith)
  nested_near {k} (more {c = c} {cs} h t) =
      let n = nested y cs in
      let p = product_near low high y n 402 1000 402 500 (mul-le-mul_left 402 (nested_one y t)) (lit≤ tt) near (nested_near t) in
      looser 905 1000 (lit≤ tt) (level (product y n) 904 h (taken y y_one (more h t)) p)

-- ---- the series

pub series_small : (s : ℕ) → series s ≤ s
unfolding series
series_small s = product_left s (nested (product s s) reciprocals) (nested_one (product s s) table)

pub series_near : {X : Fraction} (s : ℕ) → s ≤ 2 ^ 59 → whole 0 ≼ X → X ≼ over 1 2
    → Within (over 400 (2 ^ 60)) (over s (2 ^ 60)) X → Within (over 1000 (2 ^ 60)) (over (series s) (2 ^ 60)) (X ⊠ H 24 0 (X ⊠ X))
unfolding series
series_near {X} s h low high near =
    let y = product s s in
    let y_one : y ≤ 2 ^ 60 = omega (arith, product_left s s (omega arith)) in
    let Y-high = ≼_trans near.right (part low (half_one high)) high in
    let square = product_near low high s s 400 400 200 200 (omega arith) (lit≤ tt) near near in
    let sum = nested_near (⊠-not-negative low low) Y-high y y_one square table in
    looser 902 1000 (lit≤ tt) (product_near low high s (nested y reciprocals) 400 1000 400 500 (mul-le-mul_left 400 (nested_one y table)) (lit≤ tt) near sum)
