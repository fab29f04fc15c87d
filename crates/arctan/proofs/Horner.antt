-- The series by levels, as the code works it out, but exactly (`H`): c_k - y (c_(k+1) - y (c_(k+2) - ..)), c_j being 1 / (2j + 1).
-- For y in 0..1/2 each level lies in 0..c_k (`H_low`, `H_high`), so what is taken off never exceeds what it is taken off from. Assumes nothing.
use Rattle.std.proofs.Common.{◌≡◌, ℕ, zero, suc, ◌+◌, ◌*◌, ◌∙◌, arith}
use Rattle.exact.specs.Fraction.{Fraction, Proper, ◌≼◌, over, whole, ◌⊞◌, opposite, ◌⊟◌, ◌⊠◌}
use Rattle.exact.proofs.Fractions.{over_proper, whole_proper, ⊟-proper, ⊠-proper, ≼_refl, ≼_trans, ⊞-comm, ⊞-zero, ⊞-mono, move, ⊠-comm, ⊠-one, ⊠-mono, ⊠-not-negative, over-≼}

-- c_k
abbrev pub odd : ℕ → Fraction
odd k = over 1 (2 * k + 1)

-- n levels, from the k-th on
unfoldable pub H : ℕ → ℕ → Fraction → Fraction
H zero k y = whole 0
H (suc n) k y = odd k ⊟ y ⊠ H n (suc k) y

pub odd_proper : (k : ℕ) → Proper (odd k)
odd_proper k = over_proper 1 (2 * k + 1) (omega arith)

pub H_proper : (n k : ℕ) {y : Fraction} → Proper y → Proper (H n k y)
unfolding H
H_proper zero k Y = whole_proper 0
H_proper (suc n) k Y = ⊟-proper (odd_proper k) (⊠-proper Y (H_proper n (suc k) Y))

-- ---- laws of fractions

pub zero-⊞ : (a : Fraction) → whole 0 ⊞ a ≡ a
zero-⊞ a = ⊞-comm (whole 0) a ∙ ⊞-zero a

pub one-⊠ : (a : Fraction) → whole 1 ⊠ a ≡ a
one-⊠ a = ⊠-comm (whole 1) a ∙ ⊠-one a

-- what is left of a when b is taken off
pub rest_low : {a b : Fraction} → b ≼ a → whole 0 ≼ a ⊟ b
unfolding over ◌⊞◌ opposite
rest_low h = omega arith

pub rest_high : {a b : Fraction} → whole 0 ≼ b → a ⊟ b ≼ a
rest_high {a} {b} h = (move a b a).1 (rw zero-⊞ at (⊞-mono h (≼_refl a)))

-- a part of b
pub part : {a b : Fraction} → whole 0 ≼ b → a ≼ whole 1 → a ⊠ b ≼ b
part h k = rw one-⊠ at (⊠-mono h k)

pub half_one : {y : Fraction} → y ≼ over 1 2 → y ≼ whole 1
half_one h = ≼_trans (over_proper 1 2 (omega arith)) h ((over-≼ 1 2 1 1).1 (omega arith))

-- ---- where the levels lie

odd_falls : (k : ℕ) → odd (suc k) ≼ odd k
odd_falls k = (over-≼ 1 (2 * suc k + 1) 1 (2 * k + 1)).1 (omega arith)

module _ {y : Fraction} (Y : Proper y) (low : whole 0 ≼ y) (high : y ≼ over 1 2) where
  -- the level below is at most c_(k+1), so y of it is at most c_k; and it is not negative, so no more than c_k is left
  between : (n k : ℕ) → (whole 0 ≼ H n k y) × (H n k y ≼ odd k)
  unfolding H
  between zero k = (≼_refl (whole 0), (over-≼ 0 1 1 (2 * k + 1)).1 (omega arith))
  between (suc n) k =
      let h = between n (suc k) in
      let taken = ≼_trans (H_proper n (suc k) Y) (part h.0 (half_one high)) (≼_trans (odd_proper (suc k)) h.1 (odd_falls k)) in
      (rest_low taken, rest_high (⊠-not-negative low h.0))

  pub H_low : (n k : ℕ) → whole 0 ≼ H n k y
  H_low n k = (between n k).0

  pub H_high : (n k : ℕ) → H n k y ≼ odd k
  H_high n k = (between n k).1

  pub H_one : (n k : ℕ) → H n k y ≼ whole 1
  H_one n k = ≼_trans (odd_proper k) (H_high n k) ((over-≼ 1 (2 * k + 1) 1 1).1 (omega arith))
