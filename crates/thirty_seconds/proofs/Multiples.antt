-- Two multiples of 1/32 are at least 1/32 apart (`apart`), so one that is at most 1/64 from x is the nearest (`no_nearer`), and another that is as near stands on the other side of x,
-- as far from it (`tied`). Assumes nothing.
use mathlib.Core.Path.{◌≡◌, ap, subst}
use mathlib.Core.Logic.{◌⊎◌, inl, inr}
use Prim.Native.Nat.{ℕ, ◌<◌}
use native.Mathlib.Nat.{mul-pos, le_of_mul-le-mul_right}
use native.Mathlib.Decide.{dec_lt}
use native.Mathlib.Omega.{arith}
use lib.IntN.{ℤ, pos, negsuc, ℤ_discrete}
use lib.Dec.{lit<}
use Rattle.exact.specs.Fraction.{Fraction, Proper, ◌≼◌, over, opposite, ◌⊞◌, ◌⊟◌, Within}
use Rattle.exact.proofs.Fractions.{over_proper, ⊞-proper, ⊟-proper, ≼_refl, ≼_trans, ⊞-mono, ⊞-assoc, move, within_wider}
use Rattle.thirty_seconds.specs.Nearest.{thirty_seconds}

-- ---- the one above the other
unfoldable pub Below : ℤ → ℤ → Type 0
Below k n = thirty_seconds k ⊞ over 1 32 ≼ thirty_seconds n

neither : (a b : ℕ) → (a < b → ⊥) → (b < a → ⊥) → a ≡ b
neither a b f g = elim (dec_lt a b) [ yes h ↦ absurd (f h) | no h ↦ elim (dec_lt b a) [ yes k ↦ absurd (g k) | no k ↦ omega arith ] ]

pub apart : (k n : ℤ) → (k ≡ n → ⊥) → Below k n ⊎ Below n k
unfolding Below over ◌⊞◌ opposite
apart (pos a) (pos b) f =
    elim (dec_lt a b) [ yes h ↦ inl (record { holds = omega arith }) | no h ↦ elim (dec_lt b a) [ yes k ↦ inr (record { holds = omega arith }) | no k ↦ absurd (f (ap pos (neither a b h k))) ] ]
apart (pos a) (negsuc b) f = inr (record { holds = omega arith })
apart (negsuc a) (pos b) f = inl (record { holds = omega arith })
apart (negsuc a) (negsuc b) f =
    elim (dec_lt a b) [ yes h ↦ inr (record { holds = omega arith }) | no h ↦ elim (dec_lt b a) [ yes k ↦ inl (record { holds = omega arith }) | no k ↦ absurd (f (ap negsuc (neither a b h k))) ] ]

-- ---- from the lower one to x and from x to the upper one is 1/32 at least
cancel : {K a b : Fraction} → Proper K → K ⊞ a ≼ K ⊞ b → a ≼ b
unfolding ◌⊞◌
cancel {K} {a} {b} P h = record { holds = le_of_mul-le-mul_right (omega (arith, h.holds)) (mul-pos P.above P.above) }

gap : {K N x ε δ : Fraction} → Proper K → Proper N → Proper x → Proper δ → K ⊞ over 1 32 ≼ N → x ⊟ K ≼ ε → N ⊟ x ≼ δ → over 1 32 ≼ ε ⊞ δ
gap {K} {N} {x} {ε} {δ} ParamKind PN Px Pδ h a b =
    cancel ParamKind (rw (⊞-assoc K ε δ) at (≼_trans PN h (≼_trans (⊞-proper Px Pδ) ((move N x δ).0 b) (⊞-mono ((move x K ε).0 a) (≼_refl δ)))))

-- so where one part of it is 1/64 at most, the other is 1/64 at least
half_left : {ε : Fraction} → over 1 32 ≼ ε ⊞ over 1 64 → over 1 64 ≼ ε
unfolding over ◌⊞◌
half_left h = record { holds = omega (arith, h.holds) }

half_right : {ε : Fraction} → over 1 32 ≼ over 1 64 ⊞ ε → over 1 64 ≼ ε
unfolding over ◌⊞◌
half_right h = record { holds = omega (arith, h.holds) }

one : Proper (over 1 64)
one = over_proper 1 64 (lit< tt)

pub no_nearer : {x : Fraction} (n k : ℤ) (ε : Fraction) → Within (over 1 64) (thirty_seconds n) x → Proper ε → Within ε (thirty_seconds k) x → Within ε (thirty_seconds n) x
unfolding Below
no_nearer {x} n k ε w E v = elim (ℤ_discrete k n) [
  | yes e ↦ subst (λ (z : ℤ). Within ε (thirty_seconds z) x) e v
  | no f ↦
      within_wider one
      (elim (apart k n f) [
        | inl h ↦ half_left (gap v.left w.left w.right one h v.not_below w.not_above)
        | inr h ↦ half_right (gap w.left v.left w.right E h w.not_below v.not_above)
      ]) w
]

pub tied : {x : Fraction} (n k : ℤ) → Proper (thirty_seconds n) → (k ≡ n → ⊥) → Within (over 1 64) (thirty_seconds k) x → (over 1 64 ≼ thirty_seconds n ⊟ x) ⊎ (over 1 64 ≼ x ⊟ thirty_seconds n)
unfolding Below
tied {x} n k N f v = elim (apart k n f) [
  | inl h ↦ inl (half_right (gap v.left N v.right (⊟-proper N v.right) h v.not_below (≼_refl (thirty_seconds n ⊟ x))))
  | inr h ↦ inr (half_left (gap N v.left v.right one h (≼_refl (x ⊟ thirty_seconds n)) v.not_above))
]

-- ---- two that are as near are at most 1/32 apart
pub neighbours : {x : Fraction} (n k : ℤ) → Within (over 1 64) (thirty_seconds k) x → Within (over 1 64) (thirty_seconds n) x → thirty_seconds n ≼ thirty_seconds k ⊞ over 1 32
neighbours {x} n k v w =
    let a = (move x (thirty_seconds k) (over 1 64)).0 v.not_below in
    let b = (move (thirty_seconds n) x (over 1 64)).0 w.not_above in
    twice (thirty_seconds n) (thirty_seconds k) (≼_trans (⊞-proper v.right one) b (⊞-mono a (≼_refl (over 1 64))))
  where
    twice : (n k : Fraction) → n ≼ k ⊞ over 1 64 ⊞ over 1 64 → n ≼ k ⊞ over 1 32
    twice n k h = unfold over ◌⊞◌ in record { holds = omega (arith, h.holds) }
