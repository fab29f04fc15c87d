-- A finite float's nearest multiple of 1/32 has the number that the definition rounds to (`rounded`), and no other number is nearest (`only_one`). Assumes nothing.
use mathlib.Core.Path.{◌≡◌, refl, sym, ap, ◌∙◌, subst}
use mathlib.Core.Logic.{◌⊎◌, inl, inr}
use mathlib.Core.Bool.{Bool, true, false}
use Prim.Native.Nat.{ℕ, zero, suc, ◌*◌, ◌%◌, ◌<◌}
use native.Mathlib.Omega.{arith}
use lib.IntN.{ℤ, pos, negsuc, neg_ℤ, nat_abs, ℤ_discrete}
use lib.Dec.{lit<}
use lib.Ieee.{Float, fin, up, down}
use lib.Ieee.Fits.{down_pos}
use lib.Ieee.Nearest.{closest}
use Rattle.exact.specs.Fraction.{Fraction, Proper, ◌≼◌, over, opposite, signed, ◌⊞◌, ◌⊟◌, Within, exactly}
use Rattle.exact.proofs.Fractions.{over_proper, within_signed}
use Rattle.thirty_seconds.specs.Nearest.{thirty_seconds, Nearest}
use Rattle.thirty_seconds.proofs.Close.{Close, close}
use Rattle.thirty_seconds.proofs.Multiples.{no_nearer, tied, Below, apart, neighbours}

-- ---- n, or -n where the sign is negative
abbrev pub number : Bool → ℕ → ℤ
number false n = pos n
number true n = neg_ℤ (pos n)

as_fraction : (s : Bool) (n : ℕ) → thirty_seconds (number s n) ≡ signed s (over n 32)
unfolding over opposite
as_fraction false n = refl
as_fraction true zero = refl
as_fraction true (suc n) = refl

size_is : (s : Bool) (n : ℕ) → nat_abs (number s n) ≡ n
size_is false n = refl
size_is true zero = refl
size_is true (suc n) = refl

-- ---- the number that is rounded to is the nearest
half : (q a c : ℕ) → 0 < c → Close (32 * a) c q → Within (over 1 64) (over q 32) (over a c)
half q a c C Q = record {
  left = over_proper q 32 (lit< tt);
  right = over_proper a c C;
  not_above = unfold over ◌⊞◌ opposite in record { holds = omega (arith, Q.not_above) };
  not_below = unfold over ◌⊞◌ opposite in record { holds = omega (arith, Q.not_below) };
}

tie_even : (s : Bool) (q a c : ℕ) → Close (32 * a) c q → (over 1 64 ≼ signed s (over q 32) ⊟ signed s (over a c)) ⊎ (over 1 64 ≼ signed s (over a c) ⊟ signed s (over q 32)) → q % 2 ≡ 0
unfolding over ◌⊞◌ opposite
tie_even false q a c Q (inl h) = Q.tie_below (omega (arith, Q.not_above, h.holds))
tie_even false q a c Q (inr h) = Q.tie_above (omega (arith, Q.not_below, h.holds))
tie_even true q a c Q (inl h) = Q.tie_above (omega (arith, Q.not_below, h.holds))
tie_even true q a c Q (inr h) = Q.tie_below (omega (arith, Q.not_above, h.holds))

pub rounded : (s : Bool) (m : ℕ) (e : ℤ) → Nearest (fin s m e) (number s (closest (32 * (m * up e)) (down e)))
unfolding exactly
rounded s m e =
    let a = m * up e in
    let c = down e in
    let q = closest (32 * a) c in
    let n = number s q in
    let x = exactly (fin s m e) in
    let Q = close (32 * a) c (down_pos e) in
    let i = as_fraction s q in
    let w : Within (over 1 64) (thirty_seconds n) x = subst (λ (z : Fraction). Within (over 1 64) z x) (sym i) (within_signed s (half q a c (down_pos e) Q)) in
    record {
      number = tt;
      near = w;
      nearest = λ (k : ℤ) (ε : Fraction) (E : Proper ε) (v : Within ε (thirty_seconds k) x). no_nearer n k ε w E v;
      even = λ (k : ℤ) (f : k ≡ n → ⊥) (v : Within (over 1 64) (thirty_seconds k) x).
          ap (λ (z : ℕ). z % 2) (size_is s q)
          ∙ tie_even s q a c Q (subst (λ (z : Fraction). (over 1 64 ≼ z ⊟ x) ⊎ (over 1 64 ≼ x ⊟ z)) i (tied n k w.left f v));
    }

-- ---- and it alone: two would be neighbours, and both even
parity : (a b : ℕ) → a % 2 ≡ 0 → b % 2 ≡ 0 → b ≡ suc a → ⊥
parity a b p q e = omega arith

next : (k n : ℤ) → Below k n → thirty_seconds n ≼ thirty_seconds k ⊞ over 1 32 → nat_abs k % 2 ≡ 0 → nat_abs n % 2 ≡ 0 → ⊥
unfolding Below over ◌⊞◌ opposite
next (pos a) (pos b) h g p q = parity a b p q (omega (arith, h.holds, g.holds))
next (pos a) (negsuc b) h g p q = omega (arith, h.holds, g.holds)
next (negsuc a) (pos b) h g p q = parity b (suc a) q p (omega (arith, h.holds, g.holds))
next (negsuc a) (negsuc b) h g p q = parity (suc b) (suc a) q p (omega (arith, h.holds, g.holds))

pub only_one : {x : Float} {k n : ℤ} → Nearest x k → Nearest x n → k ≡ n
only_one {x} {k} {n} K N = elim (ℤ_discrete k n) [
  | yes e ↦ e
  | no f ↦
      let p = K.even n (λ (e : n ≡ k). f (sym e)) N.near in
      let q = N.even k f K.near in
      elim (apart k n f) [
        | inl h ↦ absurd (next k n h (neighbours n k K.near N.near) p q)
        | inr h ↦ absurd (next n k h (neighbours k n N.near K.near) q p)
      ]
]
