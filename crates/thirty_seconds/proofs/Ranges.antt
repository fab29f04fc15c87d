-- The two tests of the code are those of the sixteen bits. Assumes nothing.
use mathlib.Core.Logic.{◌↔◌}
use mathlib.Core.Bool.{true, false}
use Prim.Native.Nat.{ℕ, ◌*◌, ◌≤◌, ◌<◌}
use native.Mathlib.Nat.{mul-le-mul_right}
use native.Mathlib.Decide.{dec_le, dec_lt}
use native.Mathlib.Omega.{arith}
use lib.IntN.{ℤ}
use lib.Dec.{T, lit<}
use lib.Ieee.{Float, fin, up, down, le, lt, neg, of_bits}
use lib.Ieee.Fits.{down_pos}
use lib.Ieee.Nearest.{closest, closest_mono}
use Rattle.exact.specs.F64.{f64}
use Rattle.exact.specs.Fraction.{exactly, over, opposite}
use Rattle.exact.proofs.Fractions.{le-≼, lt-≺}
use Rattle.thirty_seconds.proofs.Close.{close}

-- ---- the numbers that sixteen bits hold: up to 32,767 and a half, which goes to 32,768, and down to -32,768 and a half, which goes to -32,768
pub up_to : (m : ℕ) (e : ℤ) → (closest (32 * (m * up e)) (down e) ≤ 32767) ↔ (64 * (m * up e) < 65535 * down e)
up_to m e =
    let a = 32 * (m * up e) in
    let c = down e in
    let q = closest a c in (
      λ (l : q ≤ 32767). elim (dec_lt (64 * (m * up e)) (65535 * c)) [ yes k ↦ k | no k ↦ let g : 32768 ≤ q = closest_mono 65535 2 a c (lit< tt) (down_pos e) (omega arith) in absurd (both q l g) ],
      λ (k : 64 * (m * up e) < 65535 * c). elim (dec_le q 32767) [ yes l ↦ l | no l ↦ let g : 32768 * c ≤ q * c = mul-le-mul_right c (omega arith) in absurd (omega (arith, (close a c (down_pos e)).not_above)) ],
    )
  where
    both : (q : ℕ) → q ≤ 32767 → 32768 ≤ q → ⊥
    both q l g = omega arith

pub down_to : (m : ℕ) (e : ℤ) → (closest (32 * (m * up e)) (down e) ≤ 32768) ↔ (64 * (m * up e) ≤ 65537 * down e)
down_to m e =
    let a = 32 * (m * up e) in
    let c = down e in
    let q = closest a c in (
      λ (l : q ≤ 32768). let g : q * c ≤ 32768 * c = mul-le-mul_right c l in omega (arith, (close a c (down_pos e)).not_below),
      λ (k : 64 * (m * up e) ≤ 65537 * c). closest_mono a c 65537 2 (down_pos e) (lit< tt) (omega arith),
    )

-- ---- the code's two tests: -1024.015625 and 1023.984375
abbrev pub lower : Float
lower = neg (f64 0x4090_0010_0000_0000)

abbrev pub upper : Float
upper = f64 0x408f_ffe0_0000_0000

pub below_upper : (m : ℕ) (e : ℤ) → T (lt (fin false m e) upper) ↔ (64 * (m * up e) < 65535 * down e)
unfolding of_bits exactly over
below_upper m e = let h = lt-≺ (fin false m e) upper tt tt in (λ k. let g = h.0 k in omega (arith, g.holds), λ k. h.1 (record { holds = omega arith }))

pub negative_below : (m : ℕ) (e : ℤ) → T (lt (fin true m e) upper)
unfolding of_bits exactly over opposite
negative_below m e = (lt-≺ (fin true m e) upper tt tt).1 (record { holds = omega (arith, down_pos e) })

pub above_lower : (m : ℕ) (e : ℤ) → T (le lower (fin true m e)) ↔ (64 * (m * up e) ≤ 65537 * down e)
unfolding of_bits neg exactly over opposite
above_lower m e = let h = le-≼ lower (fin true m e) tt tt in (λ k. let g = h.0 k in omega (arith, g.holds), λ k. h.1 (record { holds = omega arith }))

pub positive_above : (m : ℕ) (e : ℤ) → T (le lower (fin false m e))
unfolding of_bits neg exactly over opposite
positive_above m e = (le-≼ lower (fin false m e) tt tt).1 (record { holds = omega arith })
