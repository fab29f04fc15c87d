-- From the digits to the f64: what `above_zero` puts together is the root of its number (`root_is`), and its pattern is a number's (`small-pattern`). Assumes nothing.
use mathlib.Core.Path.{◌≡◌, refl, sym, ap, ◌∙◌}
use mathlib.Core.Logic.{◌⊎◌, inl, inr}
use mathlib.Core.Bool.{true, false, true≢false}
use Prim.Native.Nat.{ℕ, zero, suc, ◌+◌, ◌-◌, ◌*◌, ◌/◌, ◌%◌, ◌^◌, ◌≤◌, ◌<◌}
use native.Mathlib.Nat.{le_trans, le_of_eq, le_of_lt, lt_of_lt_of_le, lt_of_not-le, not-le_of_lt, lt_irrefl, mul_assoc, mul-pos, mul-div_cancel, mul-le-mul, zero-add, zero-mul}
use native.Mathlib.Omega.{arith}
use lib.Pow.{pow-add, pow_pos, pow_mono, shl_lt}
use lib.Ieee.{Float, nan, inf, fin, binary64, up, down, round, of_bits}
use lib.Ieee.Fits.{down_pos, round-fits}
use lib.Ieee.Exact.{HasValue, round_exact}
use Rattle.exact.proofs.Pattern.{packed}
use Rattle.root.specs.declared.Partial.{Partial}
use Rattle.root.specs.declared.Scaled.{Scaled}
use Rattle.root.specs.Root.{largest, reaches, last, nearest_root, root}
use Rattle.root.specs.Digits.{Finer, Split, Start, Nearer}
use Rattle.root.proofs.Nearest.{Passes, Fails, nearer_passes, nearest_steps, four_pow, last_place}

-- ---- the root of a number above zero is that of its count
pub root_of : (x : Float) (n : ℕ) → 0 < n → HasValue x false n (2 ^ 2148) → root x ≡ nearest_root n
unfolding root
root_of nan n p h = absurd h
root_of (inf t) n p h = absurd h
root_of (fin true m e) n p h = absurd (true≢false h.0)
root_of (fin false zero e) n p h = absurd (lt_irrefl 0 (lt_of_lt_of_le (mul-pos p (down_pos e)) (le_of_eq (sym h.1 ∙ ap (λ (z : ℕ). z * 2 ^ 2148) (zero-mul (up e))))))
root_of (fin false (suc m) e) n p h = ap nearest_root (ap (λ (z : ℕ). z / down e) h.1 ∙ mul-div_cancel n (down_pos e))

nearest : (n k r : ℕ) → last (n * 4 ^ k) ≡ k → largest (reaches (n * 4 ^ k) k) (2 ^ 53) ≡ r → nearest_root (n * 4 ^ k) ≡ round binary64 false (r * 2 ^ k) (2 ^ 1074)
unfolding nearest_root
nearest n k r p e =
    ap (λ (j : ℕ). round binary64 false (largest (reaches (n * 4 ^ k) j) (2 ^ 53) * 2 ^ j) (2 ^ 1074)) p ∙ ap (λ (z : ℕ). round binary64 false (z * 2 ^ k) (2 ^ 1074)) e

-- ---- r steps of 2 ^ k units, as an f64
steps_value : (r k : ℕ) → r < 2 ^ 53 → k < 1600 → HasValue (round binary64 false (r * 2 ^ k) (2 ^ 1074)) false (r * 2 ^ k) (2 ^ 1074)
steps_value r k h l =
    round_exact binary64 false (r * 2 ^ k) (2 ^ 1074) r k (pow_pos 1074) h (lt_of_lt_of_le (shl_lt 53 k h) (pow_mono {i = 53 + k} {j = 2098} (omega arith))) refl

pub steps_pattern : (r k : ℕ) → 2 ^ 52 ≤ r → r < 2 ^ 53 → k < 1600 → of_bits binary64 (k * 2 ^ 52 + r) ≡ round binary64 false (r * 2 ^ k) (2 ^ 1074)
steps_pattern r k lo hi l =
    ap (of_bits binary64) (sym (zero-add (k * 2 ^ 52 + r)))
    ∙ packed binary64 false r k (round binary64 false (r * 2 ^ k) (2 ^ 1074)) (round-fits binary64 false (r * 2 ^ k) (2 ^ 1074)) (steps_value r k hi l) (le_of_lt hi) (inr lo)

-- ---- a root does not round up to 2 ^ 53: the significand is below it
below : (n r : ℕ) → n ≤ 2 ^ 106 - 2 ^ 53 → Passes n r → r < 2 ^ 53
below n r h p = lt_of_not-le (λ (g : 2 ^ 53 ≤ r). not-le_of_lt (large n h) (le_trans (mul-le-mul {n₁ = 2 ^ 54 - 1} {m₁ = 2 ^ 54 - 1} (wide r g) (wide r g)) p))
  where
    large : (n : ℕ) → n ≤ 2 ^ 106 - 2 ^ 53 → 4 * n < (2 ^ 54 - 1) * (2 ^ 54 - 1)
    large n h = omega arith

    wide : (r : ℕ) → 2 ^ 53 ≤ r → 2 ^ 54 - 1 ≤ 2 * r - 1
    wide r g = omega arith

-- ---- the number's power, halved
power : (d p : ℕ) → d * 2 ^ (52 + p) ≡ d * 2 ^ (52 + p % 2) * 4 ^ (p / 2)
power d p =
    ap (λ (z : ℕ). d * 2 ^ z) (split p)
    ∙ ap (λ (z : ℕ). d * z) (pow-add 2 (52 + p % 2) (2 * (p / 2)) ∙ ap (λ (z : ℕ). 2 ^ (52 + p % 2) * z) (sym (four_pow (p / 2))))
    ∙ sym (mul_assoc d (2 ^ (52 + p % 2)) (4 ^ (p / 2)))
  where
    split : (p : ℕ) → 52 + p ≡ 52 + p % 2 + 2 * (p / 2)
    split p = omega arith

-- ---- what the digits say of r
pub record Result (n r : ℕ) : Type 0 where
  pub passes : Passes n r
  pub fails : Fails n r
  pub least : 2 ^ 52 ≤ r
  pub most : r < 2 ^ 53

pub result : (rest r : ℕ) (p : Partial) → rest + 1 < 3 * 2 ^ 52 → Finer 1 (rest * 2 ^ 52 + 2 ^ 52 * 2 ^ 52) p → Nearer p r → Result (rest * 2 ^ 52 + 2 ^ 52 * 2 ^ 52) r
result rest r p h F N =
    let n = rest * 2 ^ 52 + 2 ^ 52 * 2 ^ 52 in
    let q = p.twice / 2 in
    let T : p.twice ≡ 2 * q = omega (arith, F.found.even) in
    let P = nearer_passes n q p.rest r (whole p.rest (q * q) n F.same) (omega (arith, F.found.most)) N in
    record { passes = P.0; fails = P.1; least = at_least q r (omega (arith, F.found.lead)) N; most = below n r (omega arith) P.0 }
  where
    whole : (a b n : ℕ) → a * 1 + b ≡ n → a + b ≡ n
    whole a b n h = omega arith

    at_least : (q r : ℕ) → 2 ^ 52 ≤ q → ((q < p.rest) × (r ≡ q + 1)) ⊎ ((p.rest ≤ q) × (r ≡ q)) → 2 ^ 52 ≤ r
    at_least q r l (inl (a, b)) = omega arith
    at_least q r l (inr (a, b)) = omega arith

pub root_is : (b : ℕ) (s : Scaled) (rest r : ℕ) → Split b s → Start s rest → Result (rest * 2 ^ 52 + 2 ^ 52 * 2 ^ 52) r
    → of_bits binary64 (s.power / 2 * 2 ^ 52 + r) ≡ root (of_bits binary64 b)
root_is b s rest r S B R =
    let n = rest * 2 ^ 52 + 2 ^ 52 * 2 ^ 52 in
    let k = s.power / 2 in
    let d = 2 ^ 52 + s.tail in
    let same : d * 2 ^ (52 + s.power) ≡ n * 4 ^ k = power d s.power ∙ ap (λ (z : ℕ). z * 4 ^ k) (sym B.lent) in
    let place : last (n * 4 ^ k) ≡ k = last_place n k (omega arith) (omega (arith, B.small)) in
    steps_pattern r k R.least R.most (omega (arith, S.greatest))
    ∙ sym (root_of (of_bits binary64 b) (d * 2 ^ (52 + s.power)) (mul-pos (omega arith) (pow_pos (52 + s.power))) S.value ∙ ap nearest_root same ∙ nearest n k r place (nearest_steps n k r (2 ^ 53) R.passes R.fails (le_of_lt R.most)))
