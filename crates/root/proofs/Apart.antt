-- A number above zero, taken apart: a subnormal's leading digit is brought up to its place (`Up`), and (2 ^ 52 + tail) * 2 ^ (52 + power) of 2 ^ -2148 is the number (`low`, `mid`). Assumes nothing.
use mathlib.Core.Path.{◌≡◌, sym, ap, ◌∙◌, subst}
use mathlib.Core.Bool.{Bool, false}
use Prim.Native.Nat.{ℕ, suc, ◌+◌, ◌-◌, ◌*◌, ◌/◌, ◌%◌, ◌^◌, ◌≤◌, ◌<◌}
use native.Mathlib.Nat.{mul-one, mul_assoc, mul-le-mul_right, lt_of_le_of_lt, lt_of_lt_of_le, lt_of_not-le, lt_irrefl}
use native.Mathlib.Omega.{arith}
use lib.Dec.{leb}
use lib.Arith.{lt→nleb}
use lib.Pow.{pow-add, pow_pos, pow_mono, shl_lt}
use lib.Count.{count_leading_zeros, leading_top}
use lib.Ieee.{binary64, of_bits}
use lib.Ieee.Bits.{is_false}
use lib.Ieee.Exact.{HasValue}
use Rattle.exact.proofs.Pattern.{rescaled, low_value, mid_value}
use Rattle.root.specs.declared.Scaled.{Scaled}
use Rattle.root.specs.Digits.{Split}

-- ---- how far a subnormal's digits t are shifted
pub record Up (t : ℕ) : Type 0 where
  pub enough : 11 ≤ count_leading_zeros 64 t
  pub few : count_leading_zeros 64 t - 11 ≤ 52
  pub low : 2 ^ 52 ≤ t * 2 ^ (count_leading_zeros 64 t - 11)
  pub high : t * 2 ^ (count_leading_zeros 64 t - 11) < 2 ^ 53

above : (z j : ℕ) → z + suc j ≡ 64 → j < 52 → (11 ≤ z) × (z - 11 ≤ 52) × (j + (z - 11) ≡ 52) × (suc j + (z - 11) ≡ 53)
above z j e l = (omega arith, omega arith, omega arith, omega arith)

pub up_of : (t : ℕ) → 0 < t → t < 2 ^ 52 → Up t
up_of t p h =
    let z = count_leading_zeros 64 t in
    let top = leading_top 64 t p (lt_of_lt_of_le h (pow_mono {i = 52} {j = 64} (omega arith))) in
    let j = top.0 in
    let less : j < 52 = lt_of_not-le (λ (g : 52 ≤ j). lt_irrefl (2 ^ 52) (lt_of_le_of_lt (pow_mono g) (lt_of_le_of_lt top.2 h))) in
    let a = above z j top.1 less in
    record {
      enough = a.0;
      few = a.1;
      low = subst (λ (x : ℕ). 2 ^ x ≤ t * 2 ^ (z - 11)) a.2 (subst (λ (x : ℕ). x ≤ t * 2 ^ (z - 11)) (sym (pow-add 2 j (z - 11))) (mul-le-mul_right (2 ^ (z - 11)) top.2));
      high = subst (λ (x : ℕ). t * 2 ^ (z - 11) < 2 ^ x) a.3 (shl_lt (suc j) (z - 11) top.3);
    }

-- ---- the number itself
unsigned : (b : ℕ) → b < 0x7ff0_0000_0000_0000 → leb 0x8000_0000_0000_0000 b ≡ false
unsigned b h = is_false (leb 0x8000_0000_0000_0000 b) (lt→nleb 0x8000_0000_0000_0000 b (omega arith))

-- t * 2 ^ 0 of 2 ^ -l, and d * 2 ^ (l - u) of 2 ^ -2l with d = t * 2 ^ u
low_power : (t u l d : ℕ) → u ≤ l → d ≡ t * 2 ^ u → t * 2 ^ 0 * 2 ^ (l + l) ≡ d * 2 ^ (l - u) * 2 ^ l
low_power t u l d h e =
    ap (λ (x : ℕ). x * 2 ^ (l + l)) (mul-one t)
    ∙ ap (λ (x : ℕ). t * 2 ^ x) (exponents u l h)
    ∙ ap (λ (x : ℕ). t * x) (pow-add 2 (u + (l - u)) l ∙ ap (λ (x : ℕ). x * 2 ^ l) (pow-add 2 u (l - u)))
    ∙ sym (mul_assoc t (2 ^ u * 2 ^ (l - u)) (2 ^ l))
    ∙ ap (λ (x : ℕ). x * 2 ^ l) (sym (mul_assoc t (2 ^ u) (2 ^ (l - u))) ∙ ap (λ (x : ℕ). x * 2 ^ (l - u)) (sym e))
  where
    exponents : (u l : ℕ) → u ≤ l → l + l ≡ u + (l - u) + l
    exponents u l h = omega arith

mid_power : (d x l y : ℕ) → x + (l + l) ≡ y + l → d * 2 ^ x * 2 ^ (l + l) ≡ d * 2 ^ y * 2 ^ l
mid_power d x l y e =
    mul_assoc d (2 ^ x) (2 ^ (l + l))
    ∙ ap (λ (z : ℕ). d * z) (sym (pow-add 2 x (l + l)) ∙ ap (λ (z : ℕ). 2 ^ z) e ∙ pow-add 2 y l)
    ∙ sym (mul_assoc d (2 ^ y) (2 ^ l))

pub low : (b : ℕ) → 0 < b → b < 2 ^ 52 → (r : Scaled) → r.tail ≡ b * 2 ^ (count_leading_zeros 64 b - 11) - 2 ^ 52 → r.power ≡ 1033 - count_leading_zeros 64 b → Split b r
low b p h r te pe =
    let u = count_leading_zeros 64 b - 11 in
    let U = up_of b p h in
    record {
      small = omega (arith, U.high);
      greatest = omega arith;
      value =
          subst (λ (k : ℕ). HasValue (of_bits binary64 b) false ((2 ^ 52 + r.tail) * 2 ^ k) (2 ^ 2148)) (more (count_leading_zeros 64 b) r.power U.enough U.few pe)
          (rescaled (of_bits binary64 b) false (b * 2 ^ 0) (2 ^ 1074) ((2 ^ 52 + r.tail) * 2 ^ (1074 - u)) (2 ^ 2148) (pow_pos 1074)
          (low_power b u 1074 (2 ^ 52 + r.tail) (omega (arith, U.few)) (omega (arith, U.low)))
          (subst (λ (t : ℕ). HasValue (of_bits binary64 b) false (t * 2 ^ 0) (2 ^ 1074)) (small_mod b h)
          (subst (λ (s : Bool). HasValue (of_bits binary64 b) s (b % 0x10_0000_0000_0000 * 2 ^ 0) (2 ^ 1074)) (unsigned b (omega arith)) (low_value binary64 b (omega arith)))));
    }
  where
    more : (z p : ℕ) → 11 ≤ z → z - 11 ≤ 52 → p ≡ 1033 - z → 1074 - (z - 11) ≡ 52 + p
    more z p l h e = omega arith

    small_mod : (b : ℕ) → b < 2 ^ 52 → b % 0x10_0000_0000_0000 ≡ b
    small_mod b h = omega arith

pub mid : (b : ℕ) → 2 ^ 52 ≤ b → b < 0x7ff0_0000_0000_0000 → (r : Scaled) → r.tail ≡ b % 2 ^ 52 → r.power ≡ b / 2 ^ 52 + 1021 → Split b r
mid b l h r te pe =
    let x = b % 0x8000_0000_0000_0000 / 0x10_0000_0000_0000 in
    record {
      small = omega arith;
      greatest = omega arith;
      value =
          rescaled (of_bits binary64 b) false ((2 ^ 52 + r.tail) * 2 ^ (x - 1)) (2 ^ 1074) ((2 ^ 52 + r.tail) * 2 ^ (52 + r.power)) (2 ^ 2148) (pow_pos 1074)
          (mid_power (2 ^ 52 + r.tail) (x - 1) 1074 (52 + r.power) (omega arith))
          (subst (λ (t : ℕ). HasValue (of_bits binary64 b) false ((2 ^ 52 + t) * 2 ^ (x - 1)) (2 ^ 1074)) (sym te)
          (subst (λ (s : Bool). HasValue (of_bits binary64 b) s ((2 ^ 52 + b % 2 ^ 52) * 2 ^ (x - 1)) (2 ^ 1074)) (unsigned b h) (mid_value binary64 b (omega arith) (omega arith))));
    }
