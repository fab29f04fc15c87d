-- The nearest f32 of an f64, by the fields of the f64's pattern `b`: the sign, the exponent's field and the digits. And what is rounded to it, by any fraction of the f64's size. Assumes nothing.
use mathlib.Core.Path.{◌≡◌, refl, sym, ap, ◌∙◌}
use mathlib.Core.Bool.{Bool}
use Prim.Native.Nat.{ℕ, ◌+◌, ◌-◌, ◌*◌, ◌/◌, ◌%◌, ◌^◌, ◌≤◌, ◌<◌}
use native.Mathlib.Nat.{mul_assoc, mul-pos}
use native.Mathlib.Omega.{arith}
use lib.Dec.{leb}
use lib.Pow.{pow-add, pow_pos}
use lib.Ieee.{Float, nan, inf, fin, binary32, binary64, up, down, top, round, of_fields, of_bits}
use lib.Ieee.Fits.{down_pos}
use lib.Ieee.Exact.{HasValue}
use lib.Ieee.Scale.{round_same}
use Rattle.exact.proofs.Pattern.{mid_value}
use Rattle.narrow.specs.Narrow.{narrowed}

-- ---- a finite f64 by any fraction of its size
pub of_value : (x : Float) (s : Bool) (a c n d : ℕ) → 0 < c → 0 < d → HasValue x s a c → a * d ≡ n * c → narrowed x ≡ round binary32 s n d
unfolding narrowed
of_value nan s a c n d C D h e = absurd h
of_value (inf t) s a c n d C D h e = absurd h
of_value (fin t m x) s a c n d C D h e =
    ap (λ (b : Bool). round binary32 b (m * up x) (down x)) h.0
    ∙ round_same binary32 s (m * up x) (down x) a c (down_pos x) C h.1
    ∙ round_same binary32 s a c n d C D e

pub scaled : (d i k j l m : ℕ) → i + (j + l) ≡ k + m → d * 2 ^ i * (2 ^ j * 2 ^ l) ≡ d * 2 ^ k * 2 ^ m
scaled d i k j l m e =
    mul_assoc d (2 ^ i) (2 ^ j * 2 ^ l)
    ∙ ap (λ (x : ℕ). d * x) (ap (λ (x : ℕ). 2 ^ i * x) (sym (pow-add 2 j l)) ∙ sym (pow-add 2 i (j + l)) ∙ ap (λ (x : ℕ). 2 ^ x) e ∙ pow-add 2 k m)
    ∙ sym (mul_assoc d (2 ^ k) (2 ^ m))

-- ---- by the fields: the exponent's field x, and the digits
abbrev pub field : ℕ → ℕ
field b = b % 2 ^ 63 / 2 ^ 52

abbrev pub digits : ℕ → ℕ
digits b = 2 ^ 52 + b % 2 ^ 52

abbrev pub negative : ℕ → Bool
negative b = leb (top binary64) b

-- the f32 is normal, or too large for an f32
pub normal : (b : ℕ) → 897 ≤ field b → field b < 2047 → narrowed (of_bits binary64 b) ≡ round binary32 (negative b) (digits b * 2 ^ (field b - 897)) (2 ^ 149 * 2 ^ 29)
normal b lo hi =
    of_value (of_bits binary64 b) (negative b) (digits b * 2 ^ (field b - 1)) (2 ^ 1074) (digits b * 2 ^ (field b - 897)) (2 ^ 149 * 2 ^ 29)
    (pow_pos 1074) (mul-pos (pow_pos 149) (pow_pos 29)) (mid_value binary64 b (omega arith) hi)
    (scaled (digits b) (field b - 1) (field b - 897) 149 29 1074 (omega arith))

-- the f64 is an infinity
pub at_infinity : (b : ℕ) → field b ≡ 2047 → b % 2 ^ 52 ≡ 0 → of_bits binary64 b ≡ inf (negative b)
at_infinity b e z = fields b ∙ ap (λ (x : ℕ). of_fields binary64 (negative b) x (b % 2 ^ 52)) e ∙ ap (λ (t : ℕ). of_fields binary64 (negative b) 2047 t) z ∙ top_field (negative b)
  where
    fields : (b : ℕ) → of_bits binary64 b ≡ of_fields binary64 (negative b) (field b) (b % 2 ^ 52)
    fields b = unfold of_bits in refl

    top_field : (s : Bool) → of_fields binary64 s 2047 0 ≡ inf s
    top_field s = unfold of_fields in refl
