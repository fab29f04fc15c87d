-- Two f64s of one sign, each by its size over a denominator c: their sum (`added`), and what is left of the larger when the other is taken away (`taken`), each rounded once. Assumes nothing.
use mathlib.Core.Path.{◌≡◌, refl, ap, ◌∙◌}
use mathlib.Core.Bool.{Bool, true, false, cond}
use Prim.Native.Nat.{ℕ, ◌+◌, ◌-◌, ◌*◌, ◌<◌}
use native.Mathlib.Nat.{le_of_lt, mul-pos, lt_of_mul-lt-mul_right}
use native.Mathlib.Omega.{arith}
use lib.IntN.{ℤ}
use lib.Dec.{ltb, lt→ltb}
use lib.Arith.{le→nltb}
use lib.Ieee.{Float, nan, inf, fin, binary64, up, down, round, sum, add, sub, neg}
use lib.Ieee.Bits.{is_true, is_false}
use lib.Ieee.Fits.{down_pos}
use lib.Ieee.Exact.{HasValue}
use lib.Ieee.Scale.{round_same}
use Rattle.exact.specs.F64.{◌⊕◌, ◌⊖◌}

-- ---- by the floats' own denominators
sum_is : (s : Bool) (m n : ℕ) (e g : ℤ) → fin s m e ⊕ fin s n g ≡ round binary64 s (m * up e * down g + n * up g * down e) (down e * down g)
unfolding add sum
sum_is true m n e g = refl
sum_is false m n e g = refl

difference_is :
    (s : Bool) (m n : ℕ) (e g : ℤ) → n * up g * down e < m * up e * down g
    → fin s m e ⊖ fin s n g ≡ round binary64 s (m * up e * down g - n * up g * down e) (down e * down g)
unfolding sub neg add sum
difference_is true m n e g h =
    let p = m * up e * down g in
    let q = n * up g * down e in
    let d = down e * down g in
    ap (λ (t : Bool). cond t (round binary64 false (q - p) d) (round binary64 (ltb q p) (p - q) d)) (is_false (ltb p q) (le→nltb p q (le_of_lt h)))
    ∙ ap (λ (t : Bool). round binary64 t (p - q) d) (is_true (ltb q p) (lt→ltb q p h))
difference_is false m n e g h =
    let p = m * up e * down g in
    let q = n * up g * down e in
    let d = down e * down g in
    ap (λ (t : Bool). cond t (round binary64 true (q - p) d) (round binary64 false (p - q) d)) (is_false (ltb p q) (le→nltb p q (le_of_lt h)))

-- ---- by one denominator for both
first : (m d g a c : ℕ) → m * c ≡ a * d → m * g * c ≡ a * (d * g)
first m d g a c h = omega (arith, ap (λ (z : ℕ). z * g) h)

second : (n d g b c : ℕ) → n * c ≡ b * g → n * d * c ≡ b * (d * g)
second n d g b c h = omega (arith, ap (λ (z : ℕ). z * d) h)

pub added : (s : Bool) (x y : Float) (a b c : ℕ) → 0 < c → HasValue x s a c → HasValue y s b c → x ⊕ y ≡ round binary64 s (a + b) c
added s nan y a b c C v w = absurd v
added s (inf t) y a b c C v w = absurd v
added s (fin t m e) nan a b c C v w = absurd w
added s (fin t m e) (inf u) a b c C v w = absurd w
added s (fin t m e) (fin u n g) a b c C v w =
    let p = m * up e * down g in
    let q = n * up g * down e in
    let d = down e * down g in
    ap (λ (z : Bool). fin z m e ⊕ fin u n g) v.0
    ∙ ap (λ (z : Bool). fin s m e ⊕ fin z n g) w.0
    ∙ sum_is s m n e g
    ∙ round_same binary64 s (p + q) d (a + b) c (mul-pos (down_pos e) (down_pos g)) C
    (total p q a b c d (first (m * up e) (down e) (down g) a c v.1) (second (n * up g) (down e) (down g) b c w.1))
  where
    total : (p q a b c d : ℕ) → p * c ≡ a * d → q * c ≡ b * d → (p + q) * c ≡ (a + b) * d
    total p q a b c d h k = omega arith

pub taken : (s : Bool) (x y : Float) (a b c : ℕ) → 0 < c → HasValue x s (a + b) c → HasValue y s b c → 0 < a → x ⊖ y ≡ round binary64 s a c
taken s nan y a b c C v w A = absurd v
taken s (inf t) y a b c C v w A = absurd v
taken s (fin t m e) nan a b c C v w A = absurd w
taken s (fin t m e) (inf u) a b c C v w A = absurd w
taken s (fin t m e) (fin u n g) a b c C v w A =
    let p = m * up e * down g in
    let q = n * up g * down e in
    let d = down e * down g in
    let D : 0 < d = mul-pos (down_pos e) (down_pos g) in
    let i : p * c ≡ (a + b) * d = first (m * up e) (down e) (down g) (a + b) c v.1 in
    let j : q * c ≡ b * d = second (n * up g) (down e) (down g) b c w.1 in
    let l : q < p = lt_of_mul-lt-mul_right c (larger p q a b c d i j (mul-pos A D)) in
    ap (λ (z : Bool). fin z m e ⊖ fin u n g) v.0
    ∙ ap (λ (z : Bool). fin s m e ⊖ fin z n g) w.0
    ∙ difference_is s m n e g l
    ∙ round_same binary64 s (p - q) d a c D C (rest (p - q) q p a b c d (gap p q l) i j)
  where
    larger : (p q a b c d : ℕ) → p * c ≡ (a + b) * d → q * c ≡ b * d → 0 < a * d → q * c < p * c
    larger p q a b c d i j l = omega arith

    gap : (p q : ℕ) → q < p → p ≡ p - q + q
    gap p q l = omega arith

    rest : (r q p a b c d : ℕ) → p ≡ r + q → p * c ≡ (a + b) * d → q * c ≡ b * d → r * c ≡ a * d
    rest r q p a b c d e i j = omega (arith, ap (λ (z : ℕ). z * c) e)
