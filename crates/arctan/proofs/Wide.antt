-- A product of 128 bits from the halves of its factors (`upper`, `lower`), and the product of the series (specs/Whole.antt) from it: that is the upper half of a * b counted in 2 ^ -124, or one below it, which shows
-- in the lower half (`kept`, `carried`). Assumes nothing.
use Rattle.std.proofs.Common.{◌≡◌, ℕ, ◌+◌, ◌*◌, ◌/◌, ◌%◌, ◌^◌, ◌<◌, ◌≤◌, mul-le-mul, arith}
use Rattle.arctan.specs.Whole.{product}

-- two numbers of 32 bits
pub fits : {x y : ℕ} → x ≤ 4294967295 → y ≤ 4294967295 → x * y ≤ 18446744065119617025
fits p q = mul-le-mul p q

-- ---- in halves of 32 bits: x and y are the high ones, u and v the low ones

parts : (a : ℕ) → a / 2 ^ 32 * 2 ^ 32 + a % 2 ^ 32 ≡ a
parts a = omega arith

above : (x u y v : ℕ)
    → x * y + x * v / 2 ^ 32 + u * y / 2 ^ 32 + (u * v / 2 ^ 32 + x * v % 2 ^ 32 + u * y % 2 ^ 32) / 2 ^ 32 ≡ (x * 2 ^ 32 + u) * (y * 2 ^ 32 + v) / 2 ^ 64
above x u y v = omega arith

below : (x u y v : ℕ) → ((x * v + u * y) % 2 ^ 32 * 2 ^ 32 + u * v) % 2 ^ 64 ≡ (x * 2 ^ 32 + u) * (y * 2 ^ 32 + v) % 2 ^ 64
below x u y v = omega arith

pub upper : (a b : ℕ)
    → a / 2 ^ 32 * (b / 2 ^ 32) + a / 2 ^ 32 * (b % 2 ^ 32) / 2 ^ 32 + a % 2 ^ 32 * (b / 2 ^ 32) / 2 ^ 32
    + (a % 2 ^ 32 * (b % 2 ^ 32) / 2 ^ 32 + a / 2 ^ 32 * (b % 2 ^ 32) % 2 ^ 32 + a % 2 ^ 32 * (b / 2 ^ 32) % 2 ^ 32) / 2 ^ 32
    ≡ a * b / 2 ^ 64
upper a b = rw (parts a, parts b) at (above (a / 2 ^ 32) (a % 2 ^ 32) (b / 2 ^ 32) (b % 2 ^ 32))

pub lower : (a b : ℕ)
    → ((a / 2 ^ 32 * (b % 2 ^ 32) + a % 2 ^ 32 * (b / 2 ^ 32)) % 2 ^ 32 * 2 ^ 32 + a % 2 ^ 32 * (b % 2 ^ 32)) % 2 ^ 64 ≡ a * b % 2 ^ 64
lower a b = rw (parts a, parts b) at (below (a / 2 ^ 32) (a % 2 ^ 32) (b / 2 ^ 32) (b % 2 ^ 32))

-- ---- the product of the series, in halves of 30 bits

-- what it leaves out: the low halves' product, and what is cut
left : (x u y v : ℕ) → u < 2 ^ 30 → v < 2 ^ 30
    → (x * 2 ^ 30 + u) * 16 * (y * 2 ^ 30 + v) ≡ (x * y + (x * v + u * y) / 2 ^ 30) * 2 ^ 64 + (x * v + u * y) % 2 ^ 30 * 2 ^ 34 + u * 4 * (v * 4)
left x u y v p q = omega arith

halves : (a : ℕ) → a / 2 ^ 30 * 2 ^ 30 + a % 2 ^ 30 ≡ a
halves a = omega arith

fourths : (a : ℕ) → a % 2 ^ 30 * 4 ≡ a * 4 % 2 ^ 32
fourths a = omega arith

module _ (a b : ℕ) where
  rest : a * 16 * b
      ≡ product a b * 2 ^ 64 + (a / 2 ^ 30 * (b % 2 ^ 30) + a % 2 ^ 30 * (b / 2 ^ 30)) % 2 ^ 30 * 2 ^ 34 + a * 4 % 2 ^ 32 * (b * 4 % 2 ^ 32)
  unfolding product
  rest = rw (halves a, halves b, fourths a, fourths b) at (left (a / 2 ^ 30) (a % 2 ^ 30) (b / 2 ^ 30) (b % 2 ^ 30) (omega arith) (omega arith))

  pub corner : a * 4 % 2 ^ 32 * (b * 4 % 2 ^ 32) ≤ 18446744065119617025
  corner = fits (omega arith) (omega arith)

  -- h and l are the upper and the lower half: where l is below the corner, this has carried one into h
  pub carried : {l h : ℕ} → l ≡ a * 16 * b % 2 ^ 64 → h ≡ a * 16 * b / 2 ^ 64 → l < a * 4 % 2 ^ 32 * (b * 4 % 2 ^ 32) → h ≡ product a b + 1
  carried e d less = omega (arith, rest, corner)

  pub kept : {l h : ℕ} → l ≡ a * 16 * b % 2 ^ 64 → h ≡ a * 16 * b / 2 ^ 64 → a * 4 % 2 ^ 32 * (b * 4 % 2 ^ 32) ≤ l → h ≡ product a b
  kept e d more = omega (arith, rest, corner)
