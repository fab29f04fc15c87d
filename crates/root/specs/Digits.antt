-- What the functions below `root` promise each other on the way, digit by digit. Nobody who reads root's contract needs
-- this file. Definitions only.
use Rattle.std.specs.Prelude.{◌≡◌, ◌⊎◌, false, ℕ, ◌+◌, ◌-◌, ◌*◌, ◌/◌, ◌%◌, ◌^◌, ◌≤◌, ◌<◌}
use Rattle.std.specs.Float.{binary64}
use Rattle.std.specs.Float.Ieee.{of_bits}
use Rattle.std.specs.Float.Ieee.Exact.{HasValue}
use Rattle.root.specs.declared.Partial.{Partial}
use Rattle.root.specs.declared.Scaled.{Scaled}

-- `r` is `p` with one digit more: 1 where the rest pays its cost, and then `next` is twice the root; else 0, and
-- nothing changes
abbrev pub Digit : Partial → ℕ → ℕ → Partial → Type 0
Digit p cost next r =
    ((cost ≤ p.rest) × (r.rest ≡ p.rest - cost) × (r.twice ≡ next))
    ⊎ ((p.rest < cost) × (r.rest ≡ p.rest) × (r.twice ≡ p.twice))

-- the number whose root is sought, from the digits found down to the weight w and what they leave
abbrev pub number : ℕ → Partial → ℕ
number w p = p.rest * w + p.twice / 2 * (p.twice / 2)

-- `p` has all the digits of the root down to the weight w: one more of them would be too much. And there is room in 64
-- bits.
pub record Found (w : ℕ) (p : Partial) : Type 0 where
  pub even : p.twice % 2 ≡ 0
  pub most : p.rest < p.twice + w
  pub room : p.twice + 2 * w ≤ 2 ^ 54
  pub lead : 2 ^ 53 ≤ p.twice

-- `r` has the digits down to the weight w of the same number
pub record Finer (w : ℕ) (n : ℕ) (r : Partial) : Type 0 where
  pub found : Found w r
  pub same : number w r ≡ n

-- a number above zero, whose pattern is `bits`, as (2 ^ 52 + tail) * 2 ^ (52 + power) of 2 ^ -2148
pub record Split (bits : ℕ) (r : Scaled) : Type 0 where
  pub small : r.tail < 2 ^ 52
  pub greatest : r.power < 3068
  pub value : HasValue (of_bits binary64 bits) false ((2 ^ 52 + r.tail) * 2 ^ (52 + r.power)) (2 ^ 2148)

-- `r` is what the first digit leaves, in steps of 2 ^ 52, of a number of 105 or 106 digits: the significand with 52
-- zeros, or 53 where the power is odd
pub record Start (s : Scaled) (r : ℕ) : Type 0 where
  pub small : r + 1 < 3 * 2 ^ 52
  pub lent : r * 2 ^ 52 + 2 ^ 52 * 2 ^ 52 ≡ (2 ^ 52 + s.tail) * 2 ^ (52 + s.power % 2)

-- `r` is the root by its digits, or one more where the rest is larger than it
abbrev pub Nearer : Partial → ℕ → Type 0
Nearer p r = ((p.twice / 2 < p.rest) × (r ≡ p.twice / 2 + 1)) ⊎ ((p.rest ≤ p.twice / 2) × (r ≡ p.twice / 2))
