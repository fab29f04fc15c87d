-- The words of the law `root_at_most`: a limit by its bit pattern, and how many units, of 2 ^ -1074, an f64 is.
-- Definitions only.
use Rattle.std.specs.Prelude.{ℕ, suc, ◌+◌, ◌-◌, ◌*◌, ◌/◌, ◌%◌, ◌^◌, ◌≤◌, ◌<◌}

-- a pattern of a number above zero, neither a subnormal nor the largest f64: the next pattern is a number's too, the
-- next larger one
pub record Normal (bits : ℕ) : Type 0 where
  pub least : 2 ^ 52 ≤ bits
  pub most : suc bits < 0x7ff0_0000_0000_0000

-- its number in units: the significand, and as many zeros after it as the exponent field says, less 1
abbrev pub units : ℕ → ℕ
units bits = (2 ^ 52 + bits % 2 ^ 52) * 2 ^ (bits / 2 ^ 52 - 1)
