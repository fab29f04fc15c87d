-- The numbers that have a name, and whole numbers. Definitions only.
use Rattle.std.specs.Prelude.{ℕ, pos, Float}
use Rattle.std.specs.Float.{binary64}
use Rattle.std.specs.Float.Ieee.{of_int}
use Rattle.exact.specs.F64.{f64}

-- the Rust's zeros() and ones(): +0.0 and 1.0
abbrev pub zeros : Float
zeros = f64 0

abbrev pub ones : Float
ones = f64 0x3ff0_0000_0000_0000

-- the Rust's EPS_F64: the f64 nearest to 1e-6
abbrev pub eps : Float
eps = f64 0x3eb0_c6f7_a0b5_ed8d

-- a whole number, as the f64 nearest to it: `int 3` is 3.0
abbrev pub int : ℕ → Float
int n = of_int binary64 (pos n)
