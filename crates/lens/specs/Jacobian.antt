-- A Jacobian by its two rows. Definitions only.
use Rattle.std.specs.Prelude.{ℕ, List, ◌++◌, Float, length, take, replicate}
use Rattle.lens.specs.Constants.{zeros}
use Rattle.lens.specs.declared.Jacobian.{Jacobian}

-- how many numbers the record holds
abbrev pub entries : ℕ
entries = 32

-- the numbers given, then zeros: as many as the record holds
abbrev pub padded : List Float → List Float
padded numbers = take entries (numbers ++ replicate entries zeros)

-- row 0, row 1, zeros; as many columns as row 0 has numbers
abbrev pub two_rows : List Float → List Float → Jacobian
two_rows top bottom = record { entries = padded (top ++ bottom); columns = length top }
