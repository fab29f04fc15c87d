-- How the numbers to check by hand are written. Definitions only.
use Rattle.std.specs.Prelude.{ℕ, Float}
use Rattle.exact.specs.F64.{◌⊘◌}
use Rattle.lens.specs.Constants.{int}
use Rattle.lens.specs.declared.Pixel.{Pixel}
use Rattle.lens.specs.declared.Point.{Point}

-- n / 2 and n / 4: `halves 299` is 149.5
abbrev pub halves : ℕ → Float
halves n = int n ⊘ int 2

abbrev pub quarters : ℕ → Float
quarters n = int n ⊘ int 4

-- the point (x, y), and the pixel (u, v)
abbrev pub xy : Float → Float → Point
xy x y = record { 0 = x; 1 = y }

abbrev pub uv : Float → Float → Pixel
uv u v = record { 0 = u; 1 = v }
