-- The sizes of a table, and a count as an f64. Definitions only.
use Rattle.std.specs.Prelude.{ℕ, ◌≤◌, Bool, ◌&&◌, pos, nat_le, Float}
use Rattle.std.specs.Float.{binary64}
use Rattle.std.specs.Float.Ieee.{of_int}

-- a width or a height: 2 to 4,096
abbrev pub least : ℕ
least = 2

abbrev pub most : ℕ
most = 4096

abbrev pub within : ℕ → Bool
within n = nat_le least n && nat_le n most

-- both ways: as a test, and as what it says
abbrev pub sized : ℕ → ℕ → Bool
sized width height = within width && within height

pub record Sized (width height : ℕ) : Type 0 where
  pub wide : least ≤ width
  pub high : least ≤ height
  pub not_wider : width ≤ most
  pub not_higher : height ≤ most

-- a whole number as an f64
unfoldable pub float : ℕ → Float
float n = of_int binary64 (pos n)
