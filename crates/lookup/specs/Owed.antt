-- What the laws say of a lookup, in words of its definitions. Definitions only.
use Rattle.std.specs.Prelude.{◌≡◌, ℕ, ◌+◌, ◌<◌, T, ◌⊎◌, List, [], ◌∷◌, slice_index_or, Float, Ok}
use Rattle.std.specs.Float.{nan, binary32}
use Rattle.std.specs.Float.Ieee.{fits}
use Rattle.exact.specs.F64.{f64}
use Rattle.exact.specs.Fraction.{◌≼◌, ◌≺◌, whole, exactly}
use Rattle.lens.specs.Constants.{zeros}
use Rattle.lens.specs.Distorted.{Distorted}
use Rattle.lens.specs.declared.Pixel.{Pixel}
use Rattle.lookup.specs.Lookup.{whole_part, neighbour, cell}

-- an index taken apart: its whole part is one of so many cells, and so is the neighbour; the index is the whole part
-- and less than 1 more
pub record Apart (i : Float) (cells : ℕ) : Type 0 where
  pub first : whole_part i < cells
  pub second : neighbour (whole_part i) cells < cells
  pub not_above : whole (whole_part i) ≼ exactly i
  pub not_below : exactly i ≺ whole (whole_part i + 1)

-- each place of the table holds an f32; past the last one stands a NaN, which is one too
abbrev pub Singles : List Float → Type 0
Singles table = (n : ℕ) → T (fits binary32 (slice_index_or table n nan))

-- the numbers k of the four cells that are used at cell (u, v)
abbrev pub around : List Float → ℕ → ℕ → ℕ → ℕ → ℕ → List Float
around table width height u v k =
    cell table width k u v
    ∷ cell table width k (neighbour u width) v
    ∷ cell table width k u (neighbour v height)
    ∷ cell table width k (neighbour u width) (neighbour v height) ∷ []

-- -0
abbrev pub minus_zero : Float
minus_zero = f64 0x8000_0000_0000_0000

-- the same number; but -0 may come back as +0
abbrev pub Same : Float → Float → Type 0
Same c r = (r ≡ c) ⊎ ((c ≡ minus_zero) × (r ≡ zeros))

-- the answer is the pixel (c, d) in this sense
pub record Answered (c d : Float) (r : Distorted) : Type 0 where
  pub pixel : Pixel
  pub is : r ≡ Ok pixel
  pub first : Same c pixel.0
  pub second : Same d pixel.1
