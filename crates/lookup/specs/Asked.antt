-- What the steps of a lookup ask of what they are handed. Definitions only.
use Rattle.std.specs.Prelude.{◌≡◌, ℕ, ◌*◌, ◌<◌, ◌≤◌, true, false, not, ◌&&◌, T, is_nan, Float}
use Rattle.std.specs.Float.Ieee.Scale.{finite}
use Rattle.lens.specs.Finite.{all_finite}
use Rattle.lens.specs.declared.Point.{Point}
use Rattle.region.specs.Region.{four}
use Rattle.region.specs.Size.{Sized}
use Rattle.region.specs.declared.Region.{Region}
use Rattle.lookup.specs.Lookup.{outside}
use Rattle.lookup.specs.declared.Spot.{Spot}

-- no NaN; it may be an infinity
abbrev pub Number : Float → Type 0
Number i = T (not (is_nan i))

-- an index among so many cells
pub record Inside (i : Float) (cells : ℕ) : Type 0 where
  pub number : Number i
  pub among : outside i cells ≡ false
  pub some : 0 < cells
  pub few : cells ≤ 4096

-- a table of a size that is taken has the places for it
pub record Whole (places width height : ℕ) : Type 0 where
  pub size : Sized width height
  pub all : places ≡ 2 * (width * height)

-- the four cells around two spots are there
pub record Reaches (places width : ℕ) (across down : Spot) : Type 0 where
  pub rows : ℕ
  pub all : places ≡ 2 * (width * rows)
  pub left : across.first < width
  pub right : across.second < width
  pub top : down.first < rows
  pub bottom : down.second < rows

-- neither 4 nor 6 nor 7
pub record Taken (places : ℕ) (region : Region) (width height : ℕ) (point : Point) : Type 0 where
  pub edges : all_finite (four region) ≡ true
  pub place : (finite point.0 && finite point.1) ≡ true
  pub whole : Whole places width height
