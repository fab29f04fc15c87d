-- Lookup: the pixel at a point between the cells of a table. Definitions only.
use Rattle.std.specs.Prelude.{ℕ, ◌+◌, ◌-◌, ◌*◌, min, Bool, cond, not, ◌&&◌, ◌||◌, List, length, ◌==◌, slice_index_or, Float, Err}
use Rattle.std.specs.Float.{nan}
use Rattle.std.specs.Float.Ieee.{lt, to_unsigned}
use Rattle.std.specs.Float.Ieee.Scale.{finite}
use Rattle.exact.specs.F64.{◌⊕◌, ◌⊖◌, ◌⊗◌, ◌⊘◌}
use Rattle.lens.specs.Constants.{zeros}
use Rattle.lens.specs.Distorted.{finite_pixel}
use Rattle.lens.specs.Finite.{all_finite}
use Rattle.lens.specs.Judgement.{decided, accepted}
use Rattle.lens.specs.Distorted.{Distorted}
use Rattle.lens.specs.Judgement.{Judgement}
use Rattle.lens.specs.declared.Pixel.{Pixel}
use Rattle.lens.specs.declared.Point.{Point}
use Rattle.lens.specs.declared.Refusal.TheVariants.{NotFinite, WrongSize, WrongLength, OutsideTable}
use Rattle.region.specs.Region.{four, increments, wrong}
use Rattle.region.specs.Size.{float, sized}
use Rattle.region.specs.declared.Region.{Region}
use Rattle.lookup.specs.declared.Spot.{Spot}

-- ---- where a point lies, across or down

-- (point - lower)/increment
unfoldable pub index : Float → Float → Float → Float
index x lower by = (x ⊖ lower) ⊘ by

abbrev pub index_across : Region → ℕ → ℕ → Point → Float
index_across region width height point = index point.0 region.left (increments region width height).0

abbrev pub index_down : Region → ℕ → ℕ → Point → Float
index_down region width height point = index point.1 region.top (increments region width height).1

-- below 0, or above the last of so many cells
abbrev pub outside : Float → ℕ → Bool
outside i cells = lt i zeros || lt (float (cells - 1)) i

-- its whole part, and its fraction: -0 for an index of -0
abbrev pub whole_part : Float → ℕ
whole_part i = to_unsigned 64 i

abbrev pub fraction : Float → Float
fraction i = i ⊖ float (whole_part i)

-- the cell after it; after the last one that cell itself
abbrev pub neighbour : ℕ → ℕ → ℕ
neighbour n cells = min (n + 1) (cells - 1)

unfoldable pub spot : Float → ℕ → Spot
spot i cells = record {
  first = whole_part i;
  second = neighbour (whole_part i) cells;
  part = fraction i;
}

-- ---- the pixel there

unfoldable pub between : Float → Float → Float → Float
between c d a = c ⊕ a ⊗ (d ⊖ c)

-- across in the upper row and in the lower one, and from what the upper gives to what the lower does
unfoldable pub blended : Float → Float → Float → Float → Float → Float → Float
blended c00 c10 c01 c11 a b = between (between c00 c10 a) (between c01 c11 a) b

-- number k, 0 or 1, of cell (u, v)
unfoldable pub cell : List Float → ℕ → ℕ → ℕ → ℕ → Float
cell table width k u v = slice_index_or table (2 * (v * width + u) + k) nan

unfoldable pub number_at : List Float → ℕ → ℕ → Spot → Spot → Float
number_at table width k across down =
    blended
    (cell table width k across.first down.first)
    (cell table width k across.second down.first)
    (cell table width k across.first down.second)
    (cell table width k across.second down.second)
    across.part
    down.part

abbrev pub pixel_at : List Float → ℕ → Spot → Spot → Pixel
pixel_at table width across down = record {
  0 = number_at table width 0 across down;
  1 = number_at table width 1 across down;
}

-- ---- the refusals around it

-- 9, then 11 on the answer
unfoldable pub looked_up : List Float → ℕ → ℕ → Float → Float → Distorted
looked_up table width height i j =
    cond (outside i width || outside j height) (Err OutsideTable)
    (finite_pixel (pixel_at table width (spot i width) (spot j height)))

-- before them 8 and 11 on the increments
unfoldable pub spread : List Float → Region → ℕ → ℕ → Point → Distorted
spread table region width height point =
    decided (wrong (increments region width height)) Err
    (looked_up table width height (index_across region width height point) (index_down region width height point))

-- and first of all 4, 6 and 7, of a table with so many places
unfoldable pub admitted : ℕ → Region → ℕ → ℕ → Point → Judgement
admitted places region width height point =
    cond (not (all_finite (four region)) || not (finite point.0 && finite point.1)) (Err NotFinite)
    (cond (not (sized width height)) (Err WrongSize)
    (cond (places == 2 * (width * height)) accepted (Err WrongLength)))

abbrev pub lookup : List Float → Region → ℕ → ℕ → Point → Distorted
lookup table region width height point =
    decided (admitted (length table) region width height point) Err (spread table region width height point)
