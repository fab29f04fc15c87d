-- The rows of the refusal table (docs/RULES.md, 5.1) that a lookup can meet, in the order they are tried. The laws hold
-- it to them. Definitions only.
use Rattle.std.specs.Prelude.{ℕ, ◌*◌, not, ◌&&◌, ◌||◌, List, [], ◌∷◌, ◌++◌, length, ◌==◌, Float}
use Rattle.std.specs.Float.Ieee.Scale.{finite}
use Rattle.lens.specs.Finite.{all_finite}
use Rattle.lens.specs.Rows.{Row, ◌when◌}
use Rattle.lens.specs.declared.Point.{Point}
use Rattle.region.specs.Region.{four, increments, flat}
use Rattle.region.specs.Size.{sized}
use Rattle.region.specs.declared.Region.{Region}
use Rattle.lookup.specs.Lookup.{index_across, index_down, outside, spot, pixel_at}

-- what is judged ahead of the indices, of a table with so many places: the increments' 8 and 11 among them
abbrev pub ahead : ℕ → Region → ℕ → ℕ → Point → List Row
ahead places region width height point =
    let by = increments region width height in
    (4 when not (all_finite (four region)) || not (finite point.0 && finite point.1))
    ∷ (6 when not (sized width height))
    ∷ (7 when not (places == 2 * (width * height)))
    ∷ (8 when flat by.0 || flat by.1)
    ∷ (11 when not (finite by.0 && finite by.1)) ∷ []

abbrev pub lookup_rows : List Float → Region → ℕ → ℕ → Point → List Row
lookup_rows table region width height point =
    let i = index_across region width height point in
    let j = index_down region width height point in
    let pixel = pixel_at table width (spot i width) (spot j height) in
    ahead (length table) region width height point
    ++ (9 when outside i width || outside j height)
    ∷ (11 when not (finite pixel.0 && finite pixel.1)) ∷ []
