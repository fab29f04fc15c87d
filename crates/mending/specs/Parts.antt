-- What the parts of the code that write ask of their callers. Definitions only.
use Rattle.std.specs.Prelude.{ℕ, ◌*◌, ◌≤◌, ◌<◌}
use Rattle.printer.specs.Made.{most_cells}

-- of a table's width, of how many numbers it has, and of how many a map has
pub record Matched (width numbers places : ℕ) : Type 0 where
  pub some : 0 < width
  pub few : numbers ≤ 2 * most_cells
  pub enough : 3 * numbers ≤ 2 * places
