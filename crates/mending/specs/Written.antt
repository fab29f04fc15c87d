-- What is written of a fresh table and a map of what was given of its cells. Definitions only.
use Rattle.std.specs.Prelude.{Bool, cond, ◌&&◌, List, ◌∷◌, ◌++◌, map, ℕ, ◌*◌, leb, Float, length, take}
use Rattle.std.specs.Prelude.{Option, Some, None}
use Rattle.std.specs.Float.{binary32}
use Rattle.std.specs.Float.Ieee.{to_bits}
use Rattle.region.specs.Size.{sized}
use Rattle.region.specs.declared.Region.{Region}
use Rattle.put_text.specs.Placed.{Written, written, with_text, joined}
use Rattle.listing_lines.specs.declared.CellLine.{CellLine}
use Rattle.listing_lines.specs.Read.{header_text, edges_text}
use Rattle.listing.specs.Read.{Listed, listed}
use Rattle.printer.specs.Made.{most_cells}
use Rattle.mending.specs.Mended.{mended_cell, filled_cell, differing_cell, each_cell}
use Rattle.mending.specs.Kept.{kept}
use Rattle.mending.specs.declared.Kind.{Kind}
use Rattle.mending.specs.declared.Kind.TheVariants.{Line, Filled, Differs}

-- what is told of a cell
abbrev pub told : Kind → Option CellLine → ℕ → ℕ → ℕ → ℕ → List (List ℕ)
told Line = mended_cell
told Filled = filled_cell
told Differs = differing_cell

-- of all cells of a fresh table, where `given u v` is what was given of the cell (u, v)
abbrev pub cells_told : Kind → (ℕ → ℕ → Option CellLine) → ℕ → List ℕ → List (List ℕ)
cells_told kind given width cells = each_cell (λ u v. told kind (given u v) u v) width 0 0 cells

-- the listing, the cells that were filled, those that differ
unfoldable pub lines_told : (ℕ → ℕ → Option CellLine) → Listed → List (List ℕ)
lines_told given fresh =
    let cells : Kind → List (List ℕ) = λ kind. cells_told kind given fresh.header.width fresh.cells in
    header_text fresh.header ∷ edges_text fresh.edges ∷ cells Line ++ (cells Filled ++ cells Differs)

-- ---- as the code has it

-- a cell that was given, and a table's bit patterns
abbrev pub given_as : ℕ → ℕ → ℕ → ℕ → Option CellLine
given_as u v a b = Some (record { u = u; v = v; a = a; b = b })

abbrev pub bits_of : List Float → List ℕ
bits_of table = map (to_bits binary32) table

-- whether a table of this size is printed, with so many numbers, and a map of so many
abbrev pub ready : ℕ → ℕ → ℕ → ℕ → Bool
ready width height numbers places =
    sized width height
    && (leb (width * height) most_cells && (leb (2 * (width * height)) numbers && leb (3 * (width * height)) places))

-- room for all that is printed: 34 bytes a cell for its line, 18 for one of the report
abbrev pub most_mended : ℕ
most_mended = 212992

-- a buffer with all of it at its start, and how many bytes that is; as it was, and 0, where there is no room for the
-- most, or where the numbers do not fit together
abbrev pub written_mended : ℕ → ℕ → ℕ → Region → List Float → List ℕ → List ℕ → Written
written_mended width height updates region table m out =
    let cells = take (2 * (width * height)) table in
    cond
    (leb most_mended (length out) && ready width height (length table) (length m))
    (with_text (written out 0) (joined (lines_told (kept m width) (listed width height updates region cells))))
    (written out 0)
