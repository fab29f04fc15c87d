-- The listing of a table, as bytes (docs/RULES.md, 16). Definitions only.
use Rattle.std.specs.Prelude.{cond, List, [], ◌∷◌, ◌++◌, map, ℕ, zero, suc, ◌+◌, eqb, ltb, Float}
use Rattle.std.specs.Float.{binary32}
use Rattle.std.specs.Float.Ieee.{to_bits}
use Rattle.region.specs.declared.Region.{Region}
use Rattle.put_text.specs.Placed.{joined}
use Rattle.listing_lines.specs.Line.{table_line, region_line, cell_text}

-- ---- the cells

-- the place after (u, v): the next in the row, or the first of the next row
unfoldable pub across : ℕ → ℕ → ℕ
across width u = cond (eqb (u + 1) width) 0 (u + 1)

unfoldable pub down : ℕ → ℕ → ℕ → ℕ
down width u v = cond (eqb (u + 1) width) (v + 1) v

-- the lines from the cell at (u, v) on, with the table's bit patterns from there on: row by row, to the last row or to
-- the table's end
unfoldable pub cell_texts : ℕ → ℕ → ℕ → ℕ → List ℕ → List (List ℕ)
cell_texts width height u v [] = []
cell_texts width height u v (a ∷ []) = []
cell_texts width height u v (a ∷ b ∷ rest) =
    cond (ltb v height) (cell_text u v a b ∷ cell_texts width height (across width u) (down width u v) rest) []

-- of a table of f32, those of their patterns
abbrev pub cell_lines : ℕ → ℕ → ℕ → ℕ → List Float → List (List ℕ)
cell_lines width height u v table = cell_texts width height u v (map (to_bits binary32) table)

-- what is told of n cells by their numbers, from cell k on: cell k of a table of w columns is the one in column k mod w
-- and row k div w
unfoldable pub each : (ℕ → List (List ℕ)) → ℕ → ℕ → List (List ℕ)
each tell k zero = []
each tell k (suc n) = tell k ++ each tell (suc k) n

-- ---- the listing

unfoldable pub listing_lines : ℕ → ℕ → ℕ → Region → List Float → List (List ℕ)
listing_lines width height updates region table =
    table_line width height updates ∷ region_line region ∷ cell_lines width height 0 0 table

unfoldable pub listing : ℕ → ℕ → ℕ → Region → List Float → List ℕ
listing width height updates region table = joined (listing_lines width height updates region table)
