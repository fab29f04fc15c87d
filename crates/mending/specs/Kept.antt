-- A map of what the lines gave of a table's cells. It has three numbers for each cell, row by row: 1 where a line gave
-- it, else 0, and its two bit patterns. Definitions only.
use Rattle.std.specs.Prelude.{Bool, cond, ◌&&◌, List, [], ◌∷◌, ℕ, ◌+◌, ◌*◌, eqb, leb, ltb, length, get_or, set}
use Rattle.std.specs.Prelude.{Option, Some, None}
use Rattle.region.specs.Size.{sized}
use Rattle.listing_lines.specs.declared.CellLine.{CellLine}
use Rattle.listing_lines.specs.Read.{read_cell}

-- where the three numbers of the cell (u, v) begin
abbrev pub spot : ℕ → ℕ → ℕ → ℕ
spot width u v = 3 * (v * width + u)

-- ---- what a map has

-- of the cell (u, v), whose three numbers stand from place k on
unfoldable pub kept_from : List ℕ → ℕ → ℕ → ℕ → Option CellLine
kept_from map k u v =
    cond
    (eqb (get_or map k 0) 0)
    None
    (Some (record { u = u; v = v; a = get_or map (k + 1) 0; b = get_or map (k + 2) 0 }))

abbrev pub kept : List ℕ → ℕ → ℕ → ℕ → Option CellLine
kept map width u v = kept_from map (spot width u v) u v

-- ---- a line kept

-- whether there are three places from k on, and nothing stands there yet
abbrev pub free : List ℕ → ℕ → Bool
free map k = leb (k + 3) (length map) && eqb (get_or map k 0) 0

-- the patterns a and b put there
unfoldable pub keep_first : List ℕ → ℕ → ℕ → ℕ → List ℕ
keep_first map k a b = cond (free map k) (set (set (set map k 1) (k + 1) a) (k + 2) b) map

-- those of the cell (u, v), if it lies in the table
unfoldable pub keep_cell : List ℕ → ℕ → ℕ → ℕ → ℕ → ℕ → ℕ → List ℕ
keep_cell map width height u v a b =
    cond (sized width height && (ltb u width && ltb v height)) (keep_first map (spot width u v) a b) map

abbrev pub keep_read : ℕ → ℕ → List ℕ → Option CellLine → List ℕ
keep_read width height map None = map
keep_read width height map (Some c) = keep_cell map width height c.u c.v c.a c.b

-- what a line gives, if it is a line of a cell
unfoldable pub keep : ℕ → ℕ → List ℕ → List ℕ → List ℕ
keep width height map text = keep_read width height map (read_cell text)

-- line by line
unfoldable pub keep_all : ℕ → ℕ → List ℕ → List (List ℕ) → List ℕ
keep_all width height map [] = map
keep_all width height map (text ∷ texts) = keep_all width height (keep width height map text) texts
