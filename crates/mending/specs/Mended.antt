-- What is printed of a table and the lines of a listing of it that may be damaged (docs/RULES.md, 16): the whole
-- listing, then the cells that were filled, then those that differ from the table. Definitions only.
use Rattle.std.specs.Prelude.{◌≡◌, true, cond, ◌&&◌, List, [], ◌∷◌, ◌++◌, ℕ, eqb}
use Rattle.std.specs.Prelude.{Option, Some, None}
use Rattle.listing_lines.specs.Line.{cell_text, filled_line, differs_line}
use Rattle.listing_lines.specs.declared.CellLine.{CellLine}
use Rattle.listing_lines.specs.Read.{header_text, edges_text, text_of_cell, fair_cell, read_cell}
use Rattle.listing.specs.Listing.{across, down}
use Rattle.listing.specs.Read.{Listed}

-- ---- what the lines give

-- what is read of a line, if it is a line of the cell (u, v); else what the later ones give
abbrev pub or_later : ℕ → ℕ → Option CellLine → Option CellLine → Option CellLine
or_later u v (Some c) later = cond (eqb c.u u && eqb c.v v) (Some c) later
or_later u v None later = later

-- the first of the lines that is one of the cell (u, v), wherever it stands; a line that is none of a cell's gives
-- nothing
unfoldable pub given : List (List ℕ) → ℕ → ℕ → Option CellLine
given [] u v = None
given (text ∷ texts) u v = or_later u v (read_cell text) (given texts u v)

-- where that is: the line stands at its place, and no line of the cell before it
pub record First (texts : List (List ℕ)) (u v : ℕ) (c : CellLine) : Type 0 where
  pub before : List (List ℕ)
  pub after : List (List ℕ)
  pub is : texts ≡ before ++ text_of_cell c ∷ after
  pub none_before : given before u v ≡ None
  pub column : c.u ≡ u
  pub row : c.v ≡ v
  pub fair : fair_cell c ≡ true

-- ---- what is printed of the cell (u, v), which has the patterns a and b in the fresh table

-- its line: as it was given, or else filled
abbrev pub mended_cell : Option CellLine → ℕ → ℕ → ℕ → ℕ → List (List ℕ)
mended_cell (Some c) u v a b = cell_text u v c.a c.b ∷ []
mended_cell None u v a b = cell_text u v a b ∷ []

-- whether it was filled
abbrev pub filled_cell : Option CellLine → ℕ → ℕ → ℕ → ℕ → List (List ℕ)
filled_cell (Some c) u v a b = []
filled_cell None u v a b = filled_line u v ∷ []

-- whether what was given differs
abbrev pub differing_cell : Option CellLine → ℕ → ℕ → ℕ → ℕ → List (List ℕ)
differing_cell (Some c) u v a b = cond (eqb c.a a && eqb c.b b) [] (differs_line u v ∷ [])
differing_cell None u v a b = []

-- ---- of all cells

-- row by row, from the cell at (u, v) on, with the fresh table's patterns from there on
unfoldable pub each_cell : (ℕ → ℕ → ℕ → ℕ → List (List ℕ)) → ℕ → ℕ → ℕ → List ℕ → List (List ℕ)
each_cell tell width u v (a ∷ b ∷ rest) = tell u v a b ++ each_cell tell width (across width u) (down width u v) rest
each_cell tell width u v (a ∷ []) = []
each_cell tell width u v [] = []

-- of a fresh table and the lines of a text
module _ (fresh : Listed) (texts : List (List ℕ)) where
  abbrev of_all : (Option CellLine → ℕ → ℕ → ℕ → ℕ → List (List ℕ)) → List (List ℕ)
  of_all tell = each_cell (λ u v. tell (given texts u v) u v) fresh.header.width 0 0 fresh.cells

  -- header and region are the fresh table's
  unfoldable pub mended_listing : List (List ℕ)
  mended_listing = header_text fresh.header ∷ edges_text fresh.edges ∷ of_all mended_cell

  unfoldable pub filled_lines : List (List ℕ)
  filled_lines = of_all filled_cell

  unfoldable pub differs_lines : List (List ℕ)
  differs_lines = of_all differing_cell

  unfoldable pub mended_report : List (List ℕ)
  mended_report = filled_lines ++ differs_lines

  -- all of it
  unfoldable pub mended_lines : List (List ℕ)
  mended_lines = mended_listing ++ mended_report
