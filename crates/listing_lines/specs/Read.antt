-- Reading the lines of a listing. Each of the three readings answers the numbers whose text the bytes are, as bit
-- patterns where the line has such, and none for any other bytes. Definitions only.
use Rattle.std.specs.Prelude.{Bool, cond, ◌&&◌, Option, Some, List, [], ◌∷◌, ℕ, ◌^◌, eqb, ltb, get_or, unwrap_or}
use Rattle.std.specs.Bool.{then_some}
use Rattle.decimal.specs.Decimal.{worth}
use Rattle.decimal.specs.Text.{tab, newline, same}
use Rattle.hexadecimal.specs.Hex.{read}
use Rattle.listing_lines.specs.Line.{table_line, region_text, cell_text}
use Rattle.listing_lines.specs.declared.TableLine.{TableLine}
use Rattle.listing_lines.specs.declared.RegionLine.{RegionLine}
use Rattle.listing_lines.specs.declared.CellLine.{CellLine}

-- ---- pieces

-- a byte ahead of the first of some texts
abbrev pub onto : ℕ → List (List ℕ) → List (List ℕ)
onto b [] = (b ∷ []) ∷ []
onto b (text ∷ texts) = (b ∷ text) ∷ texts

-- the word and the fields of a line: what stands between its tabs, up to its end
unfoldable pub fields : List ℕ → List (List ℕ)
fields [] = [] ∷ []
fields (b ∷ text) = cond (eqb b newline) ([] ∷ []) (cond (eqb b tab) ([] ∷ fields text) (onto b (fields text)))

-- what is guessed of a text, if that may be told and the text is the one that is written of it
abbrev pub read_as : {A : Type 0} → (A → Bool) → (A → List ℕ) → A → List ℕ → Option A
read_as fair write guess text = then_some (fair guess && same text (write guess)) guess

-- field k of a line, in decimal and as a bit pattern
abbrev pub number_at : List (List ℕ) → ℕ → ℕ
number_at fields k = worth 0 (get_or fields k [])

abbrev pub pattern_at : List (List ℕ) → ℕ → ℕ
pattern_at fields k = unwrap_or (read (Some 0) (get_or fields k [])) 0

-- whether a pattern is an f32's, and an f64's
abbrev pub single : ℕ → Bool
single n = ltb n (2 ^ 32)

abbrev pub double : ℕ → Bool
double n = ltb n (2 ^ 64)

-- ---- a table's line

abbrev pub header_text : TableLine → List ℕ
header_text h = table_line h.width h.height h.updates

-- numbers of 32 bits
abbrev pub fair_numbers : TableLine → Bool
fair_numbers h = single h.width && (single h.height && single h.updates)

unfoldable pub header_of : List (List ℕ) → TableLine
header_of f = record { width = number_at f 1; height = number_at f 2; updates = number_at f 3 }

unfoldable pub read_table : List ℕ → Option TableLine
read_table text = read_as fair_numbers header_text (header_of (fields text)) text

-- ---- a region's: the bit patterns of its edges

abbrev pub edges_text : RegionLine → List ℕ
edges_text e = region_text e.left e.top e.right e.bottom

abbrev pub fair_edges : RegionLine → Bool
fair_edges e = (double e.left && double e.top) && (double e.right && double e.bottom)

unfoldable pub edges_of : List (List ℕ) → RegionLine
edges_of f = record { left = pattern_at f 1; top = pattern_at f 2; right = pattern_at f 3; bottom = pattern_at f 4 }

unfoldable pub read_region : List ℕ → Option RegionLine
read_region text = read_as fair_edges edges_text (edges_of (fields text)) text

-- ---- a cell's: its place, and two bit patterns

abbrev pub text_of_cell : CellLine → List ℕ
text_of_cell c = cell_text c.u c.v c.a c.b

-- a place of 32 bits, and an f32's patterns
abbrev pub fair_cell : CellLine → Bool
fair_cell c = (single c.u && single c.v) && (single c.a && single c.b)

unfoldable pub cell_of : List (List ℕ) → CellLine
cell_of f = record { u = number_at f 1; v = number_at f 2; a = pattern_at f 3; b = pattern_at f 4 }

unfoldable pub read_cell : List ℕ → Option CellLine
read_cell text = read_as fair_cell text_of_cell (cell_of (fields text)) text
