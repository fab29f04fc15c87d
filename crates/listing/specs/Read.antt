-- Reading a listing: what it tells, for the bytes that are the listing of a table with sides of 2 to 4,096, and none
-- for any other bytes: not for one with a cell too few, too many or out of its place. Definitions only.
use Rattle.std.specs.Prelude.{Bool, true, cond, ◌&&◌, List, [], ◌∷◌, map, ℕ, ◌*◌, eqb, Float, length, get_or, drop}
use Rattle.std.specs.Prelude.{Option}
use Rattle.std.specs.Float.{binary32, binary64}
use Rattle.std.specs.Float.Ieee.{to_bits}
use Rattle.decimal.specs.Text.{newline}
use Rattle.region.specs.Size.{sized}
use Rattle.region.specs.declared.Region.{Region}
use Rattle.put_text.specs.Placed.{joined}
use Rattle.listing_lines.specs.declared.TableLine.{TableLine}
use Rattle.listing_lines.specs.declared.RegionLine.{RegionLine}
use Rattle.listing_lines.specs.Read.{onto, read_as, fields, single, header_text, header_of, edges_text}
use Rattle.listing_lines.specs.Read.{fair_edges, edges_of, cell_of}
use Rattle.listing.specs.Listing.{cell_texts}

-- ---- what a listing tells

-- the table's size and the updates that it took, its region, and its cells: bit patterns, so that each NaN is itself
pub record Listed : Type 0 where
  pub header : TableLine
  pub edges : RegionLine
  pub cells : List ℕ

-- of a table of f32 and its region, their patterns
abbrev pub listed : ℕ → ℕ → ℕ → Region → List Float → Listed
listed width height updates region table = record {
  header = record { width = width; height = height; updates = updates };
  edges = record {
    left = to_bits binary64 region.left;
    top = to_bits binary64 region.top;
    right = to_bits binary64 region.right;
    bottom = to_bits binary64 region.bottom;
  };
  cells = map (to_bits binary32) table;
}

-- its lines: the table's, the region's, the cells' row by row
unfoldable pub listed_lines : Listed → List (List ℕ)
listed_lines l =
    let h = l.header in
    header_text h ∷ edges_text l.edges ∷ cell_texts h.width h.height 0 0 l.cells

-- and their bytes
unfoldable pub listed_text : Listed → List ℕ
listed_text l = joined (listed_lines l)

-- ---- what it may tell

-- sides of 2 to 4,096, and updates that are a u32
abbrev pub fair_header : TableLine → Bool
fair_header h = sized h.width h.height && single h.updates

abbrev pub all_single : List ℕ → Bool
all_single [] = true
all_single (n ∷ rest) = single n && all_single rest

-- edges that are an f64's patterns, and two f32's for each of w·h cells
abbrev pub fair : Listed → Bool
fair l =
    (fair_header l.header && fair_edges l.edges)
    && (eqb (length l.cells) (2 * (l.header.width * l.header.height)) && all_single l.cells)

-- ---- reading

-- the lines of a text, each with its end
unfoldable pub lines : List ℕ → List (List ℕ)
lines [] = []
lines (b ∷ text) = cond (eqb b newline) ((newline ∷ []) ∷ lines text) (onto b (lines text))

-- the patterns of the cells that some lines tell of
unfoldable pub patterns : List (List ℕ) → List ℕ
patterns [] = []
patterns (text ∷ texts) = let c = cell_of (fields text) in c.a ∷ c.b ∷ patterns texts

unfoldable pub listed_of : List (List ℕ) → Listed
listed_of texts = record {
  header = header_of (fields (get_or texts 0 []));
  edges = edges_of (fields (get_or texts 1 []));
  cells = patterns (drop 2 texts);
}

unfoldable pub read_listing : List ℕ → Option Listed
read_listing text = read_as fair listed_text (listed_of (lines text)) text
