-- The lines of a listing, as bytes (docs/RULES.md, 16). Definitions only.
use Rattle.std.specs.Prelude.{List, [], ◌∷◌, ◌++◌, ℕ, Float}
use Rattle.std.specs.Float.{binary32, binary64}
use Rattle.std.specs.Float.Ieee.{to_bits}
use Rattle.io.specs.Digits.{last_digits}
use Rattle.decimal.specs.Decimal.{decimal}
use Rattle.decimal.specs.Text.{tab, newline}
use Rattle.region.specs.declared.Region.{Region}

-- ---- numbers

-- a number as so many hexadecimal digits, in lower case
unfoldable pub hex : ℕ → ℕ → List ℕ
hex places n = last_digits 16 places n

-- ---- a line

-- a word and the fields that follow it, with a tab before each, and the line's end
unfoldable pub line : List ℕ → List (List ℕ) → List ℕ
line word [] = word ++ (newline ∷ [])
line word (field ∷ fields) = word ++ (tab ∷ line field fields)

abbrev pub word_table : List ℕ
word_table = 116 ∷ 97 ∷ 98 ∷ 108 ∷ 101 ∷ []

abbrev pub word_region : List ℕ
word_region = 114 ∷ 101 ∷ 103 ∷ 105 ∷ 111 ∷ 110 ∷ []

abbrev pub word_cell : List ℕ
word_cell = 99 ∷ 101 ∷ 108 ∷ 108 ∷ []

-- of a comparison's last line
abbrev pub word_count : List ℕ
word_count = 99 ∷ 111 ∷ 117 ∷ 110 ∷ 116 ∷ []

-- of a mended listing's report
abbrev pub word_filled : List ℕ
word_filled = 102 ∷ 105 ∷ 108 ∷ 108 ∷ 101 ∷ 100 ∷ []

abbrev pub word_differs : List ℕ
word_differs = 100 ∷ 105 ∷ 102 ∷ 102 ∷ 101 ∷ 114 ∷ 115 ∷ []

abbrev pub word_refused : List ℕ
word_refused = 114 ∷ 101 ∷ 102 ∷ 117 ∷ 115 ∷ 101 ∷ 100 ∷ []

-- width, height, updates
unfoldable pub table_line : ℕ → ℕ → ℕ → List ℕ
table_line width height updates = line word_table (decimal width ∷ decimal height ∷ decimal updates ∷ [])

-- the bit patterns of lower x and y, upper x and y; of a region, those of its edges
unfoldable pub region_text : ℕ → ℕ → ℕ → ℕ → List ℕ
region_text left top right bottom = line word_region (hex 16 left ∷ hex 16 top ∷ hex 16 right ∷ hex 16 bottom ∷ [])

abbrev pub region_line : Region → List ℕ
region_line r =
    region_text
    (to_bits binary64 r.left)
    (to_bits binary64 r.top)
    (to_bits binary64 r.right)
    (to_bits binary64 r.bottom)

-- a cell's place, across and down, and the bit patterns of its two numbers; of two f32, theirs
unfoldable pub cell_text : ℕ → ℕ → ℕ → ℕ → List ℕ
cell_text u v a b = line word_cell (decimal u ∷ decimal v ∷ hex 8 a ∷ hex 8 b ∷ [])

abbrev pub cell_line : ℕ → ℕ → Float → Float → List ℕ
cell_line u v a b = cell_text u v (to_bits binary32 a) (to_bits binary32 b)

-- all that is printed of a refusal
unfoldable pub refused_line : ℕ → List ℕ
refused_line number = line word_refused (decimal number ∷ [])

-- a cell that differs between two listings: its place, its old bit patterns, its new ones
unfoldable pub difference_line : ℕ → ℕ → ℕ → ℕ → ℕ → ℕ → List ℕ
difference_line u v a b c d = line (decimal u) (decimal v ∷ hex 8 a ∷ hex 8 b ∷ hex 8 c ∷ hex 8 d ∷ [])

-- how many there are
unfoldable pub count_line : ℕ → List ℕ
count_line n = line word_count (decimal n ∷ [])

-- a cell that was missing, and one that isn't as the fresh build has it: their places
unfoldable pub filled_line : ℕ → ℕ → List ℕ
filled_line u v = line word_filled (decimal u ∷ decimal v ∷ [])

unfoldable pub differs_line : ℕ → ℕ → List ℕ
differs_line u v = line word_differs (decimal u ∷ decimal v ∷ [])
