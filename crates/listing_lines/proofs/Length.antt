-- How long a line is. Assumes nothing.
use mathlib.Core.Path.{◌≡◌, refl}
use mathlib.Core.List.{List, [], ◌∷◌}
use Prim.Native.Nat.{ℕ, ◌+◌}
use native.Mathlib.Omega.{arith}
use lib.ListN.{length, length-append}
use Rattle.decimal.specs.Decimal.{decimal}
use Rattle.listing_lines.specs.Line.{line, table_line, region_text, cell_text, refused_line, filled_line, differs_line}
use Rattle.listing_lines.proofs.Numbers.{hex_length}

field_more : (word field : List ℕ) (fields : List (List ℕ)) → length (line word (field ∷ fields)) ≡ length word + 1 + length (line field fields)
unfolding line
field_more word field fields = simp (length-append) (omega arith)

field_last : (word : List ℕ) → length (line word []) ≡ length word + 1
unfolding line
field_last word = length-append word (10 ∷ [])

pub refused_length : (n : ℕ) → length (refused_line n) ≡ 9 + length (decimal n)
unfolding refused_line
refused_length n = simp (field_more, field_last) (omega arith)

pub table_length : (width height updates : ℕ) → length (table_line width height updates) ≡ 9 + length (decimal width) + length (decimal height) + length (decimal updates)
unfolding table_line
table_length width height updates = simp (field_more, field_last) (omega arith)

pub region_length : (l t r b : ℕ) → length (region_text l t r b) ≡ 75
unfolding region_text
region_length l t r b = simp (field_more, field_last, hex_length) refl

pub cell_length : (u v a b : ℕ) → length (cell_text u v a b) ≡ 25 + length (decimal u) + length (decimal v)
unfolding cell_text
cell_length u v a b = simp (field_more, field_last, hex_length) (omega arith)

pub filled_length : (u v : ℕ) → length (filled_line u v) ≡ 9 + length (decimal u) + length (decimal v)
unfolding filled_line
filled_length u v = simp (field_more, field_last) (omega arith)

pub differs_length : (u v : ℕ) → length (differs_line u v) ≡ 10 + length (decimal u) + length (decimal v)
unfolding differs_line
differs_length u v = simp (field_more, field_last) (omega arith)
