-- What is printed of two texts (docs/RULES.md, 16): the cells that differ between two listings of one size, or one line
-- that says which refusal. Definitions only.
use Rattle.std.specs.Prelude.{Bool, cond, ◌&&◌, List, [], ◌∷◌, ◌++◌, ℕ, ◌+◌, ◌*◌, ◌/◌, ◌%◌, eqb, length, get_or}
use Rattle.std.specs.Prelude.{Option, Some, None}
use Rattle.decimal.specs.Text.{same}
use Rattle.lens.specs.Refusal.{number}
use Rattle.lens.specs.declared.Refusal.TheVariants.{NotTheForm, SizesDiffer}
use Rattle.put_text.specs.Placed.{joined}
use Rattle.listing_lines.specs.Line.{difference_line, count_line, refused_line}
use Rattle.listing_lines.specs.declared.TableLine.{TableLine}
use Rattle.listing_lines.specs.Read.{header_text, edges_text}
use Rattle.listing.specs.Listing.{across, down}
use Rattle.listing.specs.Read.{Listed, read_listing}

-- ---- two listings of one size

-- two lines that stand at one place, the old one first, unless they are the same
abbrev pub both_lines : List ℕ → List ℕ → List (List ℕ)
both_lines old new = cond (same old new) [] (old ∷ new ∷ [])

-- the lines of the cells whose bits differ, from the cell at (u, v) on and row by row, by the two tables' patterns from
-- there on
unfoldable pub differing : ℕ → ℕ → ℕ → List ℕ → List ℕ → List (List ℕ)
differing width u v (a ∷ b ∷ old) (c ∷ d ∷ new) =
    let later = differing width (across width u) (down width u v) old new in
    cond (eqb a c && eqb b d) later (difference_line u v a b c d ∷ later)
differing width u v [] new = []
differing width u v (a ∷ []) new = []
differing width u v (a ∷ b ∷ old) [] = []
differing width u v (a ∷ b ∷ old) (c ∷ []) = []

-- by its number: what is told of cell k of two tables of so many columns is its line, if its bits differ
abbrev pub told_at : ℕ → List ℕ → List ℕ → ℕ → List (List ℕ)
told_at width old new k =
    let a = get_or old (2 * k) 0 in
    let b = get_or old (2 * k + 1) 0 in
    let c = get_or new (2 * k) 0 in
    let d = get_or new (2 * k + 1) 0 in
    cond (eqb a c && eqb b d) [] (difference_line (k % width) (k / width) a b c d ∷ [])

-- the table's lines and the region's, where they differ; the cells that do, and how many they are
unfoldable pub report : Listed → Listed → List (List ℕ)
report l m =
    let cells = differing l.header.width 0 0 l.cells m.cells in
    both_lines (header_text l.header) (header_text m.header)
    ++ (both_lines (edges_text l.edges) (edges_text m.edges) ++ (cells ++ (count_line (length cells) ∷ [])))

-- ---- two texts

abbrev pub one_size : TableLine → TableLine → Bool
one_size g h = eqb g.width h.width && eqb g.height h.height

-- 14 where either is no listing, then 15 where their sizes differ
abbrev pub report_or_refusal : Option Listed → Option Listed → List (List ℕ)
report_or_refusal (Some l) (Some m) =
    cond (one_size l.header m.header) (report l m) (refused_line (number SizesDiffer) ∷ [])
report_or_refusal (Some l) None = refused_line (number NotTheForm) ∷ []
report_or_refusal None m = refused_line (number NotTheForm) ∷ []

unfoldable pub compared : List ℕ → List ℕ → List ℕ
compared old new = joined (report_or_refusal (read_listing old) (read_listing new))
