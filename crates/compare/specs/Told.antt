-- What is told of two lines, one of each text, and of two texts line by line. Definitions only.
use Rattle.std.specs.Prelude.{cond, Option, Some, None, List, [], ◌∷◌, ◌++◌, ℕ, ◌+◌, ◌^◌, ltb}
use Rattle.decimal.specs.Text.{same}
use Rattle.lens.specs.Judgement.{decided}
use Rattle.lens.specs.Refusal.{number}
use Rattle.put_text.specs.Placed.{joined}
use Rattle.listing_lines.specs.Line.{difference_line, count_line, refused_line}
use Rattle.listing_lines.specs.Read.{read_cell}
use Rattle.listing_lines.specs.declared.CellLine.{CellLine}
use Rattle.compare.specs.Judged.{longest, cut, judged, verdict}
use Rattle.compare.specs.declared.Difference.{Difference}
use Rattle.compare.specs.declared.Difference.TheVariants.{Same, Lines, Cells}
use Rattle.compare.specs.declared.Judging.TheVariants.{Start}

-- ---- two lines

abbrev pub cells_told : Option CellLine → Option CellLine → Difference
cells_told (Some c) (Some d) = Cells c.u c.v c.a c.b d.a d.b
cells_told (Some c) None = Lines
cells_told None new = Lines

unfoldable pub told : List ℕ → List ℕ → Difference
told old new = cond (same old new) Same (cells_told (read_cell old) (read_cell new))

-- how many cells differ, with one answer more
unfoldable pub counted : ℕ → Difference → ℕ
counted count Same = count
counted count Lines = count
counted count (Cells u v a b c d) = cond (ltb count (2 ^ 32)) (count + 1) count

-- what is printed of it
abbrev pub told_lines : Difference → List ℕ → List ℕ → List (List ℕ)
told_lines Same old new = []
told_lines Lines old new = old ∷ new ∷ []
told_lines (Cells u v a b c d) old new = difference_line u v a b c d ∷ []

-- ---- two texts, line by line

unfoldable pub all_told : List (List ℕ) → List (List ℕ) → List (List ℕ)
all_told (s ∷ old) (t ∷ new) = told_lines (told s t) s t ++ all_told old new
all_told [] new = []
all_told (s ∷ old) [] = []

unfoldable pub all_counted : ℕ → List (List ℕ) → List (List ℕ) → ℕ
all_counted count (s ∷ old) (t ∷ new) = all_counted (counted count (told s t)) old new
all_counted count [] new = count
all_counted count (s ∷ old) [] = count

-- what judging and comparing line by line gives: both texts are judged, and if they are taken, compared
unfoldable pub by_lines : List ℕ → List ℕ → List ℕ
by_lines old new =
    let s = cut longest old in
    let t = cut longest new in
    decided (verdict (judged Start s) (judged Start t))
    (λ r. refused_line (number r))
    (joined (all_told s t) ++ count_line (all_counted 0 s t))
