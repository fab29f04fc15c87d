-- A text cut into lines as they are held, and judged line by line. Definitions only.
use Rattle.std.specs.Prelude.{Bool, true, false, cond, ◌&&◌, List, [], ◌∷◌, ℕ, zero, suc, eqb, ltb}
use Rattle.std.specs.Prelude.{Option, Some, None, Ok, Err}
use Rattle.decimal.specs.Text.{newline}
use Rattle.lens.specs.Judgement.{Judgement}
use Rattle.lens.specs.declared.Refusal.TheVariants.{NotTheForm, SizesDiffer}
use Rattle.region.specs.Size.{sized}
use Rattle.listing_lines.specs.Read.{onto, read_table, read_region, read_cell}
use Rattle.listing_lines.specs.declared.TableLine.{TableLine}
use Rattle.listing_lines.specs.declared.RegionLine.{RegionLine}
use Rattle.listing_lines.specs.declared.CellLine.{CellLine}
use Rattle.listing.specs.Listing.{across, down}
use Rattle.compare.specs.declared.Judging.{Judging}
use Rattle.compare.specs.declared.Judging.TheVariants.{Start, Sized, Cells, Bad}

-- ---- lines

-- as many bytes of a line as are held: no line of a listing has more
abbrev pub longest : ℕ
longest = 96

-- how many bytes the first line has, with its end: no more than there is room for
unfoldable pub line_end : ℕ → List ℕ → ℕ
line_end zero text = 0
line_end (suc room) [] = 0
line_end (suc room) (b ∷ text) = cond (eqb b newline) 1 (suc (line_end room text))

-- whether a piece of a text has all of its first line, or as much of it as there is room for
unfoldable pub complete : ℕ → List ℕ → Bool
complete zero text = true
complete (suc room) [] = false
complete (suc room) (b ∷ text) = cond (eqb b newline) true (complete room text)

-- the lines of a text, with room for so many more bytes in the first; a longer one is cut
unfoldable pub cut : ℕ → List ℕ → List (List ℕ)
cut room [] = []
cut zero (b ∷ text) = (b ∷ []) ∷ cut longest text
cut (suc zero) (b ∷ text) = (b ∷ []) ∷ cut longest text
cut (suc (suc room)) (b ∷ text) = cond (eqb b newline) ((b ∷ []) ∷ cut longest text) (onto b (cut (suc room) text))

-- ---- judging

abbrev pub after_table : Option TableLine → Judging
after_table (Some t) = cond (sized t.width t.height) (Sized t.width t.height) Bad
after_table None = Bad

abbrev pub after_region : ℕ → ℕ → Option RegionLine → Judging
after_region width height (Some r) = Cells width height 0 0
after_region width height None = Bad

-- the line tells of (x, y); the next cell is (u, v)
unfoldable pub next_cell : ℕ → ℕ → ℕ → ℕ → ℕ → ℕ → Judging
next_cell width height u v x y =
    cond ((eqb x u && eqb y v) && (ltb u width && ltb v height))
    (Cells width height (across width u) (down width u v))
    Bad

abbrev pub after_cell : ℕ → ℕ → ℕ → ℕ → Option CellLine → Judging
after_cell width height u v (Some c) = next_cell width height u v c.u c.v
after_cell width height u v None = Bad

unfoldable pub step : Judging → List ℕ → Judging
step Start text = after_table (read_table text)
step (Sized width height) text = after_region width height (read_region text)
step (Cells width height u v) text = after_cell width height u v (read_cell text)
step Bad text = Bad

-- line by line
unfoldable pub judged : Judging → List (List ℕ) → Judging
judged s [] = s
judged s (text ∷ texts) = judged (step s text) texts

-- every line of a listing has come, and no more
abbrev pub whole : Judging → Bool
whole (Cells width height u v) = eqb v height
whole Start = false
whole (Sized width height) = false
whole Bad = false

abbrev pub is_size : ℕ → ℕ → Judging → Bool
is_size width height (Cells w h u v) = eqb width w && eqb height h
is_size width height Start = false
is_size width height (Sized w h) = false
is_size width height Bad = false

abbrev pub same_size : Judging → Judging → Bool
same_size (Cells width height u v) t = is_size width height t
same_size Start t = false
same_size (Sized width height) t = false
same_size Bad t = false

-- of two texts
unfoldable pub verdict : Judging → Judging → Judgement
verdict s t = cond (whole s && whole t) (cond (same_size s t) (Ok tt) (Err SizesDiffer)) (Err NotTheForm)
