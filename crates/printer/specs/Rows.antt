-- The rows of the refusal table (docs/RULES.md, 5.1) that an input can meet before its table is built, in the order
-- they are tried: each number, and when it is given; and what is printed by them. Definitions only.
use Rattle.std.specs.Prelude.{cond, Result, Ok, Err, List, [], ◌∷◌, ◌++◌, ℕ, ◌*◌, eqb, ltb}
use Rattle.lens.specs.Rows.{Row, ◌when◌}
use Rattle.camera_file.specs.Asked.{parsed}
use Rattle.camera_file.specs.Rows.{file_rows}
use Rattle.camera_file.specs.declared.Asked.{Asked}
use Rattle.lens.specs.declared.Refusal.{Refusal}
use Rattle.job.specs.Rows.{fresh_rows}
use Rattle.listing_lines.specs.Line.{refused_line}
use Rattle.printer.specs.Made.{most_cells, build_whole, made_in, blank_room}
use Rattle.printer.specs.Printed.{made_text}

-- 4, 5 and 6 for its sides, of the camera and the size that a file asks for, and 6 for more cells than are printed
abbrev pub asked_rows : Result Asked Refusal → List Row
asked_rows (Ok a) = fresh_rows a.camera a.width a.height ++ ((6 when ltb most_cells (a.width * a.height)) ∷ [])
asked_rows (Err refusal) = []

-- 14, 1 and 3 of the file come first
abbrev pub printer_rows : List ℕ → List Row
printer_rows input = file_rows input ++ asked_rows (parsed input)

-- what the build of the table asked for says: its listing, or the line with the number of the unit that refused
abbrev pub built_text : Result Asked Refusal → List ℕ
built_text (Ok a) = made_text (made_in (build_whole blank_room a.camera a.width a.height))
built_text (Err refusal) = []

-- the line with the number of the first row that holds; where none does, what the build says
abbrev pub by_rows : ℕ → List ℕ → List ℕ
by_rows number text = cond (eqb number 0) text (refused_line number)
