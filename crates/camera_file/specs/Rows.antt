-- The rows of the refusal table (docs/RULES.md, 5.1) that a camera file can meet, in the order they are tried: each
-- number, and when it is given. Definitions only.
use Rattle.std.specs.Prelude.{Bool, true, false, not, Option, Some, None, List, [], ◌∷◌, ℕ, eqb, length}
use Rattle.lens.specs.Rows.{Row, ◌when◌}
use Rattle.camera_file.specs.Reading.{is_file, file_of}
use Rattle.camera.specs.Numbers.{count}
use Rattle.camera_file.specs.Asked.{model}

-- 1: the name is no model's
abbrev pub is_unknown : Option ℕ → Bool
is_unknown (Some m) = false
is_unknown None = true

-- 3: so many parameters, and not the model's count
abbrev pub wrong_count : Option ℕ → ℕ → Bool
wrong_count (Some m) n = not (eqb n (count m))
wrong_count None n = false

abbrev pub file_rows : List ℕ → List Row
file_rows text =
    let file = file_of text in
    (14 when not (is_file text))
    ∷ (1 when is_unknown (model file.name))
    ∷ (3 when wrong_count (model file.name) (length file.params)) ∷ []
