-- How a camera file's text is read: field by field, each up to its tab or newline. Where one of these is missing, the
-- field after it is empty, and no field may be empty. Definitions only.
use Rattle.std.specs.Prelude.{Bool, cond, ◌&&◌, Option, Some, None, List, ℕ, leb, ltb, length}
use Rattle.decimal.specs.Decimal.{worth, is_number}
use Rattle.decimal.specs.Text.{tab, newline, all, same, before, past}
use Rattle.params_line.specs.Params.{is_params, params_of}
use Rattle.camera_file.specs.Text.{camera_word, letter, longest, CameraFile}

-- ---- the name

unfoldable pub is_name : List ℕ → Bool
is_name field = ltb 0 (length field) && (leb (length field) 16 && all letter field)

-- ---- the whole text

-- from the height on, from the width on, and from the name on
unfoldable pub is_high : List ℕ → Bool
is_high text = is_number (before newline text) && is_params (past newline text)

unfoldable pub is_wide : List ℕ → Bool
is_wide text = is_number (before tab text) && is_high (past tab text)

unfoldable pub is_named : List ℕ → Bool
is_named text = is_name (before tab text) && is_wide (past tab text)

-- whether a text is of the form
unfoldable pub is_file : List ℕ → Bool
is_file text = leb (length text) longest && (same (before tab text) camera_word && is_named (past tab text))

-- what it says
unfoldable pub file_of : List ℕ → CameraFile
file_of text =
    let named = past tab text in
    let wide = past tab named in
    let high = past tab wide in
    record {
      name = before tab named;
      width = worth 0 (before tab wide);
      height = worth 0 (before newline high);
      params = params_of (past newline high);
    }

unfoldable pub read : List ℕ → Option CameraFile
read text = cond (is_file text) (Some (file_of text)) None
