-- A camera file as it is written: two lines of bytes (docs/RULES.md, 16.1). Definitions only.
use Rattle.std.specs.Prelude.{◌≡◌, Bool, true, cond, List, [], ◌∷◌, ◌++◌, ℕ, ◌≤◌, leb, length}
use Rattle.decimal.specs.Decimal.{decimal, digit}
use Rattle.decimal.specs.Text.{tab, newline, all}
use Rattle.params_line.specs.Params.{pattern, params_line}

-- ---- bytes

-- `camera`
abbrev pub camera_word : List ℕ
camera_word = 99 ∷ 97 ∷ 109 ∷ 101 ∷ 114 ∷ 97 ∷ []

-- `a` to `z`, and the digits
abbrev pub letter : ℕ → Bool
letter b = cond (leb 97 b) (leb b 122) (digit b)

-- ---- a camera file: the name's bytes, the size, and the bit pattern of each parameter

pub record CameraFile : Type 0 where
  pub name : List ℕ
  pub width : ℕ
  pub height : ℕ
  pub params : List ℕ

unfoldable pub camera_line : List ℕ → ℕ → ℕ → List ℕ
camera_line name width height = camera_word ++ tab ∷ name ++ tab ∷ decimal width ++ tab ∷ decimal height ++ newline ∷ []

unfoldable pub text_of : CameraFile → List ℕ
text_of file = camera_line file.name file.width file.height ++ params_line file.params

-- ---- what holds of a camera file that can be written

-- the most bytes that a text has
abbrev pub longest : ℕ
longest = 4096

pub record Form (file : CameraFile) : Type 0 where
  pub named : 1 ≤ length file.name
  pub short_name : length file.name ≤ 16
  pub letters : all letter file.name ≡ true
  pub wide : 1 ≤ file.width
  pub narrow : file.width ≤ 9999
  pub high : 1 ≤ file.height
  pub low : file.height ≤ 9999
  pub some_params : 1 ≤ length file.params
  pub patterns : all pattern file.params ≡ true
  pub short : length (text_of file) ≤ longest
