-- The two texts of a camera (docs/RULES.md, 24), as they are written and as they are read: our params line, or
-- OpenCV's numbers as a matrix line and a coeffs line behind it. Definitions only.
use Rattle.std.specs.Prelude.{◌≡◌, Bool, true, cond, ◌&&◌, ◌||◌, List, [], ◌∷◌, ◌++◌, ℕ, suc, ◌≤◌, leb, length, take, drop}
use Rattle.decimal.specs.Text.{newline, all, place, past}
use Rattle.params_line.specs.Params.{pattern, word_line, params_line, is_line, is_params, params_of}

-- `matrix` and `coeffs`
abbrev pub matrix_word : List ℕ
matrix_word = 109 ∷ 97 ∷ 116 ∷ 114 ∷ 105 ∷ 120 ∷ []

abbrev pub coeffs_word : List ℕ
coeffs_word = 99 ∷ 111 ∷ 101 ∷ 102 ∷ 102 ∷ 115 ∷ []

-- what a text says: the bit patterns of our parameters; or those of their matrix, row by row, and of their coefficients
pub data Lines : Type 0 where
  ours : List ℕ → Lines
  theirs : List ℕ → List ℕ → Lines

-- ---- written

abbrev pub text_of : Lines → List ℕ
text_of (ours params) = params_line params
text_of (theirs matrix coeffs) = word_line matrix_word matrix ++ word_line coeffs_word coeffs

-- the most bytes that a text has
abbrev pub longest : ℕ
longest = 4096

-- one number or more in each line, each the pattern of an f64
abbrev pub Numbers : List ℕ → Type 0
Numbers numbers = (1 ≤ length numbers) × (all pattern numbers ≡ true)

abbrev pub Form : Lines → Type 0
Form (ours params) = Numbers params × (length (text_of (ours params)) ≤ longest)
Form (theirs matrix coeffs) = Numbers matrix × Numbers coeffs × (length (text_of (theirs matrix coeffs)) ≤ longest)

-- ---- read

-- the first line, with its newline; what follows it is `past newline text`
unfoldable pub first_line : List ℕ → List ℕ
first_line text = take (suc (place newline text)) text

abbrev pub are_theirs : List ℕ → List ℕ → Bool
are_theirs matrix coeffs = is_line matrix_word matrix && is_line coeffs_word coeffs

unfoldable pub is_lines : List ℕ → Bool
is_lines text = leb (length text) longest && (is_params text || are_theirs (first_line text) (past newline text))

unfoldable pub lines_of : List ℕ → Lines
lines_of text =
    cond (is_params text) (ours (params_of text)) (theirs (params_of (first_line text)) (params_of (past newline text)))

-- what r is to a text whose first line ends there
pub record LineEnd (text : List ℕ) (r : ℕ) : Type 0 where
  pub within : r ≤ length text
  pub line : take r text ≡ first_line text
  pub rest : drop r text ≡ past newline text
