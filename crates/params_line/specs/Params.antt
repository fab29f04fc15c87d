-- A line of bit patterns, as it is written and as it is read (docs/RULES.md, 16.1): a word of six letters, then a tab
-- and 16 digits for each pattern, then a newline and no more. A params line is one. Definitions only.
use Rattle.std.specs.Prelude.{Bool, ◌&&◌, Option, List, [], ◌∷◌, ◌++◌, ℕ, zero, suc, ◌-◌, ◌/◌, ◌^◌, ltb, Float, length, get_or, take, drop, is_some, unwrap_or}
use Rattle.io.specs.Digits.{last_digits}
use Rattle.exact.specs.F64.{f64}
use Rattle.decimal.specs.Text.{tab, newline, same}
use Rattle.hexadecimal.specs.Hex.{after}

-- `params`
abbrev pub params_word : List ℕ
params_word = 112 ∷ 97 ∷ 114 ∷ 97 ∷ 109 ∷ 115 ∷ []

-- the bit pattern of an f64
abbrev pub pattern : ℕ → Bool
pattern bits = ltb bits (2 ^ 64)

-- ---- written

-- each pattern as 16 digits with a tab before it, and the line's end
unfoldable pub fields : List ℕ → List ℕ
fields [] = newline ∷ []
fields (bits ∷ rest) = tab ∷ last_digits 16 16 bits ++ fields rest

unfoldable pub word_line : List ℕ → List ℕ → List ℕ
word_line word numbers = word ++ fields numbers

abbrev pub params_line : List ℕ → List ℕ
params_line params = word_line params_word params

-- ---- read

-- the number after the tab
abbrev pub field : List ℕ → Option ℕ
field chunk = after (tab ∷ []) (take 17 chunk)

-- n fields and the line's end
unfoldable pub fielded : ℕ → List ℕ → Bool
fielded zero rest = same rest (newline ∷ [])
fielded (suc n) rest = is_some (field rest) && fielded n (drop 17 rest)

unfoldable pub patterns : ℕ → List ℕ → List ℕ
patterns zero rest = []
patterns (suc n) rest = unwrap_or (field rest) 0 ∷ patterns n (drop 17 rest)

-- how many fields a line has room for
abbrev pub many : List ℕ → ℕ
many line = (length line - 6) / 17

-- one field or more, and the word before them
unfoldable pub is_line : List ℕ → List ℕ → Bool
is_line word line = ltb 0 (many line) && (same (take 6 line) word && fielded (many line) (drop 6 line))

abbrev pub is_params : List ℕ → Bool
is_params line = is_line params_word line

-- its patterns, whatever the word
unfoldable pub params_of : List ℕ → List ℕ
params_of line = patterns (many line) (drop 6 line)

-- the k-th parameter is the f64 of the k-th pattern, and +0 where there is none
abbrev pub at : List ℕ → ℕ → Float
at params k = f64 (get_or params k 0)
