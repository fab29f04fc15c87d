-- What all texts share: the bytes that part them, a test of every byte, two texts compared, what stands before and
-- after a byte. Definitions only.
use Rattle.std.specs.Prelude.{Bool, cond, List, [], ◌∷◌, ℕ, suc, eqb, take, drop}
use Rattle.std.specs.List.{list_all}
use Rattle.std.specs.Str.{bytes_eq}

-- before each field but the first
abbrev pub tab : ℕ
tab = 9

-- at the end of each line
abbrev pub newline : ℕ
newline = 10

-- whether a test holds of every number of a list
abbrev pub all : (ℕ → Bool) → List ℕ → Bool
all = list_all

-- whether two texts are the same
abbrev pub same : List ℕ → List ℕ → Bool
same = bytes_eq

-- where the first byte b stands, and the text's length if there is none
unfoldable pub place : ℕ → List ℕ → ℕ
place b [] = 0
place b (x ∷ text) = cond (eqb x b) 0 (suc (place b text))

-- what stands before the first b, and what after it
unfoldable pub before : ℕ → List ℕ → List ℕ
before b text = take (place b text) text

unfoldable pub past : ℕ → List ℕ → List ℕ
past b text = drop (suc (place b text)) text
