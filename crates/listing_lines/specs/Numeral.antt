-- What the code guesses of a field: right where the line is one that was written, and some number for any other bytes.
-- Definitions only.
use Rattle.std.specs.Prelude.{cond, List, [], ◌∷◌, ℕ, ◌+◌, ◌*◌, ◌-◌, ◌^◌, eqb, ltb}
use Rattle.std.specs.Option.{option_map_or}
use Rattle.decimal.specs.Text.{tab}
use Rattle.hexadecimal.specs.Hex.{digit}

-- a number with a digit after it; a byte that is none leaves it, and so does a number with no room for one more
unfoldable pub pushed : ℕ → ℕ → ℕ → ℕ
pushed base n b = option_map_or (λ d. cond (ltb n (2 ^ 60)) (n * base + d) n) (digit b) n

-- how many fields are left to the end of the one asked for, of which 1 is itself and 0 says it is past; with a byte
-- passed
unfoldable pub left_after : ℕ → ℕ → ℕ
left_after left b = cond (eqb b tab) (left - 1) left

-- the number so far, with a byte passed
unfoldable pub number_after : ℕ → ℕ → ℕ → ℕ → ℕ
number_after base left n b = cond (eqb left 1) (pushed base n b) n

-- and with each byte of a text
unfoldable pub numeral : ℕ → ℕ → ℕ → List ℕ → ℕ
numeral base left n [] = n
numeral base left n (b ∷ text) = numeral base (left_after left b) (number_after base left n b) text
