-- A number in decimal, as it is written and as it is read. Definitions only.
use Rattle.std.specs.Prelude.{Bool, not, cond, ◌&&◌, Option, Some, None, List, [], ◌∷◌, ℕ, zero, suc, ◌+◌, ◌*◌, ◌-◌, ◌/◌, eqb, leb, ltb, length, get_or}
use Rattle.io.specs.Digits.{last_digits}
use Rattle.decimal.specs.Text.{all}

-- ---- written

-- how many decimal digits n has, counting no further than one more than most
unfoldable pub places : ℕ → ℕ → ℕ
places zero n = 1
places (suc most) n = cond (ltb n 10) 1 (suc (places most (n / 10)))

-- as many digits as the number has, and it has no more than n + 1
unfoldable pub decimal : ℕ → List ℕ
decimal n = last_digits 10 (places n n) n

-- ---- read

-- `0` to `9`
abbrev pub digit : ℕ → Bool
digit b = leb 48 b && leb b 57

-- the number n with more digits after it
unfoldable pub worth : ℕ → List ℕ → ℕ
worth n [] = n
worth n (b ∷ field) = worth (n * 10 + (b - 48)) field

-- 1 to 4 digits, the first not 0
unfoldable pub is_number : List ℕ → Bool
is_number field = ltb 0 (length field) && (leb (length field) 4 && (not (eqb (get_or field 0 0) 48) && all digit field))

-- what a field says that passes a test
abbrev pub said : Bool → List ℕ → Option ℕ
said t field = cond t (Some (worth 0 field)) None

abbrev pub number_in : List ℕ → Option ℕ
number_in field = said (is_number field) field
