-- What a text of hexadecimal digits spells. Definitions only.
use Rattle.std.specs.Prelude.{Bool, true, false, cond, ◌&&◌, Option, Some, None, List, [], ◌∷◌, ℕ, zero, suc, ◌+◌, ◌*◌, ◌-◌, eqb, ltb, length, take, drop, is_some, unwrap_or}
use Rattle.std.specs.Option.{option_map}

-- the value of a digit, `0` to `9` and `a` to `f`; no other byte has one
unfoldable pub digit : ℕ → Option ℕ
digit b = cond (ltb b 48) None (cond (ltb b 58) (Some (b - 48)) (cond (ltb b 97) None (cond (ltb b 103) (Some (b - 87)) None)))

-- the digits so far with a byte after them: no number any more where the byte is no digit
unfoldable pub pushed : Option ℕ → ℕ → Option ℕ
pushed None b = None
pushed (Some n) b = option_map (λ d. n * 16 + d) (digit b)

-- the digits so far with each byte of a text after them
unfoldable pub read : Option ℕ → List ℕ → Option ℕ
read number [] = number
read number (b ∷ text) = read (pushed number b) text

-- the number that 16 digits spell; no other text spells one
unfoldable pub spelled : List ℕ → Option ℕ
spelled text = cond (eqb (length text) 16) (read (Some 0) text) None

-- the number that a line spells after a word, where it starts with the word
unfoldable pub after : List ℕ → List ℕ → Option ℕ
after [] line = spelled line
after (w ∷ word) [] = None
after (w ∷ word) (b ∷ line) = cond (eqb w b) (after word line) None

-- what may follow the digits of a field: a tab (9) and more, or a newline (10) and no more
unfoldable pub ends : List ℕ → Bool
ends [] = false
ends (b ∷ []) = eqb b 10
ends (b ∷ c ∷ rest) = eqb b 9

-- field k of a line of numbers, each of 16 digits and the byte after them
unfoldable pub field : List ℕ → ℕ → Option ℕ
field line k = cond (ends (drop (k * 17 + 16) line)) (spelled (take 16 (drop (k * 17) line))) None

-- the numbers of n fields, from field k on, and 0 for none
unfoldable pub fields : List ℕ → ℕ → ℕ → List ℕ
fields line k zero = []
fields line k (suc n) = unwrap_or (field line k) 0 ∷ fields line (suc k) n

-- whether each of them holds one
unfoldable pub every_field : List ℕ → ℕ → ℕ → Bool
every_field line k zero = true
every_field line k (suc n) = is_some (field line k) && every_field line (suc k) n
