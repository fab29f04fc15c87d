-- Rows of the refusal table (docs/RULES.md, 5.1), in the order they are tried. Definitions only.
use Rattle.std.specs.Prelude.{Bool, cond, List, [], ◌∷◌, ℕ}

-- a number, and whether its row holds
infix 20 ◌when◌
pub record Row : Type 0 where
  pub number : ℕ
  pub holds : Bool

abbrev pub ◌when◌ : ℕ → Bool → Row
number when holds = record { number = number; holds = holds }

-- the number of the first row that holds, and 0 if none does
abbrev pub first : List Row → ℕ
first [] = 0
first (row ∷ rest) = cond row.holds row.number (first rest)
