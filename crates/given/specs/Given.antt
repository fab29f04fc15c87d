-- What a caller gets back: a number, and the buffer it lent. Definitions only.
use Rattle.std.specs.Prelude.{Bool, cond, List, ℕ, eqb, ltb, length}

pub record Given : Type 0 where
  pub code : ℕ
  pub answer : List ℕ

abbrev pub given : ℕ → List ℕ → Given
given code answer = record { code = code; answer = answer }

-- a flag as a number: 1 for yes
abbrev pub flag_number : Bool → ℕ
flag_number flag = cond flag 1 0

-- an operation's own number, 0 if it has an answer, and whether the buffer is of the right length: if not, that is
-- refusal 7, and the lowest refusal is told
unfoldable pub code : ℕ → Bool → ℕ
code own right = cond right own (cond (eqb own 0) 7 (cond (ltb own 7) own 7))

-- the buffer holds the answer if and only if the number told is 0; else it is as it was
unfoldable pub answered : ℕ → ℕ → List ℕ → List ℕ → Given
answered size own new lent =
    let number = code own (eqb (length lent) size) in
    given number (cond (eqb number 0) new lent)
