-- A text put into a buffer, and texts one after the other. Definitions only.
use Rattle.std.specs.Prelude.{Bool, cond, List, [], ◌∷◌, ◌++◌, ℕ, ◌+◌, leb, length, take, drop}

-- a buffer, and the place in it where the next text goes
pub record Written : Type 0 where
  pub out : List ℕ
  pub at : ℕ

abbrev pub written : List ℕ → ℕ → Written
written out at = record { out = out; at = at }

-- whether a text fits between the place and the buffer's end
abbrev pub room : Written → List ℕ → Bool
room w text = leb (w.at + length text) (length w.out)

-- the buffer with the text in place, and the place behind it
abbrev pub with_text : Written → List ℕ → Written
with_text w text = written (take w.at w.out ++ text ++ drop (w.at + length text) w.out) (w.at + length text)

-- the text put where it fits; else all is as it was
unfoldable pub placed : Written → List ℕ → Written
placed w text = cond (room w text) (with_text w text) w

-- texts put one after the other, up to the first that does not fit
unfoldable pub placed_all : Written → List (List ℕ) → Written
placed_all w [] = w
placed_all w (text ∷ texts) = cond (room w text) (placed_all (placed w text) texts) w

-- and each that fits
unfoldable pub each_placed : Written → List (List ℕ) → Written
each_placed w [] = w
each_placed w (text ∷ texts) = each_placed (placed w text) texts

-- texts one after the other
unfoldable pub joined : List (List ℕ) → List ℕ
joined [] = []
joined (text ∷ texts) = text ++ joined texts
