-- What the code's parts say of the line that they make. Definitions only.
use Rattle.std.specs.Prelude.{◌≡◌, List, ◌++◌, ℕ, ◌+◌, ◌≤◌, length, take}

-- a text of at most 21 bytes now stands behind the first at bytes of a line, which is 96 bytes long
pub record Grown (before : List ℕ) (at : ℕ) (text after : List ℕ) (r : ℕ) : Type 0 where
  pub next : r ≡ at + length text
  pub front : take r after ≡ take at before ++ text
  pub short : length text ≤ 21
  pub long : length after ≡ 96
