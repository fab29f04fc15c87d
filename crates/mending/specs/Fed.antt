-- A text taken byte by byte, in whatever pieces it comes: of a line as many bytes are held as there is room for.
-- Definitions only.
use Rattle.std.specs.Prelude.{cond, List, [], ◌∷◌, ℕ, ◌+◌, eqb, ltb, length, take, set, replicate}
use Rattle.decimal.specs.Text.{newline}
use Rattle.mending.specs.Kept.{keep}

-- the map, the memory of the line that is held, and how many of its bytes are
pub record Fed : Type 0 where
  pub map : List ℕ
  pub line : List ℕ
  pub held : ℕ

abbrev pub fed : List ℕ → List ℕ → ℕ → Fed
fed map line held = record { map = map; line = line; held = held }

-- with a byte more: it is held, and at a line's end the line is kept and the next begins. Where there is no room left,
-- the line's other bytes are passed over, and it is not kept.
unfoldable pub feed_byte : ℕ → ℕ → Fed → ℕ → Fed
feed_byte width height s b =
    let line = set s.line s.held b in
    cond
    (ltb s.held (length s.line))
    (cond
    (eqb b newline)
    (fed (keep width height s.map (take (s.held + 1) line)) line 0)
    (fed s.map line (s.held + 1)))
    (cond (eqb b newline) (fed s.map s.line 0) s)

unfoldable pub feed : ℕ → ℕ → Fed → List ℕ → Fed
feed width height s [] = s
feed width height s (b ∷ text) = feed width height (feed_byte width height s b) text

-- piece by piece
unfoldable pub feed_pieces : ℕ → ℕ → Fed → List (List ℕ) → Fed
feed_pieces width height s [] = s
feed_pieces width height s (piece ∷ pieces) = feed_pieces width height (feed width height s piece) pieces

-- before the first: an empty map of the largest table, and room for a line
abbrev pub most_kept : ℕ
most_kept = 12288

abbrev pub most_held : ℕ
most_held = 64

abbrev pub nothing_fed : Fed
nothing_fed = fed (replicate most_kept 0) (replicate most_held 0) 0
