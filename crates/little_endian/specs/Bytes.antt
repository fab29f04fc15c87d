-- Numbers as bytes, the least first, and bytes put into a buffer. Definitions only.
use Rattle.std.specs.Prelude.{cond, List, [], ◌∷◌, ◌++◌, ℕ, zero, suc, ◌+◌, ◌*◌, ◌/◌, ◌%◌, leb, Float, length, take, drop}
use Rattle.std.specs.Float.{binary64}
use Rattle.std.specs.Float.Ieee.{to_bits}
use Rattle.exact.specs.F64.{f64}

-- the number that bytes stand for
unfoldable pub value : List ℕ → ℕ
value [] = 0
value (b ∷ bs) = b + 256 * value bs

-- the lowest n bytes of a number
unfoldable pub bytes : ℕ → ℕ → List ℕ
bytes zero w = []
bytes (suc n) w = w % 256 ∷ bytes n (w / 256)

-- ---- read at a place: the bytes from there on, and 0 for each that is missing

abbrev pub half : List ℕ → ℕ → ℕ
half bs at = value (take 4 (drop at bs))

abbrev pub word : List ℕ → ℕ → ℕ
word bs at = value (take 8 (drop at bs))

abbrev pub float : List ℕ → ℕ → Float
float bs at = f64 (word bs at)

-- ---- put at a place

-- the bit patterns of numbers, one after the other; every NaN has the one that `to_bits` gives it
unfoldable pub floats : List Float → List ℕ
floats [] = []
floats (x ∷ xs) = bytes 8 (to_bits binary64 x) ++ floats xs

-- a buffer with bytes put at a place, if they fit; else as it was
unfoldable pub put : ℕ → List ℕ → List ℕ → List ℕ
put at new bs = cond (leb (at + length new) (length bs)) (take at bs ++ new ++ drop (at + length new) bs) bs
