-- The check word behind a record: a sum over all that stands before it, so that damaged bytes are told from those that
-- were written; and the strict mark, which can be no number but 0 or 1. Definitions only.
use Rattle.std.specs.Prelude.{◌≡◌, ℕ, zero, suc, ◌+◌, ◌*◌, ◌/◌, ◌%◌, ◌^◌, ◌<◌, Bool, ◌&&◌, List, length, ◌==◌, ◌≢◌, nat_le, slice_index, slice_index_or}
use Rattle.little_endian.specs.Bytes.{word}
use Rattle.job_bytes.specs.Places.{mark_place, check_place, summed, record_length}

-- what the sum starts from: the bytes "LENSJOB2". Bytes that are all 0 would pass a sum that starts from 0
abbrev pub check_start : ℕ
check_start = 0x32424f4a534e454c

-- the first n words, one added to the other
unfoldable pub sum_of_words : ℕ → List ℕ → ℕ
sum_of_words zero bs = 0
sum_of_words (suc n) bs = sum_of_words n bs + word bs (8 * n)

unfoldable pub check_of : List ℕ → ℕ
check_of bs = (check_start + sum_of_words summed bs) % 2 ^ 64

-- whether the check word is the one of the bytes before it
abbrev pub intact : List ℕ → Bool
intact bs = word bs check_place == check_of bs

-- whether the strict mark is one
abbrev pub marked : List ℕ → Bool
marked bs = nat_le (word bs mark_place) 1

-- what a turn asks of the bytes, beside what they say
abbrev pub whole : List ℕ → Bool
whole bs = marked bs && intact bs

-- ---- damage

-- what a caller can hold for a record: so many numbers below 256
pub record RecordBytes (bs : List ℕ) : Type 0 where
  pub long : length bs ≡ record_length
  pub each : (i : ℕ) → slice_index bs i < 256

-- the same but for the k-th word of eight bytes, and not the same
pub record WordApart (k : ℕ) (a b : List ℕ) : Type 0 where
  pub same : (i : ℕ) → (i / 8 ≢ k) → slice_index a i ≡ slice_index b i
  pub other : a ≡ b → ⊥

-- the same but for the byte at a place, and not there
pub record ByteApart (place : ℕ) (a b : List ℕ) : Type 0 where
  pub same : (i : ℕ) → (i ≢ place) → slice_index a i ≡ slice_index b i
  pub other : slice_index_or a place 0 ≡ slice_index b place → ⊥
