-- A list of observations as bytes, 40 for a record, and what becomes of it. Definitions only.
--
--      0  pixel: u, v        32  flag, one byte, 1 for yes       34  six bytes that are neither read nor written
--     16  answer: x, y       33  number, one byte
use Rattle.std.specs.Prelude.{cond, List, [], ◌∷◌, ◌++◌, ℕ, zero, suc, ◌/◌, ◌%◌, eqb, length, take, drop, Result, Ok, Err}
use Rattle.lens.specs.declared.Refusal.{Refusal}
use Rattle.little_endian.specs.Bytes.{bytes, float, floats}
use Rattle.given.specs.Given.{Given, given, flag_number, code}
use Rattle.lens.specs.Refusal.{number}
use Rattle.lens.specs.Undistorted.{told}
use Rattle.lens.specs.declared.Pixel.{Pixel}
use Rattle.camera.specs.Camera.{undistort}
use Rattle.camera.specs.declared.Camera.{Camera}
use Rattle.observations.specs.Observations.{beside, refusal_of}
use Rattle.observations.specs.declared.Observation.{Observation}
use Rattle.camera_bytes.specs.Reading.{read}

-- ---- one record

abbrev pub pixel_of : List ℕ → Pixel
pixel_of bs = record { 0 = float bs 0; 1 = float bs 8 }

-- what a call writes behind the pixel
unfoldable pub found_bytes : Observation → List ℕ
found_bytes o = floats (o.answer.0 ∷ o.answer.1 ∷ []) ++ bytes 1 (flag_number o.flag) ++ bytes 1 o.number

-- a record's bytes with those written into them
abbrev pub with_found : List ℕ → Observation → List ℕ
with_found bs o = take 16 bs ++ found_bytes o ++ drop 34 bs

-- the record after the call: all that is found is what `undistort` says of its pixel
unfoldable pub observed_bytes : Camera → List ℕ → List ℕ
observed_bytes camera bs = with_found bs (beside (pixel_of bs) (told (undistort camera (pixel_of bs))))

-- ---- the list

-- its first n records, each as f makes it, and the rest as it was
unfoldable pub each : (List ℕ → List ℕ) → ℕ → List ℕ → List ℕ
each f zero bs = bs
each f (suc n) bs = f (take 40 bs) ++ each f n (drop 40 bs)

-- 1 or 3 for the camera's bytes, 4 or 5 for the camera, or 0
abbrev pub own : Result Camera Refusal → ℕ
own (Ok camera) = refusal_of camera
own (Err r) = number r

abbrev pub all_observed : Result Camera Refusal → List ℕ → List ℕ
all_observed (Ok camera) list = each (observed_bytes camera) (length list / 40) list
all_observed (Err r) list = list

-- 7 for bytes that are not of whole records, and the lowest refusal is told; with 0 every record is observed, else the
-- list is as it was
abbrev pub told_code : Result Camera Refusal → List ℕ → ℕ
told_code asked list = code (own asked) (eqb (length list % 40) 0)

abbrev pub observed_by : Result Camera Refusal → List ℕ → Given
observed_by asked list =
    given (told_code asked list) (cond (eqb (told_code asked list) 0) (all_observed asked list) list)

unfoldable pub observe_bytes : ℕ → List ℕ → List ℕ → Given
observe_bytes model params list = observed_by (read model params) list
