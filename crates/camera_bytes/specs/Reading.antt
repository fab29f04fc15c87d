-- The camera that a model's number and its parameters' bytes ask for, or 1, or 3. Definitions only.
use Rattle.std.specs.Prelude.{cond, List, ℕ, ◌*◌, ◌%◌, ◌<◌, eqb, leb, Float, length, Result, Ok, Err}
use Rattle.lens.specs.declared.Refusal.{Refusal}
use Rattle.little_endian.specs.Bytes.{float}
use Rattle.lens.specs.Finite.{all_finite}
use Rattle.lens.specs.Judgement.{Judgement, accepted}
use Rattle.lens.specs.declared.Refusal.TheVariants.{UnknownModel, WrongCount, NotFinite}
use Rattle.camera.specs.Camera.{parameters}
use Rattle.camera.specs.Numbers as numbers
use Rattle.camera.specs.declared.Camera.{Camera}

-- the f64 at place 8k
abbrev pub at : List ℕ → ℕ → Float
at p k = float p (8 * k)

-- the camera that has it as its k-th parameter
unfoldable pub camera_of : ℕ → List ℕ → Camera
camera_of model p = numbers.camera_of model (at p)

-- ---- 1, then 3

unfoldable pub judged : ℕ → List ℕ → Judgement
judged model p =
    cond (leb model numbers.last)
    (cond (eqb (length p) (8 * numbers.count model)) accepted (Err WrongCount))
    (Err UnknownModel)

unfoldable pub read : ℕ → List ℕ → Result Camera Refusal
read model p =
    cond (leb model numbers.last)
    (cond (eqb (length p) (8 * numbers.count model)) (Ok (camera_of model p)) (Err WrongCount))
    (Err UnknownModel)

-- ---- 1, 3, then 4

abbrev pub finite_only : Result Camera Refusal → Result Camera Refusal
finite_only (Ok camera) = cond (all_finite (parameters camera)) (Ok camera) (Err NotFinite)
finite_only (Err refusal) = Err refusal

abbrev pub read_finite : ℕ → List ℕ → Result Camera Refusal
read_finite model p = finite_only (read model p)

-- a finite number's bit pattern: without its sign, below the infinity's
abbrev pub Plain : ℕ → Type 0
Plain bits = bits % 0x8000_0000_0000_0000 < 0x7ff0_0000_0000_0000
