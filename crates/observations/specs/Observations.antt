-- What becomes of a list of observations (docs/RULES.md, 15): of one record, and of all. Definitions only.
use Rattle.std.specs.Prelude.{cond, ◌&&◌, List, map, ℕ, eqb, Err}
use Rattle.std.specs.Float.Ieee.Scale.{finite}
use Rattle.lens.specs.Finite.{all_finite}
use Rattle.lens.specs.Undistorted.{Told, told}
use Rattle.lens.specs.declared.Pixel.{Pixel}
use Rattle.lens.specs.declared.Refusal.TheVariants.{NotFinite}
use Rattle.lens.specs.Undistorted.{Undistorted}
use Rattle.camera.specs.Camera.{parameters, zero_focal, undistort_judged, undistort}
use Rattle.camera.specs.declared.Camera.{Camera}
use Rattle.observations.specs.declared.Observation.{Observation}

-- ---- one record

-- a pixel, and beside it what undistort tells of it: number, answer and flag
abbrev pub beside : Pixel → Told → Observation
beside pixel t = record { pixel = pixel; answer = t.settled.point; flag = t.settled.flag; number = t.number }

-- the record after the call: its pixel as it was, and the rest as `undistort` says
unfoldable pub observed : Camera → Observation → Observation
observed camera o = beside o.pixel (told (undistort camera o.pixel))

-- ---- the list

-- what the camera by itself is refused with: 4, then 5, or 0 for none
unfoldable pub refusal_of : Camera → ℕ
refusal_of camera = cond (all_finite (parameters camera)) (cond (zero_focal camera) 5 0) 4

-- what a call leaves behind: the number it returns, and the list as it is then
pub record Listed : Type 0 where
  pub number : ℕ
  pub list : List Observation

abbrev pub listed : ℕ → List Observation → Listed
listed number list = record { number = number; list = list }

-- 0 with every record observed, or the camera's number with the list as it was
abbrev pub observe_all : Camera → List Observation → Listed
observe_all camera list =
    let number = refusal_of camera in
    listed number (cond (eqb number 0) (map (observed camera) list) list)

-- ---- the same for a camera that is judged once, ahead of the list: what the code's parts work out

abbrev pub rounds : ℕ → ℕ → ℕ
rounds number length = cond (eqb number 0) length 0

abbrev pub found : Camera → Pixel → Undistorted
found camera pixel = cond (finite pixel.0 && finite pixel.1) (undistort_judged camera pixel) (Err NotFinite)

unfoldable pub seen : Camera → Observation → Observation
seen camera o = beside o.pixel (told (found camera o.pixel))
