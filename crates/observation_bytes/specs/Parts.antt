-- What the parts of the code work out; no caller meets these. Definitions only.
use Rattle.std.specs.Prelude.{false, cond, List, ℕ, ◌+◌, ◌/◌, eqb}
use Rattle.lens.specs.Constants.{zeros}
use Rattle.lens.specs.declared.Pixel.{Pixel}
use Rattle.little_endian.specs.Bytes.{float}
use Rattle.camera.specs.declared.Camera.{Camera}
use Rattle.observations.specs.Observations.{seen}
use Rattle.observations.specs.declared.Observation.{Observation}
use Rattle.observation_bytes.specs.Bytes.{pixel_of, with_found}

-- a record of which the pixel is known
abbrev pub blank : Pixel → Observation
blank pixel = record { pixel = pixel; answer = record { 0 = zeros; 1 = zeros }; flag = false; number = 0 }

-- of the record at a place
abbrev pub blank_at : List ℕ → ℕ → Observation
blank_at bs at = blank record { 0 = float bs at; 1 = float bs (at + 8) }

-- by a camera that is judged already
abbrev pub seen_bytes : Camera → List ℕ → List ℕ
seen_bytes camera bs = with_found bs (seen camera (blank (pixel_of bs)))

-- how many records are written
abbrev pub rounds : ℕ → ℕ → ℕ
rounds code length = cond (eqb code 0) (length / 40) 0
