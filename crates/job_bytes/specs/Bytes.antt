-- The record of a table that is being built, as bytes, and read back out of any bytes. Where each part stands is told
-- in specs/Places. Definitions only.
use Rattle.std.specs.Prelude.{ℕ, Bool, cond, List, [], ◌++◌, length, drop, ◌==◌, nat_le, Result, Ok, Err}
use Rattle.camera.specs.declared.Camera.{Camera}
use Rattle.lens.specs.declared.Refusal.{Refusal}
use Rattle.lens.specs.declared.Refusal.TheVariants.{UnknownModel, WrongLength, ImpossibleRecord}
use Rattle.region.specs.Region.{four}
use Rattle.camera.specs.Numbers.{last, model_number, padded}
use Rattle.little_endian.specs.Bytes.{bytes, half, word, floats}
use Rattle.region_bytes.specs.Box.{box_at}
use Rattle.camera_bytes.specs.Reading.{camera_of, read}
use Rattle.job.specs.Job.{Begun, a_job, no_job, fresh, told_started}
use Rattle.job.specs.declared.Job.{Job}
use Rattle.given.specs.Given.{Given, answered}
use Rattle.job_bytes.specs.Places.{updates_place, params_place, width_place, height_place, done_place}
use Rattle.job_bytes.specs.Places.{edges_place, region_place, unsettled_place, first_place, mark_place}
use Rattle.job_bytes.specs.Places.{record_length}
use Rattle.job_bytes.specs.Check.{check_of}

-- ---- written

-- the strict mark
abbrev pub mark : Bool → ℕ
mark strict = cond strict 1 0

-- the camera that the table is for, and between its number and its parameters the updates
unfoldable pub camera_part : Job → List ℕ
camera_part job =
    bytes 4 (model_number job.camera) ++ bytes 4 job.at.updates ++ floats (padded job.camera)

-- the table's size, and how far it has come
unfoldable pub size_part : Job → List ℕ
size_part job = bytes 4 job.width ++ bytes 4 job.height ++ bytes 8 job.at.done

unfoldable pub boxes : Job → List ℕ
boxes job = floats (four job.at.edges) ++ floats (four job.at.region)

-- how many samples didn't settle, which was the first, and whether that stops the job
unfoldable pub tallies : Job → List ℕ
tallies job = bytes 4 job.at.unsettled ++ bytes 4 job.at.first ++ bytes 8 (mark job.strict)

-- all but the check word
abbrev pub body : Job → List ℕ
body job = camera_part job ++ size_part job ++ boxes job ++ tallies job

unfoldable pub record_bytes : Job → List ℕ
record_bytes job = body job ++ bytes 8 (check_of (body job))

-- ---- read, each at its place

unfoldable pub job_at : List ℕ → Job
job_at bs = record {
  camera = camera_of (half bs 0) (drop params_place bs);
  width = half bs width_place;
  height = half bs height_place;
  strict = (word bs mark_place == 1);
  at = record {
    done = word bs done_place;
    edges = box_at bs edges_place;
    region = box_at bs region_place;
    updates = half bs updates_place;
    unsettled = half bs unsettled_place;
    first = half bs first_place;
  };
}

-- 7 for bytes of another length, which have no places to read at; then 1. The turn judges mark and check word, after
-- all else
unfoldable pub record_read : List ℕ → Result Job Refusal
record_read bs =
    cond (length bs == record_length)
    (cond (nat_le (half bs 0) last) (Ok (job_at bs)) (Err UnknownModel))
    (Err WrongLength)

-- ---- a fresh record: 1, 3, then 4, 5, 6, then 7 for a buffer of another length, then 13 for a mark

-- a mark that is neither 0 nor 1, where nothing else is wrong
abbrev pub known_mark : ℕ → Result Job Refusal → Result Job Refusal
known_mark m (Ok job) = cond (nat_le m 1) (Ok job) (Err ImpossibleRecord)
known_mark m (Err refusal) = Err refusal

abbrev pub started : Result Camera Refusal → ℕ → ℕ → ℕ → Result Job Refusal
started (Ok camera) width height m = known_mark m (fresh camera width height (m == 1))
started (Err refusal) width height m = Err refusal

-- no bytes go with a refusal
abbrev pub give_started : Begun → List ℕ → Given
give_started (a_job job) lent = answered record_length 0 (record_bytes job) lent
give_started (no_job number) lent = answered record_length number [] lent

unfoldable pub fresh_bytes : ℕ → List ℕ → ℕ → ℕ → ℕ → List ℕ → Given
fresh_bytes model params width height m lent =
    give_started (told_started (started (read model params) width height m)) lent
