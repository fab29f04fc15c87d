-- What a camera file's text comes to: its table, or the number of a refusal. The table is built in a room of numbers
-- that is lent. Definitions only.
use Rattle.std.specs.Prelude.{false, cond, Result, Ok, Err, List, ◌++◌, ℕ, ◌*◌, ◌≤◌, ltb, Float, take, drop, replicate}
use Rattle.std.specs.Float.{binary32}
use Rattle.std.specs.Float.Ieee.{of_bits}
use Rattle.lens.specs.Refusal.{number}
use Rattle.lens.specs.declared.Refusal.{Refusal}
use Rattle.lens.specs.declared.Refusal.TheVariants.{WrongSize}
use Rattle.region.specs.Size.{Sized}
use Rattle.region.specs.declared.Region.{Region}
use Rattle.camera.specs.declared.Camera.{Camera}
use Rattle.camera_file.specs.Asked.{parsed}
use Rattle.camera_file.specs.declared.Asked.{Asked}
use Rattle.turns.specs.Turns.{Said, finished, refused, running}
use Rattle.job.specs.Job.{fresh}
use Rattle.job.specs.declared.Job.{Job}
use Rattle.distortion_table.specs.Answer.{Answer, whole_table}
use Rattle.listing.specs.Read.{Listed, listed}
use Rattle.printer.specs.declared.Built.{Built}

-- the most cells of a table that is built here
abbrev pub most_cells : ℕ
most_cells = 4096

-- ---- what a build answers, and what it leaves in the room

-- a table of some width and height, with its updates and its region; or a refusal's number
pub data Outcome : Type 0 where
  a_table : ℕ → ℕ → ℕ → Region → Outcome
  a_refusal : ℕ → Outcome

abbrev pub told_built : Result Built Refusal → Outcome
told_built (Ok b) = a_table b.width b.height b.updates b.region
told_built (Err r) = a_refusal (number r)

-- a table that is answered has sides of 2 to 4,096, and no more cells than the most
abbrev pub HasRoom : Outcome → Type 0
HasRoom (a_table width height updates region) = Sized width height × (width * height ≤ most_cells)
HasRoom (a_refusal n) = Unit {0}

pub record InRoom : Type 0 where
  pub outcome : Outcome
  pub room : List Float

abbrev pub in_room : Outcome → List Float → InRoom
in_room outcome room = record { outcome = outcome; room = room }

-- ---- the build, with the refusals before it in their order

-- what a turn comes to that may do enough units for any table: it is refused at a unit, or else a table. It never ends
-- while it is running (at-once-ends of distortion_table).
abbrev pub outcome_of : Said → Job → Outcome
outcome_of (refused n) job = a_refusal n
outcome_of finished job = a_table job.width job.height job.at.updates job.at.region
outcome_of running job = a_table job.width job.height job.at.updates job.at.region

-- a table over the first numbers of a room; the rest of them stay
abbrev pub over : Answer Float → List Float → InRoom
over a rest = in_room (outcome_of a.said a.job) (a.cells ++ rest)

module _ (room : List Float) where
  -- nothing is built: the room stays as it is
  abbrev pub unbuilt : ℕ → InRoom
  unbuilt n = in_room (a_refusal n) room

  -- two numbers for each cell
  abbrev pub build_whole : Camera → ℕ → ℕ → InRoom
  build_whole camera width height =
      over
      (whole_table camera width height (take (2 * (width * height)) room))
      (drop (2 * (width * height)) room)

  -- 6 for too many cells
  unfoldable pub build_sized : Camera → ℕ → ℕ → InRoom
  build_sized camera width height =
      cond (ltb most_cells (width * height)) (unbuilt (number WrongSize)) (build_whole camera width height)

  -- before that 4, 5 and 6 for its sides
  abbrev pub started : Result Job Refusal → InRoom → InRoom
  started (Err r) later = unbuilt (number r)
  started (Ok job) later = later

  unfoldable pub build_asked : Camera → ℕ → ℕ → InRoom
  build_asked camera width height = started (fresh camera width height false) (build_sized camera width height)

  -- and first of all 14, 1 and 3
  abbrev pub build_parsed : Result Asked Refusal → InRoom
  build_parsed (Err r) = unbuilt (number r)
  build_parsed (Ok a) = build_asked a.camera a.width a.height

unfoldable pub build : List ℕ → List Float → InRoom
build input room = build_parsed room (parsed input)

-- ---- what a text comes to

-- a table, by the bit patterns of its region and cells, or the number of a refusal
pub data Made : Type 0 where
  table : Listed → Made
  no_table : ℕ → Made

-- what stands in a room with an answer: a table's numbers are the first of it
abbrev pub held : Outcome → List Float → Made
held (a_table width height updates region) room =
    table (listed width height updates region (take (2 * (width * height)) room))
held (a_refusal n) room = no_table n

abbrev pub made_in : InRoom → Made
made_in b = held b.outcome b.room

-- built in a room of zeros, of which there are enough for the largest table
abbrev pub blank_room : List Float
blank_room = replicate (2 * most_cells) (of_bits binary32 0)

unfoldable pub made : List ℕ → Made
made input = made_in (build input blank_room)
