-- What a build comes to, whatever the input and the room: a refusal's number of two digits at most, or a table of a size
-- that is taken, with no more cells than the most. Assumes nothing.
use mathlib.Core.Path.{◌≡◌, refl}
use mathlib.Core.Bool.{Bool, true, false, cond}
use mathlib.Core.List.{List}
use Prim.Native.Nat.{ℕ, ◌*◌, ◌≤◌}
use native.Mathlib.Omega.{arith}
use borrow.Author.Tests.{ltb-false}
use lib.Dec.{ltb}
use lib.Ieee.{Float}
use lib.ListN.{take}
use Rattle.std.proofs.Common.{Result, Ok, Err}
use Rattle.lens.specs.declared.Refusal.{Refusal}
use Rattle.camera_file.specs.declared.Asked.{Asked}
use Rattle.lens.specs.Refusal.{number}
use Rattle.lens.specs.declared.Refusal.TheVariants.{WrongSize}
use Rattle.lens.proofs.Laws.{number_within}
use Rattle.region.specs.Size.{Sized}
use Rattle.camera.specs.declared.Camera.{Camera}
use Rattle.camera_file.specs.Asked.{parsed}
use Rattle.turns.specs.Turns.{Said, finished, refused, running}
use Rattle.job.specs.Job.{fresh}
use Rattle.job.specs.declared.Job.{Job}
use Rattle.distortion_table.specs.Answer.{whole_table}
use Rattle.printer.specs.Made.{most_cells, HasRoom, InRoom, outcome_of}
use Rattle.printer.specs.Made.{unbuilt, build_whole, build_sized, started, build_asked, build_parsed, build}
use Rattle.printer.proofs.Ended.{size}

-- what holds of every refusal, and of every table that is begun, holds of a build
module _ (P : InRoom → Type 0) (room : List Float) (no : (n : ℕ) → n ≤ 19 → P (unbuilt room n))
    (yes :
    (camera : Camera) (width height : ℕ) (job : Job) →
    fresh camera width height false ≡ Ok job →
    width * height ≤ most_cells →
    P (build_whole room camera width height)) where
  of_sized : (camera : Camera) (width height : ℕ) (job : Job) → fresh camera width height false ≡ Ok job → P (build_sized room camera width height)
  unfolding build_sized
  of_sized camera width height job e = go (ltb most_cells (width * height)) refl
    where
      go : (b : Bool) → ltb most_cells (width * height) ≡ b → P (cond b (unbuilt room (number WrongSize)) (build_whole room camera width height))
      go true k = no (number WrongSize) (omega arith)
      go false k = yes camera width height job e (ltb-false most_cells (width * height) k)

  of_asked : (camera : Camera) (width height : ℕ) → P (build_asked room camera width height)
  unfolding build_asked
  of_asked camera width height = go (fresh camera width height false) refl
    where
      go : (b : Result Job Refusal) → fresh camera width height false ≡ b → P (started room b (build_sized room camera width height))
      go (Err r) e = no (number r) (number_within r).1
      go (Ok job) e = of_sized camera width height job e

  pub each_way : (input : List ℕ) → P (build input room)
  unfolding build
  each_way input = go (parsed _)
    where
      go : (p : Result Asked Refusal) → P (build_parsed room p)
      go (Err r) = no (number r) (number_within r).1
      go (Ok a) = of_asked a.camera a.width a.height

outcome_room :
    (said : Said) (job : Job) →
    Sized job.width job.height →
    job.width * job.height ≤ most_cells →
    HasRoom (outcome_of said job)
outcome_room (refused n) job s h = tt
outcome_room finished job s h = (s, h)
outcome_room running job s h = (s, h)

-- so a table that is answered has room
pub has_room : (input : List ℕ) (room : List Float) → HasRoom (build input room).outcome
has_room input room = each_way (λ b. HasRoom b.outcome) room (λ n h. tt) begun_room input
  where
    begun_room :
        (camera : Camera) (width height : ℕ) (job : Job) →
        fresh camera width height false ≡ Ok job →
        width * height ≤ most_cells →
        HasRoom (build_whole room camera width height).outcome
    begun_room camera width height job e few =
        let a = whole_table camera width height (take (2 * (width * height)) room) in
        outcome_room a.said a.job (size camera width height job e) few
