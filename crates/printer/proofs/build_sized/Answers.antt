-- `printer::build_sized` meets its contract. Assumes nothing.
use mathlib.Core.Path.{◌≡◌, sym, ap, ap₂, ◌∙◌}
use mathlib.Core.Bool.{Bool, cond}
use mathlib.Core.List.{List, ◌++◌}
use Prim.Native.Nat.{ℕ, ◌*◌, ◌≤◌, ◌<◌}
use native.Mathlib.Omega.{arith}
use borrow.Author.Tests.{lt-ltb, le-ltb}
use lib.Ieee.{Float}
use lib.ListN.{take, drop}
use Rattle.lens.specs.Refusal.{number}
use Rattle.lens.specs.declared.Refusal.TheVariants.{WrongSize}
use Rattle.region.proofs.Size.{bounded}
use Rattle.camera.specs.declared.Camera.{Camera}
use Rattle.distortion_table.specs.Answer.{Answer, told_status, told_turned, whole_table}
use Rattle.distortion_table.specs.declared.Turned.{Turned}
use Rattle.printer.specs.Made.{most_cells, Outcome, in_room, outcome_of, over, unbuilt, build_whole, build_sized}
use Rattle.printer.proofs.build_sized.Goals as goal

module _ (room : List Float) (camera : Camera) (width height : ℕ) where
  too_many : most_cells < width * height → unbuilt room (number WrongSize) ≡ build_sized room camera width height
  unfolding build_sized
  too_many h =
      sym
      (ap
      (λ (b : Bool). cond b (unbuilt room (number WrongSize)) (build_whole room camera width height))
      (lt-ltb most_cells (width * height) h))

  filled :
      (turned : Turned) (outcome : Outcome) (after : List Float) →
      width * height ≤ most_cells →
      outcome ≡ outcome_of (told_status turned.status) turned.job →
      told_turned turned (take (2 * (width * height)) after) ≡ whole_table camera width height (take (2 * (width * height)) room) →
      after ≡ take (2 * (width * height)) after ++ drop (2 * (width * height)) room →
      in_room outcome after ≡ build_sized room camera width height
  unfolding build_sized
  filled turned outcome after few said told stays =
      ap₂ in_room said stays
      ∙ ap (λ (a : Answer Float). over a (drop (2 * (width * height)) room)) told
      ∙ sym
      (ap
      (λ (b : Bool). cond b (unbuilt room (number WrongSize)) (build_whole room camera width height))
      (le-ltb most_cells (width * height) few))

pub overflow_mul-width : goal.overflow_mul-width
overflow_mul-width c = let a = c.args in omega (arith, bounded a.width a.height c.requires.0)

pub returns-then-width-height-gt-CELLS : goal.returns-then-width-height-gt-CELLS
returns-then-width-height-gt-CELLS c = let a = c.args in too_many a.room.now a.camera a.width a.height c.if-width-height-gt-CELLS.true

pub returns : goal.returns
returns c =
    let a = c.args in
    filled a.room.now a.camera a.width a.height c.fill.result _ _ c.if-width-height-gt-CELLS.false
    c.outcome_of.ensures c.fill.ensures.room_after c.fill.ensures.room_after_2
