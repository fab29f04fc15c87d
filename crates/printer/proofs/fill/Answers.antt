-- `printer::fill` meets its contract. Assumes nothing.
use mathlib.Core.Path.{◌≡◌, sym, ap, ◌∙◌}
use mathlib.Core.List.{List, ◌++◌}
use native.Mathlib.Omega.{arith}
use lib.Ieee.{Float}
use lib.ListN.{length, drop}
use lib.Seq.{length-take-le, take_at}
use Rattle.distortion_table.specs.Answer.{told_turned}
use Rattle.printer.proofs.fill.Goals as goal

pub slice_bounds-distort_table-end-2 : goal.slice_bounds-distort_table-end-2
slice_bounds-distort_table-end-2 c =
    let a = c.args in
    sym (length-take-le a.n a.room.now (omega arith))

pub returns : goal.returns
returns c =
    let a = c.args in
    let ys = c.distort_table.new.table in
    let rest = drop a.n a.room.now in
    let long : length ys ≡ a.n = omega (arith, length-take-le a.n a.room.now c.requires) in
    let front = take_at ys rest a.n long in
    record {
      room_after = ap (told_turned c.distort_table.result) front ∙ c.distort_table.ensures;
      room_after_2 = ap (λ (l : List Float). l ++ rest) (sym front);
    }
