-- `distortion_table::turn` meets its contract: by its parts. Assumes nothing.
use mathlib.Core.Path.{sym, ap, ◌∙◌}
use Rattle.sweep.specs.Sweep.{told_refusal}
use Rattle.distortion_table.specs.Parts.{told_due}
use Rattle.distortion_table.proofs.ByParts.{came}
use Rattle.distortion_table.proofs.turn.Goals as goal

pub lend-requires : goal.lend-requires
lend-requires g c = let a = c.args in (came g.N.CellNumber.kind a.job a.table.now a.allowance (sym c.up_to_cells.ensures ∙ ap told_due c.in-Ok.is)).in_place

pub end-requires : goal.end-requires
end-requires g c =
    let a = c.args in
    let f = c.lend.result in
    (came g.N.CellNumber.kind a.job a.table.now a.allowance (sym c.up_to_cells.ensures ∙ ap told_due c.in-Ok.is)).within f.done (told_refusal f.refusal) c.lend.new.table c.lend.ensures

pub returns-in-Err : goal.returns-in-Err
returns-in-Err g c = let a = c.args in rw c.handed.ensures (came g.N.CellNumber.kind a.job a.table.now a.allowance (sym c.up_to_cells.ensures ∙ ap told_due c.in-Err.is))

pub returns-in-Ok : goal.returns-in-Ok
returns-in-Ok g c =
    let a = c.args in
    let f = c.lend.result in
    rw (c.handed-in-Ok.ensures, c.end.ensures.0, c.end.ensures.1)
    ((came g.N.CellNumber.kind a.job a.table.now a.allowance (sym c.up_to_cells.ensures ∙ ap told_due c.in-Ok.is)).ends f.done (told_refusal f.refusal) c.lend.new.table c.lend.ensures)
