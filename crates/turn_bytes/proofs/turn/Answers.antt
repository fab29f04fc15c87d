-- `turn_bytes::turn` meets its contract: by how it starts. Assumes nothing.
use mathlib.Core.Path.{subst}
use lib.ListN.{length}
use Rattle.turn_bytes.specs.Turn.{Starts}
use Rattle.turn_bytes.proofs.Turning.{not_begun, lengths, size_kept, begun}
use Rattle.turn_bytes.proofs.turn.Goals as goal

pub give-requires : goal.give-requires
give-requires g c =
    let a = c.args in
    let s = subst (Starts a.job.now (length a.table.now) (length a.answer.now)) c.in-Ok.is c.begin.ensures in
    let l = lengths g.N.CellNumber.kind a.job.now a.table.now a.allowance a.answer.now _ s in
    (size_kept g.N.CellNumber.kind a.job.now a.table.now a.allowance a.answer.now _ s c.turn.result _ c.turn.ensures, l.1, l.2)

pub returns-in-Err : goal.returns-in-Err
returns-in-Err g c =
    let a = c.args in
    not_begun g.N.CellNumber.kind a.job.now a.table.now a.allowance a.answer.now _
    (subst (Starts a.job.now (length a.table.now) (length a.answer.now)) c.in-Err.is c.begin.ensures)

pub returns-in-Ok : goal.returns-in-Ok
returns-in-Ok g c =
    let a = c.args in
    begun g.N.CellNumber.kind a.job.now a.table.now a.allowance a.answer.now _
    (subst (Starts a.job.now (length a.table.now) (length a.answer.now)) c.in-Ok.is c.begin.ensures)
    c.turn.result _ c.turn.ensures _ _ _ c.give.ensures
