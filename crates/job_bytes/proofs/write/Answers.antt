-- `job_bytes::write` meets its contract. Assumes nothing.
use Rattle.job_bytes.proofs.Placing.{no_room, body_put, check_put}
use Rattle.job_bytes.proofs.write.Goals as goal

pub returns-then-out-ge-LENGTH : goal.returns-then-out-ge-LENGTH
returns-then-out-ge-LENGTH c =
    let a = c.args in
    let room = c.if-out-ge-LENGTH.true in
    check_put a.out.now room a.job _ _ _
    (body_put a.out.now room a.job _ _ _ _ c.put_camera.ensures c.put_size.ensures c.put_boxes.ensures c.put_tallies.ensures)
    c.check_word-check.ensures c.put.ensures

pub returns-else-out-ge-LENGTH : goal.returns-else-out-ge-LENGTH
returns-else-out-ge-LENGTH c = no_room c.args.job c.args.out.now c.if-out-ge-LENGTH.false
