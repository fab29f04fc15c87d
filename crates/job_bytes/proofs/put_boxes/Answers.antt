-- `job_bytes::put_boxes` meets its contract. Assumes nothing.
use Rattle.job_bytes.proofs.Placing.{boxes_put}
use Rattle.job_bytes.proofs.put_boxes.Goals as goal

pub returns : goal.returns
returns c =
    let a = c.args in
    boxes_put a.out.now c.requires a.job _ _ c.put_box.ensures c.put_box-2.ensures
