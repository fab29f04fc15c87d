-- `job_bytes::put_camera` meets its contract. Assumes nothing.
use Rattle.job_bytes.proofs.Placing.{camera_put}
use Rattle.job_bytes.proofs.put_camera.Goals as goal

pub returns : goal.returns
returns c =
    let a = c.args in
    camera_put a.out.now c.requires a.job _ _ _ _ _ c.model_number.ensures c.padded-numbers.ensures c.put.ensures c.put-2.ensures c.put_floats.ensures
