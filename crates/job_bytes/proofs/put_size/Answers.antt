-- `job_bytes::put_size` meets its contract. Assumes nothing.
use Rattle.job_bytes.proofs.Placing.{size_put}
use Rattle.job_bytes.proofs.put_size.Goals as goal

pub returns : goal.returns
returns c =
    let a = c.args in
    size_put a.out.now c.requires a.job _ _ _ c.put.ensures c.put-2.ensures c.put-3.ensures
