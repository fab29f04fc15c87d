-- `job_bytes::put_tallies` meets its contract. Assumes nothing.
use Rattle.job_bytes.proofs.Placing.{tallies_put}
use Rattle.job_bytes.proofs.put_tallies.Goals as goal

pub returns : goal.returns
returns c =
    let a = c.args in
    tallies_put a.out.now c.requires a.job _ _ _ _ c.mark.ensures c.put.ensures c.put-2.ensures c.put-3.ensures
