-- `job_bytes::fresh` meets its contract. Assumes nothing.
use Rattle.std.proofs.Common.{ap}
use Rattle.job.specs.Job.{told_started}
use Rattle.job_bytes.proofs.Beginning.{call}
use Rattle.job_bytes.proofs.fresh.Goals as goal

pub returns : goal.returns
returns c =
    let a = c.args in
    call a.model a.params.now a.width a.height a.mark a.out.now _ c.started-started.result c.read.result c.give_started.ensures (ap told_started c.started-started.ensures) c.read.ensures
