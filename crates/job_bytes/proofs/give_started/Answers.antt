-- `job_bytes::give_started` meets its contract. Assumes nothing.
use Rattle.job_bytes.proofs.Beginning.{refused_given}
use Rattle.job_bytes.proofs.give_started.Goals as goal

pub returns-in-Ok : goal.returns-in-Ok
returns-in-Ok c = rw c.in-Ok.is c.give_job.ensures

pub returns-in-Err : goal.returns-in-Err
returns-in-Err c =
    rw c.in-Err.is (refused_given c.in-Err.refusal _ _ c.args.out.now c.number.ensures c.code.ensures)
