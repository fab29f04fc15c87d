-- `job_bytes::give_job` meets its contract. Assumes nothing.
use Rattle.std.proofs.Common.{sym, ◌∙◌}
use Rattle.little_endian.proofs.Laws.{put_whole}
use Rattle.given.proofs.Giving.{written, left_alone}
use Rattle.job_bytes.specs.Places.{record_length}
use Rattle.job_bytes.specs.Bytes.{record_bytes}
use Rattle.job_bytes.proofs.Placing.{length_record}
use Rattle.job_bytes.proofs.give_job.Goals as goal

pub returns-then-code-eq0 : goal.returns-then-code-eq0
returns-then-code-eq0 c =
    let first = c in
    let a = first.args in
    written record_length 0 (record_bytes a.job) a.out.now _ first.code-code.ensures _ first.if-code-eq0.true
    (λ e. c.write.ensures ∙ put_whole (record_bytes a.job) a.out.now (length_record a.job ∙ sym e))

pub returns-else-code-eq0 : goal.returns-else-code-eq0
returns-else-code-eq0 c =
    let a = c.args in
    left_alone record_length 0 (record_bytes a.job) a.out.now _ c.code-code.ensures c.if-code-eq0.false
