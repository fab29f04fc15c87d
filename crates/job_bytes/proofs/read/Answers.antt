-- `job_bytes::read` meets its contract. Assumes nothing.
use Rattle.std.proofs.Common.{ap, ◌∙◌, arith}
use Rattle.std.specs.declared.result.Result.TheVariants.{Ok}
use Rattle.job_bytes.proofs.Reading.{read_misfit, read_unknown, read_job}
use Rattle.job_bytes.proofs.read.Goals as goal

pub returns-then-bytes-ne-LENGTH : goal.returns-then-bytes-ne-LENGTH
returns-then-bytes-ne-LENGTH c = read_misfit c.args.bytes.now c.if-bytes-ne-LENGTH.true

pub returns-then-model : goal.returns-then-model
returns-then-model c =
    read_unknown c.args.bytes.now (omega (arith, c.if-bytes-ne-LENGTH.false)) (omega (arith, c.if-model.true, c.half-model.ensures))

pub overflow_cast-model : goal.overflow_cast-model
overflow_cast-model c = omega (arith, c.if-model.false)

pub job_at-requires : goal.job_at-requires
job_at-requires c = (c.half-model.ensures, omega (arith, c.if-bytes-ne-LENGTH.false))

pub returns : goal.returns
returns c =
    ap Ok c.job_at.ensures
    ∙ read_job c.args.bytes.now (omega (arith, c.if-bytes-ne-LENGTH.false)) (omega (arith, c.if-model.false, c.half-model.ensures))
