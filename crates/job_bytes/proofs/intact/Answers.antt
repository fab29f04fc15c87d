-- `job_bytes::intact` meets its contract. Assumes nothing.
use Rattle.std.proofs.Common.{eqb, ap₂}
use Rattle.job_bytes.proofs.intact.Goals as goal

pub returns : goal.returns
returns c = ap₂ eqb c.word.ensures c.check_word.ensures
