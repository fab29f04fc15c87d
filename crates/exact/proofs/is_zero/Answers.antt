-- `exact::is_zero` meets its contract. Assumes nothing.
use Rattle.exact.proofs.Tests.{is_zero_lem}
use Rattle.exact.proofs.is_zero.Goals as goal

pub returns : goal.returns
returns c = is_zero_lem c.args.x
