-- `exact::mark` meets its contract. Assumes nothing.
use Rattle.exact.proofs.Marks.{self_marks}
use Rattle.exact.proofs.mark.Goals as goal

pub returns : goal.returns
returns c = self_marks _
