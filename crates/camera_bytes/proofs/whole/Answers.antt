-- `camera_bytes::whole` meets its contract. Assumes nothing.
use Rattle.camera_bytes.proofs.Patterns.{whole_finite, whole_broken}
use Rattle.camera_bytes.proofs.whole.Goals as goal

pub returns-in_default : goal.returns-in_default
returns-in_default c = let a = c.args in whole_broken a.model a.params.now c.requires (rw c.in_default.is at c.all.ensures)

pub returns : goal.returns
returns c =
    let a = c.args in
    whole_finite a.model a.params.now _ (rw c.in-Some.is at c.all.ensures) c.camera_of.ensures
