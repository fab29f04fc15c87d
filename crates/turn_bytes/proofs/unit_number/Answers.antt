-- `turn_bytes::unit_number` meets its contract. Assumes nothing.
use mathlib.Core.Path.{refl}
use Rattle.turn_bytes.proofs.unit_number.Goals as goal

pub returns-in-Running : goal.returns-in-Running
returns-in-Running c = rw c.in-Running.is refl

pub returns-in-Finished : goal.returns-in-Finished
returns-in-Finished c = rw c.in-Finished.is refl

pub returns-in-Refused : goal.returns-in-Refused
returns-in-Refused c = rw c.in-Refused.is c.number.ensures
