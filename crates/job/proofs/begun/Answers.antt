-- `job::begun` meets its contract. Assumes nothing.
use mathlib.Core.Path.{refl}
use Rattle.job.proofs.begun.Goals as goal

pub returns : goal.returns
returns c = rw (c.nowhere-2.ensures, c.nowhere.ensures) refl
