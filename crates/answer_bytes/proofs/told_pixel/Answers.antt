-- `answer_bytes::told_pixel` meets its contract. Assumes nothing.
use mathlib.Core.Path.{refl}
use Rattle.answer_bytes.proofs.told_pixel.Goals as goal

pub returns-in-Err : goal.returns-in-Err
returns-in-Err c = rw c.in-Err.is (c.number.ensures, refl)
