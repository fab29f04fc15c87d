-- `camera::numbers::camera_of` meets its contract. Assumes nothing.
use mathlib.Core.Path.{refl}
use Rattle.camera.proofs.numbers.camera_of.Goals as goal

pub returns-in-2 : goal.returns-in-2
returns-in-2 c = rw c.in-2.is refl
