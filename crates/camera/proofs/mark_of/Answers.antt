-- `camera::mark_of` meets its contract. Assumes nothing.
use Rattle.camera.proofs.mark_of.Goals as goal

pub returns-in-BrownConrady : goal.returns-in-BrownConrady
returns-in-BrownConrady c = rw c.in-BrownConrady.is c.mark-in-BrownConrady.ensures

pub returns-in-ThinPrism : goal.returns-in-ThinPrism
returns-in-ThinPrism c = rw c.in-ThinPrism.is c.mark-in-ThinPrism.ensures
