-- `observation_bytes::see_each` meets its contract. Assumes nothing.
use Rattle.lens.specs.declared.Pixel.{Pixel}
use Rattle.camera.specs.declared.Camera.{Camera}
use Rattle.observations.specs.Observations.{seen}
use Rattle.observations.specs.declared.Observation.{Observation}
use Rattle.observation_bytes.specs.Parts.{blank}
use Rattle.observation_bytes.proofs.Pass.{Recordwise}
use Rattle.observation_bytes.proofs.see_each.Given as goal

abbrev pub find : Camera → Pixel → Observation
find camera pixel = seen camera (blank pixel)

abbrev pub invariant-loop-i : goal.invariant-loop-i
invariant-loop-i l = Recordwise (find l.camera) l.initial.list l.count l.list l.i
