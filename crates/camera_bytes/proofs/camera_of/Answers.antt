-- `camera_bytes::camera_of` meets its contract. Assumes nothing.
use mathlib.Core.Path.{◌∙◌}
use Rattle.camera_bytes.proofs.Patterns.{same_camera}
use Rattle.camera_bytes.proofs.camera_of.Goals as goal

pub returns : goal.returns
returns c =
    let a = c.args in
    c.camera_of.ensures ∙ same_camera a.model a.params.now c.numbers.result c.numbers.ensures
