-- `camera_file::camera_of` meets its contract. Assumes nothing.
use mathlib.Core.Path.{ap, ◌∙◌}
use mathlib.Core.List.{List}
use lib.Ieee.{Float}
use Rattle.camera.specs.Numbers as numbers
use Rattle.camera.proofs.Laws.{camera_most}
use Rattle.params_line.specs.Params.{at, params_of}
use Rattle.camera_file.proofs.camera_of.Goals as goal

pub returns : goal.returns
returns c =
    let a = c.args in
    c.camera_of.ensures
    ∙ ap (λ (n : List Float). numbers.camera_of a.model (numbers.at n)) c.numbers.ensures
    ∙ camera_most (at (params_of a.line.now)) a.model
