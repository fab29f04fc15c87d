-- `opencv::put_params` meets its contract. Assumes nothing.
use mathlib.Core.Path.{refl}
use Rattle.put_text.proofs.Putting.{put_same}
use Rattle.opencv.specs.Moved.{our_params}
use Rattle.opencv.proofs.put_params.Goals as goal

pub returns : goal.returns
unfolding our_params
returns c = put_same _ _ _ _ c.put_line.ensures refl
