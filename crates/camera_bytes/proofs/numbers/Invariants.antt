-- `camera_bytes::numbers` meets its contract. The loop's invariant: so many numbers are the bytes'. Assumes nothing.
use mathlib.Core.Path.{◌≡◌}
use lib.ListN.{length}
use Rattle.camera.specs.Numbers.{most}
use Rattle.camera_bytes.specs.Putting.{SameTo}
use Rattle.camera_bytes.proofs.numbers.Given as goal

abbrev pub invariant-loop-i : goal.invariant-loop-i
invariant-loop-i l = (length l.n ≡ most) × SameTo l.i l.params l.n
