-- `camera_bytes::all` meets its contract. The loop's invariant: so many numbers are put, all finite. Assumes nothing.
use Prim.Native.Nat.{◌*◌}
use Rattle.camera_bytes.proofs.Patterns.{Filled}
use Rattle.camera_bytes.proofs.all.Given as goal

abbrev pub invariant-loop-k : goal.invariant-loop-k
invariant-loop-k l = Filled l.params (2 * l.k) l.n
