-- `params_line::fielded` meets its contract. The loop's invariant: the fields from i on decide. Assumes nothing.
use mathlib.Core.Path.{◌≡◌}
use Prim.Native.Nat.{◌*◌, ◌-◌}
use lib.ListN.{drop}
use Rattle.params_line.specs.Params.{fielded}
use Rattle.params_line.proofs.fielded.Given as goal

abbrev pub invariant-loop-i : goal.invariant-loop-i
invariant-loop-i l = fielded (l.n - l.i) (drop (l.i * 17) l.line) ≡ fielded l.n l.line
