-- `lens::two_rows` meets its contract. The loop's invariant: the first i numbers are the definition's, and the list keeps its length. Assumes nothing.
use mathlib.Core.Path.{◌≡◌}
use mathlib.Core.List.{◌++◌}
use lib.ListN.{length, take}
use Rattle.lens.specs.Jacobian as spec
use Rattle.lens.proofs.two_rows.Given as goal

abbrev pub invariant-loop-i : goal.invariant-loop-i
invariant-loop-i l = (length l.entries ≡ spec.entries) × (take l.i l.entries ≡ take l.i (spec.padded (l.top ++ l.bottom)))
