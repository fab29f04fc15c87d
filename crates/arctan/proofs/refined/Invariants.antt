-- `arctan::refined` meets its contract. The loop's invariant: after so many rounds what is left to refine is what was, and w is as near as proofs/Newton.antt says. Assumes nothing.
use Rattle.std.proofs.Common.{◌≡◌, ◌-◌}
use Rattle.arctan.specs.Tangent.{rounds, refined}
use Rattle.arctan.proofs.Newton.{Stage, highs, shorts}
use Rattle.arctan.proofs.refined.Given as goal

abbrev pub invariant-loop : goal.invariant-loop
invariant-loop l = (refined (rounds - l.counter) l.n l.w ≡ refined rounds l.n l.n) × Stage (highs l.counter) (shorts l.counter) l.n l.w
