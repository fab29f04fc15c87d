-- `brown_conrady::newton` meets its contract. The loop's invariant: the passes that are left from here lead where all of them lead from the start. Assumes nothing.
use mathlib.Core.Path.{◌≡◌}
use Prim.Native.Nat.{◌-◌}
use Rattle.lens.specs.Passes.{passes}
use Rattle.brown_conrady.specs.BrownConrady.{pass, limit, ended, newton}
use Rattle.brown_conrady.proofs.Steps.{updates}
use Rattle.brown_conrady.proofs.newton.Given as goal

abbrev pub invariant-loop-done : goal.invariant-loop-done
invariant-loop-done l = (updates l.at ≡ l._done) × (passes (pass l.params l.distorted) ended (limit - updates l.at) l.at ≡ newton l.params l.distorted)
