-- `short_brown_conrady::newton` meets its contract. The loop's invariant: the passes that are left from here lead where all of them lead from the start. Assumes nothing.
use mathlib.Core.Path.{◌≡◌}
use Prim.Native.Nat.{ℕ, ◌-◌}
use Rattle.lens.specs.Passes.{passes}
use Rattle.short_brown_conrady.specs.ShortBrownConrady.{pass, ended, newton}
use Rattle.brown_conrady.specs.BrownConrady.{limit}
use Rattle.short_brown_conrady.specs.declared.Tracked.{Tracked}
use Rattle.short_brown_conrady.proofs.newton.Given as goal

abbrev pub updates : Tracked → ℕ
updates s = s.search.updates

abbrev pub invariant-loop-done : goal.invariant-loop-done
invariant-loop-done l = (updates l.at ≡ l._done) × (passes (pass l.params l.distorted) ended (limit - updates l.at) l.at ≡ newton l.params l.distorted)
