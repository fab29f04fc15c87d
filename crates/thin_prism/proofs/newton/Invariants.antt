-- `thin_prism::newton` meets its contract. The loop's invariant: the passes that are left from here lead where all of them lead from the start. Assumes nothing.
use mathlib.Core.Path.{◌≡◌}
use mathlib.Core.Bool.{false}
use Prim.Native.Nat.{ℕ, ◌-◌}
use Rattle.lens.specs.Passes.{passes}
use Rattle.lens.specs.declared.Point.{Point}
use Rattle.brown_conrady.specs.BrownConrady.{limit, ended}
use Rattle.brown_conrady.specs.declared.Search.{Search}
use Rattle.thin_prism.specs.ThinPrism.{pass, newton}
use Rattle.thin_prism.proofs.newton.Given as goal

abbrev pub on_the_way : Point → ℕ → Search
on_the_way xy n = record { xy = xy; updates = n; ended = false }

abbrev pub invariant-loop-updates : goal.invariant-loop-updates
invariant-loop-updates l = passes (pass l.params l.distorted) ended (limit - l.updates) (on_the_way l.xy l.updates) ≡ newton l.params l.distorted
