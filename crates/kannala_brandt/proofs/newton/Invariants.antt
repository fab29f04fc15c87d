-- `kannala_brandt::newton` meets its contract. The loop's invariant: the passes left from here find what newton finds. Assumes nothing.
use mathlib.Core.Path.{◌≡◌}
use Prim.Native.Nat.{◌-◌}
use Rattle.lens.specs.Passes.{passes}
use Rattle.kannala_brandt.specs.KannalaBrandt.{limit, pass, ended, newton}
use Rattle.kannala_brandt.proofs.Updates.{updates}
use Rattle.kannala_brandt.proofs.newton.Given as goal

abbrev pub invariant-loop-done : goal.invariant-loop-done
invariant-loop-done l = (updates l.at ≡ l._done) × (passes (pass l.params l.rth) ended (limit - updates l.at) l.at ≡ newton l.params l.rth)
