-- `thin_prism::newton` meets its contract. The loop's invariant: the passes that are left from here lead where all of them lead from the start. Assumes nothing.
use mathlib.Core.Path.{◌≡◌, refl, sym, ap, ◌∙◌}
use mathlib.Core.Bool.{true, false}
use Prim.Native.Nat.{ℕ, ◌+◌}
use native.Mathlib.Omega.{arith}
use Rattle.exact.specs.F64.{◌⊖◌}
use Rattle.lens.specs.declared.Point.{Point}
use Rattle.lens.proofs.Passes.{ends_there, goes_on, none_left}
use Rattle.brown_conrady.specs.BrownConrady.{small, pass_by, limit, ended}
use Rattle.brown_conrady.specs.declared.Offset.{Offset}
use Rattle.brown_conrady.proofs.Steps.{updates, updated}
use Rattle.thin_prism.specs.ThinPrism.{step_from, pass}
use Rattle.thin_prism.specs.declared.ThinPrismParams.{ThinPrismParams}
use Rattle.thin_prism.proofs.newton.Invariants.{on_the_way}
use Rattle.thin_prism.proofs.newton.Goals as goal

-- what the code makes of a step is a pass
module _ (params : ThinPrismParams) (distorted xy : Point) (n : ℕ) {step : Offset} (is : step ≡ step_from params distorted xy) where
  there : small step ≡ true → record { xy = xy; updates = n; ended = true } ≡ pass params distorted (on_the_way xy n)
  unfolding pass_by
  there e = rw (← is, e) refl

  further : small step ≡ false → on_the_way (record { 0 = xy.0 ⊖ step.0; 1 = xy.1 ⊖ step.1 }) (n + 1) ≡ pass params distorted (on_the_way xy n)
  unfolding pass_by
  further e = rw (← is, e) refl

pub returns-then-small : goal.returns-then-small
returns-then-small c =
    let l = c.loop-updates in
    let a = c.args in
    ends_there (pass a.params a.distorted) ended updates limit l.invariant c.loop-updates-test.true
    (there a.params a.distorted l.xy l.updates c.step_from-step.ensures (sym c.small.ensures ∙ c.if-small.true)) refl

pub loop-updates-preserved : goal.loop-updates-preserved
loop-updates-preserved c =
    let l = c.loop-updates in
    let a = c.args in
    let made = further a.params a.distorted l.xy l.updates c.step_from-step.ensures (sym c.small.ensures ∙ c.if-small.false) in
    goes_on (pass a.params a.distorted) ended updates limit l.invariant c.loop-updates-test.true made refl
    (updated (step_from a.params a.distorted) (on_the_way l.xy l.updates) (ap ended (sym made)))

pub returns : goal.returns
returns c =
    let a = c.args in
    let l = c.loop-updates in
    let all : l.updates ≡ limit = omega (arith, c.loop-updates-test.false, l.auto.updates-end) in
    ap (on_the_way l.xy) (sym all) ∙ none_left (pass a.params a.distorted) ended updates limit l.invariant c.loop-updates-test.false
