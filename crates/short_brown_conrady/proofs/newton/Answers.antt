-- `short_brown_conrady::newton` meets its contract. The loop's invariant: the passes that are left from here lead where all of them lead from the start. Assumes nothing.
use mathlib.Core.Path.{◌≡◌, refl, sym, ap, ◌∙◌}
use mathlib.Core.Bool.{Bool, true, false, true≢false}
use Prim.Native.Nat.{suc}
use native.Mathlib.Omega.{arith}
use lib.Ieee.{is_nan}
use Rattle.lens.specs.declared.Point.{Point}
use Rattle.lens.proofs.Passes.{ends_there, goes_on, none_left}
use Rattle.short_brown_conrady.specs.ShortBrownConrady.{by_step, pass, ended}
use Rattle.brown_conrady.specs.BrownConrady.{limit}
use Rattle.brown_conrady.specs.declared.BrownConradyParams.{BrownConradyParams}
use Rattle.brown_conrady.specs.declared.Search.{Search}
use Rattle.brown_conrady.proofs.Steps.{updated}
use Rattle.short_brown_conrady.specs.declared.Tracked.{Tracked}
use Rattle.short_brown_conrady.proofs.Full.{norm_at, nan_stays, is_pass}
use Rattle.short_brown_conrady.proofs.newton.Invariants.{updates}
use Rattle.short_brown_conrady.proofs.newton.Goals as goal

updated_so : (params : BrownConradyParams) (distorted : Point) (at : Tracked) → ended (pass params distorted at) ≡ false → updates (pass params distorted at) ≡ suc (updates at)
updated_so params distorted at h = go (is_nan (norm_at params distorted at)) refl
  where
    go : (b : Bool) → is_nan (norm_at params distorted at) ≡ b → updates (pass params distorted at) ≡ suc (updates at)
    go true e = absurd (true≢false (sym (ap (λ (s : Search). s.ended) (nan_stays params distorted at e)) ∙ h))
    go false e =
        let p = is_pass params distorted at e in
        ap (λ (s : Search). s.updates) p ∙ updated (by_step params distorted) at.search (ap (λ (s : Search). s.ended) (sym p) ∙ h)

pub returns-then-at : goal.returns-then-at
returns-then-at c =
    let a = c.args in
    let i = c.loop-done.invariant in
    ends_there (pass a.params a.distorted) ended updates limit i.1 (omega (arith, i.0, c.loop-done-test.true)) c.pass-at.ensures c.if-at.true

pub loop-done-preserved : goal.loop-done-preserved
loop-done-preserved c =
    let a = c.args in
    let l = c.loop-done in
    let i = l.invariant in
    let e = ap ended (sym c.pass-at.ensures) ∙ c.if-at.false in
    let one = updated_so a.params a.distorted l.at e in
    (omega (arith, ap updates c.pass-at.ensures ∙ one, i.0), goes_on (pass a.params a.distorted) ended updates limit i.1 (omega (arith, i.0, c.loop-done-test.true)) c.pass-at.ensures c.if-at.false one)

pub returns : goal.returns
returns c =
    let a = c.args in
    let i = c.loop-done.invariant in
    none_left (pass a.params a.distorted) ended updates limit i.1 (omega (arith, i.0, c.loop-done-test.false))
