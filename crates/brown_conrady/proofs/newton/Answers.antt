-- `brown_conrady::newton` meets its contract. The loop's invariant: the passes that are left from here lead where all of them lead from the start. Assumes nothing.
use mathlib.Core.Path.{sym, ap, ◌∙◌}
use native.Mathlib.Omega.{arith}
use Rattle.lens.proofs.Passes.{ends_there, goes_on, none_left}
use Rattle.brown_conrady.specs.BrownConrady.{step_from, pass, limit, ended}
use Rattle.brown_conrady.proofs.Steps.{updates, updated}
use Rattle.brown_conrady.proofs.newton.Goals as goal

pub returns-then-at : goal.returns-then-at
returns-then-at c =
    let a = c.args in
    let i = c.loop-done.invariant in
    ends_there (pass a.params a.distorted) ended updates limit i.1 (omega (arith, i.0, c.loop-done-test.true)) c.pass-at.ensures c.if-at.true

pub loop-done-preserved : goal.loop-done-preserved
loop-done-preserved c =
    let a = c.args in
    let l = c.loop-done in
    let i = l.invariant in
    let e = ap ended (sym c.pass-at.ensures) ∙ c.if-at.false in
    let one = updated (step_from a.params a.distorted) l.at e in
    (omega (arith, ap updates c.pass-at.ensures ∙ one, i.0), goes_on (pass a.params a.distorted) ended updates limit i.1 (omega (arith, i.0, c.loop-done-test.true)) c.pass-at.ensures c.if-at.false one)

pub returns : goal.returns
returns c =
    let a = c.args in
    let i = c.loop-done.invariant in
    none_left (pass a.params a.distorted) ended updates limit i.1 (omega (arith, i.0, c.loop-done-test.false))
