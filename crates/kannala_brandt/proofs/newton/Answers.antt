-- `kannala_brandt::newton` meets its contract. The loop's invariant: the passes left from here find what newton finds. Assumes nothing.
use mathlib.Core.Path.{refl, ap, ◌∙◌}
use native.Mathlib.Omega.{arith}
use Rattle.lens.proofs.Passes.{ends_there, goes_on, none_left}
use Rattle.kannala_brandt.specs.KannalaBrandt.{limit, pass, ended, newton}
use Rattle.kannala_brandt.proofs.Updates.{updates, one_update}
use Rattle.kannala_brandt.proofs.newton.Goals as goal

pub loop-done-init : goal.loop-done-init
unfolding newton
loop-done-init c = (refl, rw c.root.ensures refl)

pub returns-then-at : goal.returns-then-at
returns-then-at c =
    let a = c.args in
    ends_there (pass a.params a.rth) ended updates limit c.loop-done.invariant.1 (omega (arith, c.loop-done.invariant.0, c.loop-done-test.true)) c.pass-at.ensures c.if-at.true

pub loop-done-preserved : goal.loop-done-preserved
loop-done-preserved c =
    let a = c.args in
    let l = c.loop-done in
    let i = l.invariant in
    let one = one_update a.params a.rth l.at in
    (omega (arith, ap updates c.pass-at.ensures ∙ one, i.0), goes_on (pass a.params a.rth) ended updates limit i.1 (omega (arith, i.0, c.loop-done-test.true)) c.pass-at.ensures c.if-at.false one)

pub returns : goal.returns
returns c =
    let a = c.args in
    let i = c.loop-done.invariant in
    none_left (pass a.params a.rth) ended updates limit i.1 (omega (arith, i.0, c.loop-done-test.false))
