-- `sweep::units` meets its contract. The loop's invariant: the units left from here meet what all of them meet. Assumes nothing.
use mathlib.Core.Path.{◌≡◌, refl, sym, ap, ◌∙◌}
use Prim.Native.Nat.{ℕ, ◌-◌}
use native.Mathlib.Omega.{arith}
use Rattle.lens.specs.Undistorted.{told}
use Rattle.engine.specs.Engine.{undistort}
use Rattle.engine.proofs.Laws.{most_updates}
use Rattle.turns.specs.Turns.{turn, met}
use Rattle.turns.proofs.Laws.{met_none, met_refused, met_done}
use Rattle.border.specs.Border.{border_at}
use Rattle.plans.specs.Plan.{swept}
use Rattle.plans.proofs.AtBorder.{swept_counts}
use Rattle.plans.proofs.Tallies.{at_most_one}
use Rattle.sweep.specs.Sweep.{by_mark, told_swept}
use Rattle.sweep.proofs.units.Goals as goal

pub loop-done-init : goal.loop-done-init
loop-done-init c =
    let a = c.args in
    let all : (a.count - 0) ≡ a.count = omega arith in
    let s = swept (by_mark a.camera a.short a.width a.height a.strict) in
    (omega arith, omega (arith, c.requires.3), omega (arith, c.requires.4), ap (λ (n : ℕ). met (turn s n a.from)) all)

pub sweep_one-requires : goal.sweep_one-requires
sweep_one-requires c =
    let l = c.loop-done in
    let i = l.invariant in
    (c.requires.0, omega (arith, c.requires.1, c.requires.2, i.0, c.loop-done-test.true), omega (arith, i.1, c.loop-done-test.true), omega (arith, i.2, c.loop-done-test.true))

pub returns-in-Err : goal.returns-in-Err
returns-in-Err c =
    let a = c.args in
    let l = c.loop-done in
    let e = sym c.sweep_one.ensures ∙ ap told_swept c.in-Err.is in
    sym (met_refused (swept (by_mark a.camera a.short a.width a.height a.strict)) (a.count - l._done) l.at (omega (arith, c.loop-done-test.true)) _ e) ∙ l.invariant.3

pub loop-done-preserved : goal.loop-done-preserved
loop-done-preserved c =
    let a = c.args in
    let l = c.loop-done in
    let t = c.in-Ok.next in
    let s = swept (by_mark a.camera a.short a.width a.height a.strict) in
    let e = sym c.sweep_one.ensures ∙ ap told_swept c.in-Ok.is in
    let n = swept_counts (by_mark a.camera a.short a.width a.height a.strict) l.at t e in
    let more = c.loop-done-test.true in (
      omega (arith, n.units, l.invariant.0, more),
      omega (arith, n.updates, most_updates a.camera a.short (border_at a.width a.height l.at.done), l.invariant.1, more),
      omega (arith, n.unsettled, at_most_one (told (undistort a.camera a.short (border_at a.width a.height l.at.done))).settled.flag, l.invariant.2, more),
      sym (met_done s (a.count - l._done) l.at (omega (arith, more)) t e ∙ ap (λ (k : ℕ). met (turn s k t)) (omega arith)) ∙ l.invariant.3,
    )

pub returns : goal.returns
returns c =
    let a = c.args in
    let l = c.loop-done in
    let s = swept (by_mark a.camera a.short a.width a.height a.strict) in
    let z : (a.count - l._done) ≡ 0 = omega (arith, c.loop-done-test.false) in
    sym (ap (λ (n : ℕ). met (turn s n l.at)) z ∙ met_none s l.at) ∙ l.invariant.3
