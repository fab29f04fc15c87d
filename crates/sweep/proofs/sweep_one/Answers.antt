-- `sweep::sweep_one` meets its contract. Assumes nothing.
use Rattle.std.proofs.Common.{rules}
use mathlib.Core.Path.{sym, ap, ◌∙◌}
use native.Mathlib.Omega.{arith}
use Rattle.lens.specs.Undistorted.{Undistorted, told}
use Rattle.engine.specs.Engine.{undistort}
use Rattle.engine.proofs.Laws.{most_updates}
use Rattle.plans.specs.Plan.{closed}
use Rattle.plans.specs.declared.Progress.{Progress}
use Rattle.plans.proofs.AtBorder.{sample_refused, sample_strict, sample_done, sample_last}
use Rattle.sweep.specs.Sweep.{by_mark}
use Rattle.sweep.proofs.sweep_one.Goals as goal

pub returns-then-too_strict : goal.returns-then-too_strict
returns-then-too_strict c =
    let a = c.args in
    let e = sym c.in_ok-settled.was ∙ c.undistort.ensures ∙ ap (undistort a.camera a.short) c.border_pixel.ensures in
    sample_strict (by_mark a.camera a.short a.width a.height a.strict) a.at c.in_ok-settled.settled e (sym c.too_strict.ensures ∙ c.if-too_strict.true)

pub sampled-next-requires : goal.sampled-next-requires
sampled-next-requires c =
    let a = c.args in
    let u = c.undistort in
    let e = ap (λ (u : Undistorted). (told u).settled.updates) (sym c.in_ok-settled.was ∙ u.ensures) in
    (omega (arith, c.requires.1), omega (arith, e, c.requires.2, most_updates a.camera a.short c.border_pixel.result), c.requires.3)

pub returns-then-next-all : goal.returns-then-next-all
returns-then-next-all c =
    let a = c.args in
    let e = sym c.in_ok-settled.was ∙ c.undistort.ensures ∙ ap (undistort a.camera a.short) c.border_pixel.ensures in
    let f = sym c.too_strict.ensures ∙ c.if-too_strict.false in
    let d = ap (λ (at : Progress). at.done) c.sampled-next.ensures in
    rw c.sampled-next.ensures
    (sample_done (by_mark a.camera a.short a.width a.height a.strict) a.at c.in_ok-settled.settled e f (omega (arith, d, c.requires.0, c.if-next-all.true)))

pub returns-in_err-settled : goal.returns-in_err-settled
returns-in_err-settled c =
    let a = c.args in
    let e = sample_refused (by_mark a.camera a.short a.width a.height a.strict) a.at _
    (sym c.in_err-settled.was ∙ c.undistort.ensures ∙ ap (undistort a.camera a.short) c.border_pixel.ensures) in
    search rules

pub returns : goal.returns
returns c =
    let a = c.args in
    let e = sym c.in_ok-settled.was ∙ c.undistort.ensures ∙ ap (undistort a.camera a.short) c.border_pixel.ensures in
    let f = sym c.too_strict.ensures ∙ c.if-too_strict.false in
    let d = ap (λ (at : Progress). at.done) c.sampled-next.ensures in
    c.closed.ensures ∙ ap (closed a.width a.height) c.sampled-next.ensures
    ∙ sample_last (by_mark a.camera a.short a.width a.height a.strict) a.at c.in_ok-settled.settled e f (omega (arith, d, c.requires.0, c.if-next-all.false))
