-- `distortion_table::filler::fill` meets its contract. Its loop is the filler's of plans, whatever a cell holds two of. Assumes nothing.
use mathlib.Core.Path.{◌≡◌, sym}
use native.Mathlib.Omega.{arith}
use Rattle.plans.proofs.Filler.{all_filled, one_refused, one_filled}
use Rattle.distortion_table.proofs.filler.fill.Goals as goal

pub returns-in-Err : goal.returns-in-Err
returns-in-Err g c =
    let e = rw c.in-Err.is at c.cell_at.ensures in
    one_refused c.loop-i.invariant c.loop-i-test.true _ (sym e)

pub loop-i-preserved : goal.loop-i-preserved
loop-i-preserved g c =
    let p = c.next_place-place in
    let e = rw c.in-Ok.is at c.cell_at.ensures in
    one_filled c.loop-i.invariant c.loop-i-test.true _ _ (sym e) p.result.u p.result.v p.ensures.0 p.ensures.1

pub returns : goal.returns
returns g c =
    let l = c.loop-i in
    let i : l.i ≡ c.args.count = omega arith in
    rw i at (all_filled l.invariant c.loop-i-test.false)
