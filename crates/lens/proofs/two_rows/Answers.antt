-- `lens::two_rows` meets its contract. The loop's invariant: the first i numbers are the definition's, and the list keeps its length. Assumes nothing.
use mathlib.Core.Path.{ap, ◌∙◌}
use mathlib.Core.List.{List, ◌++◌}
use native.Mathlib.Numerals.{add-one}
use lib.Ieee.{Float}
use lib.ListN.{length, length-set}
use Rattle.lens.proofs.Rows.{one_more, filled}
use Rattle.lens.proofs.two_rows.Goals as goal

pub loop-i-preserved : goal.loop-i-preserved
loop-i-preserved c =
    let a = c.args in
    let l = c.loop-i in
    let v = c.placed.result in
    let row = a.top.now ++ a.bottom.now in
    let stored = one_more l.entries row l.i v l.invariant.0 c.loop-i-test.true c.placed.ensures l.invariant.1 in
    (length-set l.entries l.i v ∙ l.invariant.0, rw add-one stored)

pub returns : goal.returns
returns c =
    let a = c.args in
    let l = c.loop-i in
    ap (λ (es : List Float). record { entries = es; columns = length a.top.now })
    (filled l.entries (a.top.now ++ a.bottom.now) l.i l.invariant.0 c.loop-i-test.false l.invariant.1)
