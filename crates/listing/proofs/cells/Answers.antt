-- `listing::cells` meets its contract. Assumes nothing.
use mathlib.Core.Path.{◌∙◌}
use native.Mathlib.Omega.{arith}
use Rattle.listing.proofs.Rows.{all_passed, rows_passed, no_room, one_passed}
use Rattle.listing.proofs.cells.Goals as goal

pub returns-then-v-height : goal.returns-then-v-height
returns-then-v-height c = rows_passed _ _ _ _ _ _ _ _ c.loop-pair.invariant.3 c.if-v-height.true

pub returns-then-behind-next : goal.returns-then-behind-next
returns-then-behind-next c =
    let i = c.loop-pair.invariant in
    let s = c.in-Some.ensures.steps in
    no_room _ _ _ _ _ _ _ _ i.3 _ _ (s.1.1 ∙ i.2) s.1.0 c.if-v-height.false _ _ c.cell_line-behind.ensures c.if-behind-next.true

pub loop-pair-preserved : goal.loop-pair-preserved
loop-pair-preserved c =
    let i = c.loop-pair.invariant in
    let s = c.in-Some.ensures.steps in (
      omega (arith, s.0, i.2),
      tt,
      s.0 ∙ i.2,
      one_passed _ _ _ _ _ _ _ _ i.3 _ _ (s.1.1 ∙ i.2) s.1.0 c.if-v-height.false _ _ c.cell_line-behind.ensures _ _ c.if-behind-next.false c.across-u.ensures c.down-v.ensures,
    )

pub returns : goal.returns
returns c =
    let i = c.loop-pair.invariant in
    all_passed _ _ _ _ _ _ _ _ i.3 (omega (arith, c.in-None.ensures.steps.1.0, i.2))
