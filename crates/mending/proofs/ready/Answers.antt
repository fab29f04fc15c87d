-- `mending::ready` meets its contract. Assumes nothing.
use mathlib.Core.Path.{sym, ◌∙◌}
use borrow.Author.Tests.{le-leb, lt-leb}
use native.Mathlib.Omega.{arith}
use Rattle.region.proofs.Size.{is_sized, bounded}
use Rattle.mending.proofs.ready.Goals as goal
use Rattle.mending.proofs.ready.Goals.{then-cells-gt-CELLS-via-then-cells-gt-CELLS, then-cells-gt-CELLS-via-else-cells-gt-CELLS+then-numbers-cells}

pub returns-then-not-sized : goal.returns-then-not-sized
returns-then-not-sized c = simp (sym c.sized.ensures ∙ c.if-not-sized.true)

pub overflow_mul-cells : goal.overflow_mul-cells
overflow_mul-cells c = omega (arith, bounded c.args.width c.args.height (is_sized c.args.width c.args.height (sym c.sized.ensures ∙ c.if-not-sized.false)))

pub returns-then-cells-gt-CELLS : goal.returns-then-cells-gt-CELLS
returns-then-cells-gt-CELLS c =
    elim c.then-cells-gt-CELLS.branch [
      | then-cells-gt-CELLS-via-then-cells-gt-CELLS w ↦ simp (sym c.sized.ensures ∙ c.if-not-sized.false, lt-leb _ _ w.if-cells-gt-CELLS.true)
      | then-cells-gt-CELLS-via-else-cells-gt-CELLS+then-numbers-cells w ↦
          simp (sym c.sized.ensures ∙ c.if-not-sized.false, le-leb _ _ w.if-cells-gt-CELLS.false, lt-leb _ _ w.if-numbers-cells.true)
    ]

pub returns : goal.returns
returns c =
    simp (sym c.sized.ensures ∙ c.if-not-sized.false, le-leb _ _ c.if-cells-gt-CELLS.false, le-leb _ _ c.if-numbers-cells.false)
