-- `mending::keep_cell` meets its contract. Assumes nothing.
use mathlib.Core.Path.{sym, ◌∙◌}
use borrow.Author.Tests.{lt-ltb, le-ltb}
use native.Mathlib.Omega.{arith}
use Rattle.mending.specs.Kept.{keep_cell}
use Rattle.mending.proofs.Keeping.{place_small}
use Rattle.mending.proofs.keep_cell.Goals as goal
use Rattle.mending.proofs.keep_cell.Goals.{then-not-sized-via-then-not-sized, then-not-sized-via-else-not-sized+then-u-width, then-not-sized-via-else-not-sized+else-u-width+then-v-height}

pub returns-then-not-sized : goal.returns-then-not-sized
unfolding keep_cell
returns-then-not-sized c =
    elim c.then-not-sized.branch [
      | then-not-sized-via-then-not-sized w ↦ simp (sym c.sized.ensures ∙ w.if-not-sized.true)
      | then-not-sized-via-else-not-sized+then-u-width w ↦ simp (sym c.sized.ensures ∙ w.if-not-sized.false, le-ltb _ _ w.if-u-width.true)
      | then-not-sized-via-else-not-sized+else-u-width+then-v-height w ↦
          simp (sym c.sized.ensures ∙ w.if-not-sized.false, lt-ltb _ _ w.if-u-width.false, le-ltb _ _ w.if-v-height.true)
    ]

pub overflow_mul-v : goal.overflow_mul-v
overflow_mul-v c = omega (arith, place_small (sym c.sized.ensures ∙ c.if-not-sized.false) c.if-u-width.false c.if-v-height.false)

pub overflow_add-v : goal.overflow_add-v
overflow_add-v c = omega (arith, place_small (sym c.sized.ensures ∙ c.if-not-sized.false) c.if-u-width.false c.if-v-height.false)

pub overflow_mul-v-2 : goal.overflow_mul-v-2
overflow_mul-v-2 c = omega (arith, place_small (sym c.sized.ensures ∙ c.if-not-sized.false) c.if-u-width.false c.if-v-height.false)

pub keep_first-requires : goal.keep_first-requires
keep_first-requires c = omega (arith, place_small (sym c.sized.ensures ∙ c.if-not-sized.false) c.if-u-width.false c.if-v-height.false)

pub returns : goal.returns
unfolding keep_cell
returns c =
    simp (sym c.sized.ensures ∙ c.if-not-sized.false, lt-ltb _ _ c.if-u-width.false, lt-ltb _ _ c.if-v-height.false) c.keep_first.ensures
