-- `compare::next_cell` meets its contract. Assumes nothing.
use borrow.Author.Tests.{eq-eqb, ne_eqb, lt-ltb, le-ltb}
use Rattle.listing.specs.Listing.{across, down}
use Rattle.compare.specs.Judged.{next_cell}
use Rattle.compare.proofs.next_cell.Goals as goal
use Rattle.compare.proofs.next_cell.Goals.{then-x-u-via-then-x-u, then-x-u-via-else-x-u+then-y-v, then-x-u-via-else-x-u+else-y-v+then-u-width, then-x-u-via-else-x-u+else-y-v+else-u-width+then-v-height}

pub returns-then-x-u : goal.returns-then-x-u
unfolding next_cell
returns-then-x-u c =
    elim c.then-x-u.branch [
      | then-x-u-via-then-x-u w ↦ simp (ne_eqb _ _ w.if-x-u.true)
      | then-x-u-via-else-x-u+then-y-v w ↦ simp (eq-eqb _ _ w.if-x-u.false, ne_eqb _ _ w.if-y-v.true)
      | then-x-u-via-else-x-u+else-y-v+then-u-width w ↦
          simp (eq-eqb _ _ w.if-x-u.false, eq-eqb _ _ w.if-y-v.false, le-ltb _ _ w.if-u-width.true)
      | then-x-u-via-else-x-u+else-y-v+else-u-width+then-v-height w ↦
          simp (eq-eqb _ _ w.if-x-u.false, eq-eqb _ _ w.if-y-v.false, lt-ltb _ _ w.if-u-width.false, le-ltb _ _ w.if-v-height.true)
    ]

pub returns-then-u-width-2 : goal.returns-then-u-width-2
unfolding next_cell across down
returns-then-u-width-2 c =
    simp (eq-eqb _ _ c.if-x-u.false, eq-eqb _ _ c.if-y-v.false, lt-ltb _ _ c.if-u-width.false, lt-ltb _ _ c.if-v-height.false, eq-eqb _ _ c.if-u-width-2.true)

pub returns-else-u-width-2 : goal.returns-else-u-width-2
unfolding next_cell across down
returns-else-u-width-2 c =
    simp (eq-eqb _ _ c.if-x-u.false, eq-eqb _ _ c.if-y-v.false, lt-ltb _ _ c.if-u-width.false, lt-ltb _ _ c.if-v-height.false, ne_eqb _ _ c.if-u-width-2.false)
