-- `mending::tell_differing` meets its contract. Assumes nothing.
use borrow.Author.Tests.{eq-eqb, ne_eqb}
use Rattle.put_text.specs.Placed.{each_placed}
use Rattle.mending.proofs.tell_differing.Goals as goal
use Rattle.mending.proofs.tell_differing.Goals.{then-c-a-via-then-c-a, then-c-a-via-else-c-a+then-d-b}

pub returns-then-c-a : goal.returns-then-c-a
unfolding each_placed
returns-then-c-a c =
    elim c.then-c-a.branch [
      | then-c-a-via-then-c-a w ↦ simp (ne_eqb _ _ w.if-c-a.true) c.differs_line.ensures
      | then-c-a-via-else-c-a+then-d-b w ↦ simp (eq-eqb _ _ w.if-c-a.false, ne_eqb _ _ w.if-d-b.true) c.differs_line.ensures
    ]

pub returns : goal.returns
unfolding each_placed
returns c = simp (eq-eqb _ _ c.if-c-a.false, eq-eqb _ _ c.if-d-b.false)
