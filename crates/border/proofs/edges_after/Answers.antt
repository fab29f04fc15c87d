-- `border::edges_after` meets its contract. Assumes nothing.
use mathlib.Core.Path.{refl}
use borrow.Author.Tests.{ne_eqb}
use Rattle.border.specs.Edges.{edges_after}
use Rattle.border.proofs.edges_after.Goals as goal

pub returns-then-done-eq0 : goal.returns-then-done-eq0
unfolding edges_after
returns-then-done-eq0 c = rw c.if-done-eq0.true refl

pub returns-else-done-eq0 : goal.returns-else-done-eq0
unfolding edges_after
returns-else-done-eq0 c = rw (c.widened.ensures, ne_eqb _ _ c.if-done-eq0.false) refl
