-- `mending::tell` meets its contract. Assumes nothing.
use borrow.Author.Tests.{eq-eqb, ne_eqb}
use Rattle.mending.specs.Kept.{kept_from}
use Rattle.mending.proofs.tell.Goals as goal

pub returns-then-map-k-eq0 : goal.returns-then-map-k-eq0
unfolding kept_from
returns-then-map-k-eq0 c = simp (eq-eqb _ _ c.if-map-k-eq0.true) c.tell_missing.ensures

pub returns : goal.returns
unfolding kept_from
returns c = simp (ne_eqb _ _ c.if-map-k-eq0.false) c.tell_given.ensures
