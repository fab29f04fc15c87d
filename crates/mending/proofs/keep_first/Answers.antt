-- `mending::keep_first` meets its contract. Assumes nothing.
use borrow.Author.Tests.{le-leb, lt-leb, eq-eqb, ne_eqb}
use native.Mathlib.Omega.{arith}
use lib.ListN.{length-set}
use Rattle.mending.specs.Kept.{keep_first}
use Rattle.mending.proofs.keep_first.Goals as goal
use Rattle.mending.proofs.keep_first.Goals.{then-map-k-via-then-map-k, then-map-k-via-else-map-k+then-map-k-ne0}

pub returns-then-map-k : goal.returns-then-map-k
unfolding keep_first
returns-then-map-k c =
    elim c.then-map-k.branch [
      | then-map-k-via-then-map-k w ↦ simp (lt-leb _ _ w.if-map-k.true)
      | then-map-k-via-else-map-k+then-map-k-ne0 w ↦ simp (le-leb _ _ w.if-map-k.false, ne_eqb _ _ w.if-map-k-ne0.true)
    ]

pub bounds-map-k-3 : goal.bounds-map-k-3
bounds-map-k-3 c = simp length-set (omega (arith, c.if-map-k.false))

pub bounds-map-k-4 : goal.bounds-map-k-4
bounds-map-k-4 c = simp length-set (omega (arith, c.if-map-k.false))

pub returns : goal.returns
unfolding keep_first
returns c = simp (le-leb _ _ c.if-map-k.false, eq-eqb _ _ c.if-map-k-ne0.false)
