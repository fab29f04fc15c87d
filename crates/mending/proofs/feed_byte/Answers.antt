-- `mending::feed_byte` meets its contract. Assumes nothing.
use mathlib.Core.Path.{sym, ap}
use mathlib.Core.List.{List}
use Prim.Native.Nat.{ℕ}
use native.Mathlib.Omega.{arith}
use borrow.Author.Tests.{lt-ltb, le-ltb, eq-eqb, ne_eqb}
use lib.ListN.{set, length-set}
use lib.Seq.{length-take-le}
use Rattle.mending.specs.Fed.{fed, feed_byte}
use Rattle.mending.proofs.feed_byte.Goals as goal

pub returns-then-b-eq10 : goal.returns-then-b-eq10
unfolding feed_byte
returns-then-b-eq10 c = simp (le-ltb _ _ c.if-n-line.true, eq-eqb _ _ c.if-b-eq10.true)

pub returns-else-b-eq10 : goal.returns-else-b-eq10
unfolding feed_byte
returns-else-b-eq10 c = simp (le-ltb _ _ c.if-n-line.true, ne_eqb _ _ c.if-b-eq10.false)

pub slice_bounds-keep-end : goal.slice_bounds-keep-end
slice_bounds-keep-end c = simp length-set (omega (arith, c.if-n-line.false))

pub slice_bounds-keep-end-then-b-eq10-2 : goal.slice_bounds-keep-end-then-b-eq10-2
slice_bounds-keep-end-then-b-eq10-2 c = sym (length-take-le _ _ (simp length-set (omega (arith, c.if-n-line.false))))

pub returns-then-b-eq10-2 : goal.returns-then-b-eq10-2
unfolding feed_byte
returns-then-b-eq10-2 c =
    simp (lt-ltb _ _ c.if-n-line.false, eq-eqb _ _ c.if-b-eq10-2.true) (ap (λ (m : List ℕ). fed m (set c.args.line.now c.args.n c.args.b) 0) c.keep.ensures)

pub returns : goal.returns
unfolding feed_byte
returns c = simp (lt-ltb _ _ c.if-n-line.false, ne_eqb _ _ c.if-b-eq10-2.false)
