-- `mending::feed` meets its contract. The loop's invariant: with the bytes that are left, what comes out is what the whole
-- piece gives. Assumes nothing.
use Rattle.mending.specs.Fed.{fed}
use Rattle.mending.proofs.Passing.{Passed}
use Rattle.mending.proofs.feed.Given as goal

abbrev pub invariant-loop-b : goal.invariant-loop-b
invariant-loop-b l = Passed l.width l.height (fed l.initial.map l.initial.line l.n) l.piece (fed l.map l.line l.held) l.b-index
