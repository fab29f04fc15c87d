-- `listing_lines::numeral` meets its contract. Assumes nothing.
use Rattle.listing_lines.proofs.Passing.{Passed}
use Rattle.listing_lines.proofs.numeral.Given as goal

abbrev pub invariant-loop-b : goal.invariant-loop-b
invariant-loop-b l = Passed l.base l.field l.text l.left l.n l.b-index
