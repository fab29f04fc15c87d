-- `mending::tell_all` meets its contract. The loop's invariant: what is put of the cells that are left is what is put
-- of all. Assumes nothing.
use Rattle.put_text.specs.Placed.{written}
use Rattle.mending.proofs.Telling.{Passed}
use Rattle.mending.proofs.tell_all.Given as goal

abbrev pub invariant-loop-k : goal.invariant-loop-k
invariant-loop-k l = Passed (written l.initial.out l.at) l.kind l.width l.table l.map (written l.out l.next) l.k
