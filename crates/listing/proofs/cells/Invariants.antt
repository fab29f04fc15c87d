-- `listing::cells` meets its contract. The loop's invariant: what is put of the rest is what is put of all. Assumes nothing.
use mathlib.Core.Path.{◌≡◌}
use Rattle.std.specs.Slice.Iter.{chunks_exact_rest, chunks_exact_size}
use Rattle.put_text.specs.Placed.{written}
use Rattle.listing.proofs.Rows.{Passed}
use Rattle.listing.proofs.cells.Given as goal

abbrev pub invariant-loop-pair : goal.invariant-loop-pair
invariant-loop-pair l =
    (goal.iterator-loop-pair).can_next l.pair-iterator
    × (goal.iterator-loop-pair).is_finite l.pair-iterator
    × (chunks_exact_size l.pair-iterator ≡ 2)
    × Passed (written l.initial.out l.at) l.table l.width l.height (written l.out l.next) l.u l.v (chunks_exact_rest l.pair-iterator)
