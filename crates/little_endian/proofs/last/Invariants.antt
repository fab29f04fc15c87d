-- `little_endian::last` meets its contract. Assumes nothing.
use lib.ListN.{length, drop}
use Rattle.little_endian.proofs.Reading.{Backwards}
use Rattle.little_endian.proofs.last.Given as goal

abbrev pub invariant-loop-byte : goal.invariant-loop-byte
invariant-loop-byte l =
    Backwards (drop l.at l.bytes) (length l.yielded) l.number × (goal.iterator-loop-byte).can_next l.byte-iterator × (goal.iterator-loop-byte).is_finite l.byte-iterator
