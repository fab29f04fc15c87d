-- `little_endian::write` meets its contract. Assumes nothing.
use lib.ListN.{length}
use Rattle.little_endian.proofs.Writing.{Bytewise}
use Rattle.little_endian.proofs.write.Given as goal

abbrev pub invariant-loop-place : goal.invariant-loop-place
invariant-loop-place l = Bytewise (length l.initial.place-items) l.number l.place-items l.place-index l.rest
