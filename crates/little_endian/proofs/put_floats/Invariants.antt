-- `little_endian::put_floats` meets its contract. Assumes nothing.
use Rattle.little_endian.proofs.Writing.{Floatwise}
use Rattle.little_endian.proofs.put_floats.Given as goal

abbrev pub invariant-loop-i : goal.invariant-loop-i
invariant-loop-i l = Floatwise l.initial.out l.at l.numbers l.out l.i
