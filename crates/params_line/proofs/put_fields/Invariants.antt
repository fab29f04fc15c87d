-- `params_line::put_fields` meets its contract. The loop's invariant: what is left, put from here on, makes the whole. Assumes nothing.
use Rattle.params_line.proofs.Putting.{Going}
use Rattle.params_line.proofs.put_fields.Given as goal

abbrev pub invariant-loop-bits : goal.invariant-loop-bits
invariant-loop-bits l = Going l.initial.out l.at l.numbers l.out l.next l.bits-index
