-- `hexadecimal::fields` meets its contract. The loop's invariant says what the places hold once the fields that are left are read too.
-- Assumes nothing.
use Rattle.hexadecimal.proofs.Filling.{Filled}
use Rattle.hexadecimal.proofs.fields.Given as goal

abbrev pub invariant-loop-i : goal.invariant-loop-i
invariant-loop-i l = Filled l.line l.initial.numbers l.numbers l.all l.i
