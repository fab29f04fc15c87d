-- `decimal::number_in` meets its contract, test by test. Assumes nothing.
use mathlib.Core.Path.{◌∙◌}
use Rattle.decimal.proofs.Numbers.{number_read, number_zero, number_long, number_empty}
use Rattle.decimal.proofs.number_in.Goals as goal
use Rattle.decimal.proofs.number_in.Goals.{else-field-gt0-via-then-field-gt0+then-field-le4+else-field-ne48, else-field-gt0-via-then-field-gt0+else-field-le4, else-field-gt0-via-else-field-gt0}

pub returns-then-field-ne48 : goal.returns-then-field-ne48
returns-then-field-ne48 c = c.read.ensures ∙ number_read _ c.if-field-gt0.true c.if-field-le4.true c.if-field-ne48.true

pub returns-else-field-gt0 : goal.returns-else-field-gt0
returns-else-field-gt0 c = elim c.else-field-gt0.branch [
  | else-field-gt0-via-then-field-gt0+then-field-le4+else-field-ne48 w ↦ number_zero _ w.if-field-gt0.true w.if-field-le4.true w.if-field-ne48.false
  | else-field-gt0-via-then-field-gt0+else-field-le4 w ↦ number_long _ w.if-field-gt0.true w.if-field-le4.false
  | else-field-gt0-via-else-field-gt0 w ↦ number_empty _ w.if-field-gt0.false
]
