-- `hexadecimal::field` meets its contract. Assumes nothing.
use mathlib.Core.Path.{◌∙◌}
use Rattle.hexadecimal.proofs.OneField.{field_there, field_open, field_past}
use Rattle.hexadecimal.proofs.field.Goals as goal

pub returns-then-ends : goal.returns-then-ends
returns-then-ends c =
    let a = c.args in
    c.spelled.ensures ∙ field_there a.line.now a.k _ c.ends.ensures c.if-ends.true

pub returns-else-ends : goal.returns-else-ends
returns-else-ends c =
    let a = c.args in
    field_open a.line.now a.k _ c.ends.ensures c.if-ends.false

pub returns-else-k-line : goal.returns-else-k-line
returns-else-k-line c =
    let a = c.args in
    field_past a.line.now a.k c.if-k-line.false
