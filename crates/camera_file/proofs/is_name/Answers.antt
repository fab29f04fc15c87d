-- `camera_file::is_name` meets its contract. Assumes nothing.
use mathlib.Core.Path.{sym, ◌∙◌}
use borrow.Author.Tests.{eqb-true, eqb-false}
use native.Mathlib.Omega.{arith}
use Rattle.camera_file.proofs.Stages.{name_letters, name_long, name_empty}
use Rattle.camera_file.proofs.is_name.Goals as goal
use Rattle.camera_file.proofs.is_name.Goals.{then-is_empty-via-then-is_empty, then-is_empty-via-else-is_empty+then-field-gt-NAME}

pub returns-then-is_empty : goal.returns-then-is_empty
returns-then-is_empty c =
    elim c.then-is_empty.branch [
      | then-is_empty-via-then-is_empty w ↦ name_empty _ (omega (arith, eqb-true _ 0 (sym c.is_empty.ensures ∙ w.if-is_empty.true)))
      | then-is_empty-via-else-is_empty+then-field-gt-NAME w ↦ name_long _ w.if-field-gt-NAME.true
    ]

pub returns : goal.returns
returns c = name_letters _ _ (omega (arith, eqb-false _ 0 (sym c.is_empty.ensures ∙ c.if-is_empty.false))) c.if-field-gt-NAME.false c.all_letters.ensures
