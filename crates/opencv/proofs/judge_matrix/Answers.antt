-- `opencv::judge_matrix` meets its contract. Assumes nothing.
use mathlib.Core.Path.{sym, ap, ◌∙◌}
use mathlib.Core.Bool.{not}
use Rattle.lens.specs.Rows.{first}
use Rattle.opencv.specs.Moved.{number_rows}
use Rattle.opencv.specs.declared.Twelve.{Twelve}
use Rattle.opencv.proofs.Judging.{past, seventeen_first}
use Rattle.opencv.proofs.judge_matrix.Goals as goal

pub returns-then-is_plain : goal.returns-then-is_plain
returns-then-is_plain c = past 17 (ap not (sym c.is_plain.ensures ∙ c.if-is_plain.true)) (c.judge_numbers.ensures ∙ ap (λ (n : Twelve). first (number_rows n)) c.from_matrix.ensures)

pub returns-else-is_plain : goal.returns-else-is_plain
returns-else-is_plain c = sym (seventeen_first _ _ (sym c.is_plain.ensures ∙ c.if-is_plain.false))
