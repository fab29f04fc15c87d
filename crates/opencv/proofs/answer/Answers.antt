-- `opencv::answer` meets its contract. Assumes nothing.
use mathlib.Core.Path.{sym, ◌∙◌}
use lib.Seq.{length-take-le}
use Rattle.put_text.proofs.Putting.{put_same}
use Rattle.opencv.proofs.Answers.{answered_ours, answered_lines, answered_long}
use Rattle.opencv.proofs.answer.Goals as goal

pub returns-then-text-gt-LONGEST : goal.returns-then-text-gt-LONGEST
returns-then-text-gt-LONGEST c = put_same _ _ _ _ c.refused_line.ensures (answered_long _ c.if-text-gt-LONGEST.true)

pub returns-then-is_line : goal.returns-then-is_line
returns-then-is_line c = put_same _ _ _ _ c.move_ours.ensures (answered_ours _ c.if-text-gt-LONGEST.false (sym c.is_line.ensures ∙ c.if-is_line.true))

pub slice_bounds-answer_theirs-end : goal.slice_bounds-answer_theirs-end
slice_bounds-answer_theirs-end c = sym (length-take-le _ _ c.line_end-end.ensures.within)

pub returns : goal.returns
returns c = put_same _ _ _ _ c.answer_theirs.ensures (answered_lines _ c.if-text-gt-LONGEST.false (sym c.is_line.ensures ∙ c.if-is_line.false) _ c.line_end-end.ensures)
