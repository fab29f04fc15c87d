-- `opencv::line_end` meets its contract. Assumes nothing.
use Rattle.opencv.proofs.Answers.{ends_after, ends_nowhere}
use Rattle.opencv.proofs.line_end.Goals as goal

pub returns-then-end-text : goal.returns-then-end-text
returns-then-end-text c = ends_after _ _ c.place-end.ensures c.if-end-text.true

pub returns-else-end-text : goal.returns-else-end-text
returns-else-end-text c = ends_nowhere _ _ c.place-end.ensures c.if-end-text.false
