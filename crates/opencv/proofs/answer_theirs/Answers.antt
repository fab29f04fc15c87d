-- `opencv::answer_theirs` meets its contract. Assumes nothing.
use Rattle.put_text.proofs.Putting.{put_same}
use Rattle.opencv.proofs.Answers.{lines_theirs, lines_neither}
use Rattle.opencv.proofs.answer_theirs.Goals as goal

pub returns-then-are_theirs : goal.returns-then-are_theirs
returns-then-are_theirs c = put_same _ _ _ _ c.move_theirs.ensures (lines_theirs _ _ _ c.are_theirs.ensures c.if-are_theirs.true)

pub returns-else-are_theirs : goal.returns-else-are_theirs
returns-else-are_theirs c = put_same _ _ _ _ c.refused_line.ensures (lines_neither _ _ _ c.are_theirs.ensures c.if-are_theirs.false)
