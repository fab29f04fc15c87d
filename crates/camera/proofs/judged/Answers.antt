-- `camera::judged` meets its contract. Assumes nothing.
use mathlib.Core.Path.{sym, ◌∙◌}
use Rattle.camera.proofs.Given.{says, judged_zero, judged_taken, judged_refused}
use Rattle.camera.proofs.judged.Goals as goal

pub returns-then-zero_focal : goal.returns-then-zero_focal
returns-then-zero_focal c =
    let a = c.args in
    sym (judged_zero a.camera a.x a.y (says a.camera a.x a.y c.mark_of-sum.ensures c.if-sum.true) (sym c.zero_focal.ensures ∙ c.if-zero_focal.true))

pub returns-else-zero_focal : goal.returns-else-zero_focal
returns-else-zero_focal c =
    let a = c.args in
    sym (judged_taken a.camera a.x a.y (says a.camera a.x a.y c.mark_of-sum.ensures c.if-sum.true) (sym c.zero_focal.ensures ∙ c.if-zero_focal.false))

pub returns-else-sum : goal.returns-else-sum
returns-else-sum c = let a = c.args in sym (judged_refused a.camera a.x a.y (says a.camera a.x a.y c.mark_of-sum.ensures c.if-sum.false))
