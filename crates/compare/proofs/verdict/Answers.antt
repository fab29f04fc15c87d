-- `compare::verdict` meets its contract. Assumes nothing.
use mathlib.Core.Path.{sym, ◌∙◌}
use Rattle.compare.specs.Judged.{verdict}
use Rattle.compare.proofs.verdict.Goals as goal

pub returns-then-same_size : goal.returns-then-same_size
unfolding verdict
returns-then-same_size c = simp (sym c.whole.ensures ∙ c.if-whole.true, sym c.whole-then-whole.ensures ∙ c.if-whole-2.true, sym c.same_size.ensures ∙ c.if-same_size.true)

pub returns-then-whole-2 : goal.returns-then-whole-2
unfolding verdict
returns-then-whole-2 c = simp (sym c.whole.ensures ∙ c.if-whole.true, sym c.whole-then-whole.ensures ∙ c.if-whole-2.true, sym c.same_size.ensures ∙ c.if-same_size.false)

pub returns-then-whole : goal.returns-then-whole
unfolding verdict
returns-then-whole c = simp (sym c.whole.ensures ∙ c.if-whole.true, sym c.whole-then-whole.ensures ∙ c.if-whole-2.false)

pub returns : goal.returns
unfolding verdict
returns c = simp (sym c.whole.ensures ∙ c.if-whole.false)
