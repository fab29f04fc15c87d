-- `root::digit` meets its contract: its two answers are the two cases. Assumes nothing.
use mathlib.Core.Path.{refl}
use mathlib.Core.Logic.{inl, inr}
use Rattle.root.proofs.digit.Goals as goal

pub returns-then-cost-p : goal.returns-then-cost-p
returns-then-cost-p c = inl (c.if-cost-p.true, refl, refl)

pub returns-else-cost-p : goal.returns-else-cost-p
returns-else-cost-p c = inr (c.if-cost-p.false, refl, refl)
