-- `root::nearer` meets its contract: its two answers are the two cases. Assumes nothing.
use mathlib.Core.Path.{refl}
use mathlib.Core.Logic.{inl, inr}
use Rattle.root.proofs.nearer.Goals as goal

pub returns-then-q-p : goal.returns-then-q-p
returns-then-q-p c = inl (c.if-q-p.true, refl)

pub returns-else-q-p : goal.returns-else-q-p
returns-else-q-p c = inr (c.if-q-p.false, refl)
