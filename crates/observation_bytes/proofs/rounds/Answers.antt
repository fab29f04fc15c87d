-- `observation_bytes::rounds` meets its contract. Assumes nothing.
use borrow.Author.Tests.{eq-eqb, ne_eqb}
use Rattle.observation_bytes.proofs.rounds.Goals as goal

pub returns-then-code-eq0 : goal.returns-then-code-eq0
returns-then-code-eq0 c = simp (eq-eqb _ _ c.if-code-eq0.true)

pub returns-else-code-eq0 : goal.returns-else-code-eq0
returns-else-code-eq0 c = simp (ne_eqb _ _ c.if-code-eq0.false)
