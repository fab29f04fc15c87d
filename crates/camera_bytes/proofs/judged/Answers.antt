-- `camera_bytes::judged` meets its contract. Assumes nothing.
use mathlib.Core.Path.{sym, ap, ◌∙◌}
use Prim.Native.Nat.{ℕ, ◌*◌}
use borrow.Author.Tests.{le-leb, lt-leb, eq-eqb, ne_eqb}
use Rattle.camera_bytes.specs.Reading.{judged}
use Rattle.camera_bytes.proofs.judged.Goals as goal

pub returns-then-params-count : goal.returns-then-params-count
unfolding judged
returns-then-params-count c = simp (le-leb _ _ c.if-model-le-LAST.true, eq-eqb _ _ (c.if-params-count.true ∙ ap (λ (k : ℕ). 8 * k) c.count.ensures))

pub returns-then-model-le-LAST : goal.returns-then-model-le-LAST
unfolding judged
returns-then-model-le-LAST c = simp (le-leb _ _ c.if-model-le-LAST.true, ne_eqb _ _ (λ e. c.if-params-count.false (e ∙ sym (ap (λ (k : ℕ). 8 * k) c.count.ensures))))

pub returns : goal.returns
unfolding judged
returns c = simp (lt-leb _ _ c.if-model-le-LAST.false)
