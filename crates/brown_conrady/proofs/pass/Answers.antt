-- `brown_conrady::pass` meets its contract: the definition goes the same way at the test. Assumes nothing.
use mathlib.Core.Path.{refl, sym, ◌∙◌}
use Rattle.brown_conrady.specs.BrownConrady.{pass_by}
use Rattle.brown_conrady.proofs.pass.Goals as goal

pub returns-then-small : goal.returns-then-small
unfolding pass_by
returns-then-small c = let s = c in rw (← s.step_from-step.ensures, sym s.small.ensures ∙ c.if-small.true) refl

pub returns : goal.returns
unfolding pass_by
returns c =
    let e = c in
    let s = e in
    rw (← s.step_from-step.ensures, sym s.small.ensures ∙ e.if-small.false) refl
