-- `arctan::close` meets its contract: the definition goes the same way at each test. Assumes nothing.
use Rattle.std.proofs.Common.{sym, refl, ◌∙◌}
use Rattle.arctan.proofs.Choice.{close_so}
use Rattle.arctan.proofs.close.Goals as goal
use Rattle.arctan.proofs.close.Goals.{then-theta-a, else-theta-a, else-is_finite-via-then-is_finite+else-t, else-is_finite-via-else-is_finite}

-- of a number that is not negative
pub returns-then-t : goal.returns-then-t
returns-then-t c =
    let a = c.args in
    let n = sym c.if-is_finite.true ∙ c.is_finite.ensures in
    let r = c.arctangent-a.ensures.is in
    elim c.if-theta-a.branch [
      | then-theta-a w ↦ w.result-is ∙ close_so a.t a.theta n (sym c.if-t.true) r (sym w.if-theta-a.true)
      | else-theta-a w ↦ w.result-is ∙ w.if-theta-a.false ∙ close_so a.t a.theta n (sym c.if-t.true) r (sym w.if-theta-a.false)
    ]

-- of any other
pub returns : goal.returns
returns c =
    let a = c.args in
    elim c.else-is_finite.branch [
      | else-is_finite-via-then-is_finite+else-t w ↦ close_so a.t a.theta (sym w.if-is_finite.true ∙ c.is_finite.ensures) (sym w.if-t.false) refl refl
      | else-is_finite-via-else-is_finite w ↦ close_so a.t a.theta (sym w.if-is_finite.false ∙ c.is_finite.ensures) refl refl refl
    ]
