-- `params_line::is_line` meets its contract. Assumes nothing.
use mathlib.Core.Path.{sym, ◌∙◌}
use mathlib.Core.Bool.{true≢false}
use native.Mathlib.Omega.{arith}
use borrow.Author.Tests.{le-ltb}
use Rattle.params_line.proofs.Params.{no_fields, that_word, other_word}
use Rattle.params_line.proofs.is_line.Goals as goal
use Rattle.params_line.proofs.is_line.Goals.{then-n-gt0, else-n-gt0}

pub returns-then-eq : goal.returns-then-eq
returns-then-eq c =
    elim c.if-n-gt0.branch [
      | then-n-gt0 w ↦
          that_word _ _ _ c.many-n.ensures w.if-n-gt0.true (sym w.eq.ensures ∙ sym w.value-is ∙ c.if-eq.true) _ c.fielded.ensures
      | else-n-gt0 w ↦ absurd (true≢false (sym c.if-eq.true ∙ w.value-is ∙ le-ltb 0 _ w.if-n-gt0.false))
    ]

pub returns-else-eq : goal.returns-else-eq
returns-else-eq c =
    elim c.if-n-gt0.branch [
      | then-n-gt0 w ↦
          c.if-eq.false ∙ other_word _ _ _ c.many-n.ensures w.if-n-gt0.true (sym w.eq.ensures ∙ sym w.value-is ∙ c.if-eq.false)
      | else-n-gt0 w ↦ c.if-eq.false ∙ no_fields _ _ (omega (arith, c.many-n.ensures, w.if-n-gt0.false))
    ]
