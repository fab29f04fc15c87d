-- `opencv::is_plain` meets its contract. Assumes nothing.
use mathlib.Core.Path.{sym, ap, ◌∙◌}
use borrow.Author.Tests.{eq-eqb, ne_eqb}
use lib.ListN.{length}
use Rattle.params_line.specs.Params.{params_of}
use Rattle.params_line.proofs.Params.{params_length}
use Rattle.opencv.specs.Moved.{counted, plain}
use Rattle.opencv.proofs.Judging.{no, yes}
use Rattle.opencv.proofs.is_plain.Goals as goal
use Rattle.opencv.proofs.is_plain.Goals.{then-many-ne9-via-then-many-ne9, then-many-ne9-via-else-many-ne9+then-not-is_fixed, then-many-ne9-via-else-many-ne9+else-not-is_fixed+then-not-is_counted}

pub returns-then-many-ne9 : goal.returns-then-many-ne9
unfolding plain
returns-then-many-ne9 c =
    let m = params_length c.args.matrix.now in
    let n = params_length c.args.coeffs.now in
    elim c.then-many-ne9.branch [
      | then-many-ne9-via-then-many-ne9 w ↦
          no _ (sym (no _ (ne_eqb (length (params_of c.args.matrix.now)) 9 (λ e. w.if-many-ne9.true (c.many.ensures ∙ sym m ∙ e)))))
      | then-many-ne9-via-else-many-ne9+then-not-is_fixed w ↦
          no _ (sym (yes (eq-eqb _ 9 (m ∙ sym c.many.ensures ∙ w.if-many-ne9.false)) (sym (sym w.is_fixed.ensures ∙ w.if-not-is_fixed.true))))
      | then-many-ne9-via-else-many-ne9+else-not-is_fixed+then-not-is_counted w ↦
          yes (sym (yes (eq-eqb _ 9 (m ∙ sym c.many.ensures ∙ w.if-many-ne9.false)) (sym (sym w.is_fixed.ensures ∙ w.if-not-is_fixed.false))))
          (no _ (ap counted (n ∙ sym w.many-else-not-is_fixed.ensures) ∙ sym w.is_counted.ensures ∙ w.if-not-is_counted.true))
    ]

pub returns : goal.returns
unfolding plain
returns c =
    let m = params_length c.args.matrix.now in
    let n = params_length c.args.coeffs.now in
    yes (sym (yes (eq-eqb _ 9 (m ∙ sym c.many.ensures ∙ c.if-many-ne9.false)) (sym (sym c.is_fixed.ensures ∙ c.if-not-is_fixed.false))))
    (yes (ap counted (n ∙ sym c.many-else-not-is_fixed.ensures) ∙ sym c.is_counted.ensures ∙ c.if-not-is_counted.false) c.are_zeros.ensures)
