-- `opencv::judge_numbers` meets its contract. Assumes nothing.
use mathlib.Core.Path.{refl, sym, ap, ◌∙◌}
use mathlib.Core.Bool.{not}
use Rattle.opencv.specs.Moved.{our_params, number_rows}
use Rattle.opencv.proofs.Judging.{hit, miss, holds, past}
use Rattle.opencv.proofs.judge_numbers.Goals as goal
use Rattle.opencv.proofs.judge_numbers.Goals.{then-is_zero-via-then-is_zero, then-is_zero-via-else-is_zero+then-is_zero-2}

pub returns-then-not-all_finite : goal.returns-then-not-all_finite
unfolding our_params number_rows
returns-then-not-all_finite c = holds 4 _ (ap not (sym c.all_finite.ensures ∙ c.if-not-all_finite.true))

pub returns-then-is_zero : goal.returns-then-is_zero
unfolding our_params number_rows
returns-then-is_zero c =
    past 4 (ap not (sym c.all_finite.ensures ∙ c.if-not-all_finite.false))
    (elim c.then-is_zero.branch [
      | then-is_zero-via-then-is_zero w ↦ holds 5 _ (sym (hit _ (sym c.is_zero.ensures ∙ w.if-is_zero.true)))
      | then-is_zero-via-else-is_zero+then-is_zero-2 w ↦
          holds 5 _ (sym (miss (sym c.is_zero.ensures ∙ w.if-is_zero.false) (sym (sym w.is_zero-else-is_zero.ensures ∙ w.if-is_zero-2.true))))
    ])

pub returns : goal.returns
unfolding our_params number_rows
returns c =
    past 4 (ap not (sym c.all_finite.ensures ∙ c.if-not-all_finite.false))
    (past 5 (sym (miss (sym c.is_zero.ensures ∙ c.if-is_zero.false) (sym (sym c.is_zero-else-is_zero.ensures ∙ c.if-is_zero-2.false)))) refl)
