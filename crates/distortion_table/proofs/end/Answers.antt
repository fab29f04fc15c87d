-- `distortion_table::end` meets its contract. Assumes nothing.
use mathlib.Core.Path.{sym, ap, ◌∙◌}
use Prim.Native.Nat.{◌+◌}
use native.Mathlib.Omega.{arith}
use Rattle.lens.specs.Judgement.{Judgement}
use Rattle.plans.specs.Loops.{reached, after_run}
use Rattle.sweep.specs.Sweep.{told_refusal}
use Rattle.distortion_table.proofs.end.Goals as goal

pub overflow_add-done : goal.overflow_add-done
overflow_add-done c = omega (arith, c.requires)

pub returns-in-Err : goal.returns-in-Err
returns-in-Err c =
    let a = c.args in
    (c.with_done-after.ensures, sym (ap (λ (j : Judgement). after_run (told_refusal j) (reached (a.run.at.done + a.filled.done) a.run.all)) c.in-Err.is))

pub returns-in-Ok : goal.returns-in-Ok
returns-in-Ok c =
    let a = c.args in
    (c.with_done-after.ensures, c.reached-status.ensures ∙ sym (ap (λ (j : Judgement). after_run (told_refusal j) (reached (a.run.at.done + a.filled.done) a.run.all)) c.in-Ok.is))
