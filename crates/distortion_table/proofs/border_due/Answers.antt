-- `distortion_table::border_due` meets its contract. Assumes nothing.
use mathlib.Core.Path.{◌≡◌, sym, ap, ◌∙◌}
use Rattle.std.specs.declared.result.Result.TheVariants.{Ok}
use Prim.Native.Nat.{ℕ, ◌-◌, min}
use native.Mathlib.Nat.{min-le_left}
use native.Mathlib.Omega.{arith}
use Rattle.lens.specs.Judgement.{Judgement}
use Rattle.border.specs.Border.{samples}
use Rattle.turns.specs.Turns.{Turn}
use Rattle.plans.specs.declared.Progress.{Progress}
use Rattle.sweep.specs.Sweep.{run, told_refusal, told_stop}
use Rattle.sweep.specs.declared.Stop.{Stop}
use Rattle.job.specs.declared.Job.{Job}
use Rattle.distortion_table.specs.Parts.{after_border, by_border}
use Rattle.distortion_table.proofs.border_due.Goals as goal

-- by where the sweep stopped, and what refused it
swept_so :
    (job : Job) (allowance : ℕ) (stop : Stop) → told_stop stop ≡ run job.camera job.width job.height job.strict allowance job.at
    → (j : Judgement) → stop.refusal ≡ j
    → after_border job.width job.height (allowance - min allowance (samples job.width job.height - job.at.done)) (told_refusal j) stop.at ≡ by_border job allowance
swept_so job allowance stop e j f =
    let left = allowance - min allowance (samples job.width job.height - job.at.done) in
    ap (λ (i : Judgement). after_border job.width job.height left (told_refusal i) stop.at) (sym f)
    ∙ ap (λ (t : Turn Progress). after_border job.width job.height left t.said t.state) e

pub overflow_cast-width : goal.overflow_cast-width
overflow_cast-width c = omega (arith, c.requires.not_wider)

pub overflow_cast-height : goal.overflow_cast-height
overflow_cast-height c = omega (arith, c.requires.not_higher)

pub overflow_sub-allowance : goal.overflow_sub-allowance
overflow_sub-allowance c = let a = c.args in omega (arith, c.due-count.ensures, min-le_left a.allowance (c.samples-border.result - a.job.at.done))

pub cells_due-requires : goal.cells_due-requires
cells_due-requires c = c.requires

pub returns-in-Err : goal.returns-in-Err
returns-in-Err c = let a = c.args in swept_so a.job a.allowance c.sweep-stop.result c.sweep-stop.ensures _ c.in-Err.is

pub returns-in-Ok : goal.returns-in-Ok
returns-in-Ok c =
    let a = c.args in
    let j = a.job in
    let counted : c.due-count.result ≡ min a.allowance (samples j.width j.height - j.at.done) = rw (← c.samples-border.ensures) c.due-count.ensures in
    c.cells_due.ensures
    ∙ ap (λ (n : ℕ). after_border j.width j.height (a.allowance - n) (told_refusal (Ok tt)) c.sweep-stop.result.at) counted
    ∙ swept_so j a.allowance c.sweep-stop.result c.sweep-stop.ensures (Ok tt) c.in-Ok.is
