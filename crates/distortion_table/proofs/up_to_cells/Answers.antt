-- `distortion_table::up_to_cells` meets its contract. Assumes nothing.
use mathlib.Core.Path.{◌≡◌, sym, ap, ◌∙◌}
use Prim.Native.Nat.{ℕ}
use Rattle.lens.specs.Judgement.{decided}
use Rattle.lens.specs.Refusal.{number}
use Rattle.lens.specs.Judgement.{Judgement}
use Rattle.turns.specs.Turns.{refused}
use Rattle.job.specs.Job.{admitted}
use Rattle.job.specs.declared.Job.{Job}
use Rattle.distortion_table.specs.Parts.{over, by_border, to_do}
use Rattle.distortion_table.proofs.Taking.{taking}
use Rattle.distortion_table.proofs.up_to_cells.Goals as goal

-- by what the judging says
judged_so :
    (job : Job) (places allowance : ℕ) {r j : Judgement} → r ≡ admitted job places → r ≡ j
    → decided j (λ r. over (refused (number r)) job.at) (by_border job allowance) ≡ to_do job places allowance
judged_so job places allowance h e =
    ap (λ (j : Judgement). decided j (λ r. over (refused (number r)) job.at) (by_border job allowance)) (sym e ∙ h)

pub border_due-requires : goal.border_due-requires
border_due-requires c = let a = c.args in (taking a.job a.places (sym c.admitted.ensures ∙ c.in-Ok.is)).size

pub returns-in-Err : goal.returns-in-Err
returns-in-Err c = let a = c.args in judged_so a.job a.places a.allowance c.admitted.ensures c.in-Err.is

pub returns-in-Ok : goal.returns-in-Ok
returns-in-Ok c = let a = c.args in c.border_due.ensures ∙ judged_so a.job a.places a.allowance c.admitted.ensures c.in-Ok.is
