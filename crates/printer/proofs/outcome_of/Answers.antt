-- `printer::outcome_of` meets its contract. Assumes nothing.
use mathlib.Core.Path.{◌≡◌, refl, sym, ap}
use Rattle.lens.specs.declared.Refusal.{Refusal}
use Rattle.job.specs.declared.Job.{Job}
use Rattle.distortion_table.specs.Answer.{told_status}
use Rattle.distortion_table.specs.declared.Status.{Status}
use Rattle.distortion_table.specs.declared.Status.TheVariants.{Finished, Refused, Running}
use Rattle.printer.specs.Made.{a_table, outcome_of}
use Rattle.printer.proofs.outcome_of.Goals as goal

not_refused :
    (status : Status) (job : Job) →
    ((r : Refusal) → status ≡ Refused r → ⊥) →
    a_table job.width job.height job.at.updates job.at.region ≡ outcome_of (told_status status) job
not_refused Finished job h = refl
not_refused Running job h = refl
not_refused (Refused r) job h = absurd (h r refl)

pub returns-in-Refused : goal.returns-in-Refused
returns-in-Refused c =
    let a = c.args in
    ap (λ (s : Status). outcome_of (told_status s) a.turned.job) (sym c.in-Refused.is)

pub returns : goal.returns
returns c = let a = c.args in not_refused a.turned.status a.turned.job c.in_default.not-Refused
