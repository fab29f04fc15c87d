-- `job::admitted` meets its contract. Assumes nothing.
use Rattle.std.proofs.Common.{◌≡◌, sym, ap, ◌∙◌, ℕ, rules}
use Rattle.std.specs.declared.result.Result.TheVariants.{Err}
use Rattle.lens.specs.Judgement.{Judgement, decided}
use Rattle.plans.specs.Calls as plan
use Rattle.table_plans.specs.Tables.{opens_for}
use Rattle.table_plans.proofs.Sound.{opened}
use Rattle.job.specs.Job.{sweep_for, admitted}
use Rattle.job.specs.declared.Job.{Job}
use Rattle.job.proofs.admitted.Goals as goal

-- by what the camera's and the size's judging says
judged_so :
    (job : Job) (places : ℕ) {r j : Judgement} → r ≡ opens_for job.camera job.width job.height job.at.region → r ≡ j
    → decided j Err (plan.sound (sweep_for job) job.at places) ≡ admitted job places
unfolding plan.admitted
judged_so job places h e = ap (λ (j : Judgement). decided j Err (plan.sound (sweep_for job) job.at places)) (sym e ∙ h)

pub sound-requires : goal.sound-requires
sound-requires c = let j = c.args.job in (opened j.camera j.width j.height j.at.region (sym c.opens.ensures ∙ c.in_ok-opens.was)).size

pub returns-in_err-opens : goal.returns-in_err-opens
returns-in_err-opens c =
    let a = c.args in
    let e = judged_so a.job a.places c.opens.ensures c.in_err-opens.was in
    search rules

pub returns : goal.returns
returns c = let a = c.args in c.sound.ensures ∙ judged_so a.job a.places c.opens.ensures c.in_ok-opens.was
