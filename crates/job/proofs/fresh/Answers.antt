-- `job::fresh` meets its contract. Assumes nothing.
use Rattle.std.proofs.Common.{◌≡◌, sym, ap, ◌∙◌, Bool, ℕ, rules}
use Rattle.std.specs.declared.result.Result.TheVariants.{Ok, Err}
use Rattle.lens.specs.Judgement.{Judgement, decided}
use Rattle.region.specs.declared.Region.{Region}
use Rattle.camera.specs.declared.Camera.{Camera}
use Rattle.plans.specs.Plan.{nowhere}
use Rattle.table_plans.specs.Tables.{opens_for}
use Rattle.job.specs.Job.{fresh_job, fresh}
use Rattle.job.proofs.fresh.Goals as goal

-- by what the judging says
judged_so :
    (camera : Camera) (width height : ℕ) (strict : Bool) {region : Region} {r j : Judgement} → region ≡ nowhere → r ≡ opens_for camera width height region → r ≡ j
    → decided j Err (Ok (fresh_job camera width height strict)) ≡ fresh camera width height strict
unfolding fresh
judged_so camera width height strict n h e =
    ap (λ (j : Judgement). decided j Err (Ok (fresh_job camera width height strict))) (sym e ∙ h ∙ ap (opens_for camera width height) n)

pub returns-in_err-opens : goal.returns-in_err-opens
returns-in_err-opens c =
    let a = c.args in
    let e = judged_so a.camera a.width a.height a.strict c.nowhere.ensures c.opens.ensures c.in_err-opens.was in
    search rules

pub returns : goal.returns
returns c =
    let a = c.args in
    ap Ok c.begun.ensures ∙ judged_so a.camera a.width a.height a.strict c.nowhere.ensures c.opens.ensures c.in_ok-opens.was
