-- `printer::build_asked` meets its contract. Assumes nothing.
use mathlib.Core.Bool.{false}
use mathlib.Core.Path.{sym, ap, ◌∙◌}
use Rattle.std.proofs.Common.{Result}
use Rattle.std.proofs.lemmas.Result.{err_from_is_err_and}
use Rattle.lens.specs.declared.Refusal.{Refusal}
use Rattle.plans.specs.Plan.{nowhere}
use Rattle.table_plans.proofs.Sound.{opened}
use Rattle.job.specs.declared.Job.{Job}
use Rattle.distortion_table.proofs.Calls.{fresh_opens}
use Rattle.printer.specs.Made.{build_sized, started, build_asked}
use Rattle.printer.proofs.build_asked.Goals as goal

pub build_sized-requires : goal.build_sized-requires
build_sized-requires c =
    let a = c.args in
    let opens = (fresh_opens a.camera a.width a.height false _ (sym c.in_ok-fresh.ensures)).0 in
    ((opened a.camera a.width a.height nowhere opens).size, c.requires)

pub returns-in_err-fresh : goal.returns-in_err-fresh
unfolding build_asked
returns-in_err-fresh c =
    let a = c.args in
    let p = err_from_is_err_and c.from_residual.result c.from_residual.ensures.1 in
    rw (p.1, p.2)
    (ap (λ (s : Result Job Refusal). started a.room.now s (build_sized a.room.now a.camera a.width a.height)) c.in_err-fresh.ensures)

pub returns : goal.returns
unfolding build_asked
returns c =
    let a = c.args in
    c.build_sized.ensures
    ∙ ap (λ (s : Result Job Refusal). started a.room.now s (build_sized a.room.now a.camera a.width a.height)) c.in_ok-fresh.ensures
