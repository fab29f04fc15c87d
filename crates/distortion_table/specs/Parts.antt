-- What the parts of a turn's code ask and give; no caller meets these. Definitions only.
use Rattle.std.specs.Prelude.{cond, List, ℕ, ◌+◌, ◌-◌, ◌*◌, ◌^◌, ◌≤◌, ◌<◌, min, ltb, Result, Ok, Err}
use Rattle.lens.specs.Judgement.{decided}
use Rattle.lens.specs.Refusal.{number}
use Rattle.border.specs.Border.{samples, all_units}
use Rattle.turns.specs.Turns.{Said, finished, refused, running, Turn}
use Rattle.plans.specs.Loops.{Filling}
use Rattle.plans.specs.declared.Progress.{Progress}
use Rattle.sweep.specs.Sweep.{run, told_refusal}
use Rattle.job.specs.Job.{admitted}
use Rattle.job.specs.declared.Job.{Job}
use Rattle.distortion_table.specs.Answer.{told_status}
use Rattle.distortion_table.specs.declared.Ended.{Ended}
use Rattle.distortion_table.specs.declared.Filled.{Filled}
use Rattle.distortion_table.specs.declared.Run.{Run}
use Rattle.distortion_table.specs.declared.Turned.{Turned}

-- ---- what the answers of the parts say, with the table as it is then

abbrev pub told_filled : {X : Type 0} → Filled → List X → Turn (Filling X)
told_filled f cells = record { state = record { done = f.done; cells = cells }; said = told_refusal f.refusal }

abbrev pub handed : Job → Ended → Turned
handed job e = record {
  status = e.status;
  job = record {
    camera = job.camera;
    width = job.width;
    height = job.height;
    strict = job.strict;
    at = e.at;
  };
}

-- ---- a turn up to its cells: over, or a build that has come so far, of so many units in all, with the number of the
-- first of the turn's cells and how many these are

pub data ToDo : Type 0 where
  over : Said → Progress → ToDo
  cells : Progress → ℕ → ℕ → ℕ → ToDo

abbrev pub told_due : Result Run Ended → ToDo
told_due (Err e) = over (told_status e.status) e.at
told_due (Ok r) = cells r.at r.all r.first r.count

-- its border units are done, and so many of its allowance are left
abbrev pub behind_border : ℕ → ℕ → ℕ → Progress → ToDo
behind_border width height left at =
    let border = samples width height in
    let all = all_units width height in
    cond (ltb at.done border) (over running at) (cells at all (at.done - border) (min left (all - at.done)))

abbrev pub after_border : ℕ → ℕ → ℕ → Said → Progress → ToDo
after_border width height left (refused n) at = over (refused n) at
after_border width height left running at = behind_border width height left at
after_border width height left finished at = behind_border width height left at

-- the border units that the allowance goes to
abbrev pub by_border : Job → ℕ → ToDo
by_border job allowance =
    let left = allowance - min allowance (samples job.width job.height - job.at.done) in
    let swept = run job.camera job.width job.height job.strict allowance job.at in
    after_border job.width job.height left swept.said swept.state

-- the record is judged before them
abbrev pub to_do : Job → ℕ → ℕ → ToDo
to_do job places allowance =
    decided (admitted job places) (λ r. over (refused (number r)) job.at) (by_border job allowance)

-- so many cells from the first on have their places in a table of that length
abbrev pub InPlace : ℕ → ℕ → ℕ → ℕ → Type 0
InPlace width first count places = (0 < width) × (first + count < 2 ^ 31) × (2 * first + 2 * count ≤ places)
