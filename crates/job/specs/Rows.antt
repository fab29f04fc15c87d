-- The rows of the refusal table (docs/RULES.md, 5.1) that a turn tries before any unit, in their order: each number,
-- and when it is given. Definitions only.
use Rattle.std.specs.Prelude.{Bool, not, ◌&&◌, ◌||◌, List, [], ◌∷◌, ℕ, ◌*◌, min, leb, ltb, eqb}
use Rattle.std.specs.Float.Ieee.Scale.{finite}
use Rattle.lens.specs.Finite.{all_finite}
use Rattle.lens.specs.Rows.{Row, ◌when◌}
use Rattle.region.specs.Region.{four, increments, flat}
use Rattle.region.specs.Size.{sized}
use Rattle.region.specs.declared.Increments.{Increments}
use Rattle.camera.specs.Camera.{parameters, zero_focal, limit}
use Rattle.camera.specs.declared.Camera.{Camera}
use Rattle.border.specs.Border.{samples, all_units}
use Rattle.plans.specs.declared.Progress.{Progress}
use Rattle.job.specs.declared.Job.{Job}

-- increments that are not finite or not above 0
abbrev pub unfit : Increments → Bool
unfit by = (flat by.0 || flat by.1) || not (finite by.0 && finite by.1)

-- of so many samples done: a count of unsettled ones above them, a first position that is not among them, a count
-- without a first or a first without a count, or in a strict job a count that isn't 0
abbrev pub no_tally : Bool → ℕ → ℕ → ℕ → Bool
no_tally strict samples unsettled first =
    ltb samples unsettled
    || (ltb samples first
    || ((eqb unsettled 0 && not (eqb first 0) || not (eqb unsettled 0) && eqb first 0)
    || (strict && not (eqb unsettled 0))))

-- 13: done > T, updates beyond the model's limit times the samples done, an edge so far that isn't finite, done ≥ B
-- with a region that has no increments, or tallies that no build has
abbrev pub no_build : Camera → ℕ → ℕ → Bool → Progress → Bool
no_build camera width height strict at =
    let samples_done = min at.done (samples width height) in
    ltb (all_units width height) at.done
    || (ltb (limit camera * samples_done) at.updates
    || (not (all_finite (four at.edges))
    || (leb (samples width height) at.done && unfit (increments at.region width height)
    || no_tally strict samples_done at.unsettled at.first)))

-- `places` is the length of the table
abbrev pub turn_rows : Job → ℕ → List Row
turn_rows job places =
    (4 when not (all_finite (parameters job.camera) && all_finite (four job.at.region)))
    ∷ (5 when zero_focal job.camera)
    ∷ (6 when not (sized job.width job.height))
    ∷ (7 when not (eqb places (2 * (job.width * job.height))))
    ∷ (13 when no_build job.camera job.width job.height job.strict job.at)
    ∷ []

-- those of a fresh record
abbrev pub fresh_rows : Camera → ℕ → ℕ → List Row
fresh_rows camera width height =
    (4 when not (all_finite (parameters camera)))
    ∷ (5 when zero_focal camera)
    ∷ (6 when not (sized width height))
    ∷ []
