-- What a record is refused by: the first row that holds. Assumes nothing.
use mathlib.Core.Path.{◌≡◌, refl, ap, ◌∙◌}
use Rattle.std.specs.declared.result.Result.TheVariants.{Ok, Err}
use mathlib.Core.Bool.{Bool, true, false, not, cond, ◌&&◌, ◌||◌}
use mathlib.Core.List.{[], ◌∷◌}
use Prim.Native.Nat.{ℕ, ◌*◌, min}
use borrow.Author.Tests.{ltb-false, le-leb, lt-leb, ltb-true}
use lib.Dec.{leb, ltb, eqb}
use lib.Ieee.{of_bits}
use lib.Ieee.Scale.{finite}
use Rattle.lens.specs.Finite.{all_finite}
use Rattle.lens.specs.Judgement.{verdict, decided, accepted}
use Rattle.lens.specs.Rows.{◌when◌, first}
use Rattle.lens.specs.Judgement.{Judgement}
use Rattle.lens.specs.declared.Refusal.TheVariants.{NotFinite, ZeroFocalLength, WrongSize, WrongLength, IncrementNotPositive, AnswerNotFinite, ImpossibleRecord}
use Rattle.region.specs.Region.{four, increments, flat, wrong}
use Rattle.region.specs.Size.{sized}
use Rattle.region.specs.declared.Increments.{Increments}
use Rattle.camera.specs.Camera.{parameters, zero_focal, limit}
use Rattle.camera.specs.declared.Camera.{Camera}
use Rattle.border.specs.Border.{samples, all_units}
use Rattle.plans.specs.Plan.{nowhere}
use Rattle.plans.specs.Calls as plan
use Rattle.plans.specs.declared.Progress.{Progress}
use Rattle.table_plans.specs.Tables.{opens_for, sweep_of}
use Rattle.job.specs.Job.{fresh_job, fresh, told_started, begun_number, admitted}
use Rattle.job.specs.Rows.{fresh_rows, unfit, no_tally, no_build, turn_rows}
use Rattle.job.specs.declared.Job.{Job}

-- the three tests of a camera and its size
abbrev by_tests : Bool → Bool → Bool → Judgement
by_tests g z s = cond g (cond z (Err ZeroFocalLength) (cond s accepted (Err WrongSize))) (Err NotFinite)

-- ---- the rows of a fresh record

and_true : (b : Bool) → (b && true) ≡ b
and_true true = refl
and_true false = refl

nowhere_finite : all_finite (four nowhere) ≡ true
unfolding of_bits all_finite
nowhere_finite = refl

pub fresh_number : (camera : Camera) (width height : ℕ) (strict : Bool) → begun_number (told_started (fresh camera width height strict)) ≡ first (fresh_rows camera width height)
unfolding fresh opens_for
fresh_number camera width height strict =
    ap (λ (b : Bool). begun_number (told_started (decided (by_tests (all_finite (parameters camera) && b) (zero_focal camera) (sized width height)) Err (Ok job)))) nowhere_finite
    ∙ ap (λ (b : Bool). begun_number (told_started (decided (by_tests b (zero_focal camera) (sized width height)) Err (Ok job)))) (and_true (all_finite (parameters camera)))
    ∙ go (all_finite (parameters camera)) (zero_focal camera) (sized width height)
  where
    job : Job
    job = fresh_job camera width height strict

    go : (g z s : Bool) → begun_number (told_started (decided (by_tests g z s) Err (Ok job))) ≡ first ((4 when not g) ∷ (5 when z) ∷ (6 when not s) ∷ [])
    go false z s = refl
    go true true s = refl
    go true false true = refl
    go true false false = refl

-- ---- the rows of a record

leb_not : (a b : ℕ) → leb a b ≡ not (ltb b a)
leb_not a b = go (ltb b a) refl
  where
    go : (x : Bool) → ltb b a ≡ x → leb a b ≡ not x
    go true e = lt-leb a b (ltb-true b a e)
    go false e = le-leb a b (ltb-false b a e)

fine_not : (by : Increments) → eqb (verdict (wrong by)) 0 ≡ not (unfit by)
unfolding wrong
fine_not by = go (flat by.0 || flat by.1) (finite by.0 && finite by.1)
  where
    go : (f p : Bool) → eqb (verdict (cond f (Err IncrementNotPositive) (cond p accepted (Err AnswerNotFinite)))) 0 ≡ not (f || not p)
    go true p = refl
    go false true = refl
    go false false = refl

tallied_not : (strict : Bool) (samples unsettled first : ℕ) → plan.tallied strict samples unsettled first ≡ not (no_tally strict samples unsettled first)
tallied_not strict samples unsettled first =
    rw (leb_not unsettled samples, leb_not first samples)
    (go (ltb samples unsettled) (ltb samples first) (eqb unsettled 0) (eqb first 0) strict)
  where
    go : (a b u f s : Bool) → (not a && (not b && (plan.both_or_neither u f && (not s || u)))) ≡ not (a || (b || ((u && not f || not u && f) || (s && not u))))
    go true b u f s = refl
    go false true u f s = refl
    go false false true true true = refl
    go false false true true false = refl
    go false false true false s = refl
    go false false false true s = refl
    go false false false false true = refl
    go false false false false false = refl

possible_not : (camera : Camera) (width height : ℕ) (strict : Bool) (at : Progress) → plan.possible (sweep_of camera width height strict) at ≡ not (no_build camera width height strict at)
unfolding plan.possible
possible_not camera width height strict at =
    let seen = min at.done (samples width height) in
    rw (
      leb_not at.done (all_units width height),
      leb_not at.updates (limit camera * seen),
      leb_not (samples width height) at.done,
      fine_not (increments at.region width height),
      tallied_not strict seen at.unsettled at.first,
    )
    (go (ltb (all_units width height) at.done) (ltb (limit camera * seen) at.updates) (all_finite (four at.edges)) (ltb at.done (samples width height)) (unfit (increments at.region width height)) (no_tally strict seen at.unsettled at.first))
  where
    go : (a b c d e t : Bool) → (not a && (not b && (c && ((d || not e) && not t)))) ≡ not (a || (b || (not c || (not d && e || t))))
    go true b c d e t = refl
    go false true c d e t = refl
    go false false false d e t = refl
    go false false true true e t = refl
    go false false true false true t = refl
    go false false true false false t = refl

pub admitted_number : (job : Job) (places : ℕ) → verdict (admitted job places) ≡ first (turn_rows job places)
unfolding plan.admitted opens_for
admitted_number job places =
    rw (possible_not job.camera job.width job.height job.strict job.at)
    (go (all_finite (parameters job.camera) && all_finite (four job.at.region)) (zero_focal job.camera) (sized job.width job.height) (eqb places (2 * (job.width * job.height))) (no_build job.camera job.width job.height job.strict job.at))
  where
    go : (g z s e n : Bool)
        → verdict (decided (by_tests g z s) Err (cond e (cond (not n) accepted (Err ImpossibleRecord)) (Err WrongLength)))
        ≡ first ((4 when not g) ∷ (5 when z) ∷ (6 when not s) ∷ (7 when not e) ∷ (13 when n) ∷ [])
    go false z s e n = refl
    go true true s e n = refl
    go true false false e n = refl
    go true false true false n = refl
    go true false true true true = refl
    go true false true true false = refl
