-- What a caller may rely on, of the definitions of specs/ and of the contracts of src/. Assumes nothing.
use mathlib.Core.Path.{◌≡◌, refl, sym, ap, ap₂, ◌∙◌, subst}
use Rattle.std.specs.declared.result.Result.TheVariants.{Ok}
use mathlib.Core.List.{List, [], ◌∷◌, ◌++◌}
use mathlib.Core.Bool.{Bool, true, false}
use Prim.Native.Nat.{ℕ, ◌+◌, ◌*◌, ◌≤◌, ◌<◌, min}
use native.Mathlib.Omega.{arith}
use lib.Ieee.{Float}
use denote.Param.Laws.{Laws, IsCopy}
use denote.RattleType.{RattleType}
use lib.ListN.{length}
use mir.Syntax.{Dict}
use Rattle.std.specs.declared.clone.Clone as clone
use Rattle.exact.specs.Determined.{DeterminedWith}
use Rattle.lens.proofs.Laws.{number_one_to_one}
use Rattle.camera.specs.Camera.{limit}
use Rattle.camera.specs.declared.Camera.{Camera}
use Rattle.engine.specs.Engine.{short_for}
use Rattle.camera.proofs.Laws.{updates_limit_judged}
use Rattle.border.specs.Border.{samples, all_units, border_at, samples_twice}
use Rattle.turns.specs.Turns.{Said, refused, running, Turn, turn, total}
use Rattle.plans.specs.Built.{sum_below, settled_at, doable, says_at, Built}
use Rattle.plans.specs.Calls.{judged, said_number, allowed, Build}
use Rattle.plans.specs.Plan.{Plan, State, one_no, fresh, next}
use Rattle.plans.specs.Thinned.{SameTable}
use Rattle.plans.proofs.Ends as ends
use Rattle.plans.proofs.Laws as plans
use Rattle.plans.proofs.Reaching.{is_admitted}
use Rattle.plans.proofs.Refusals.{doable_most, refused_told, told_refused}
use Rattle.plans.proofs.Same.{built_same}
use Rattle.alike_plans.specs.AlikePlans.{BuiltAlike}
use Rattle.alike_plans.proofs.Laws.{alike_units, alike_unsettled, alike_first}
use Rattle.cell.specs.declared.CellNumber as cell-number
use Rattle.table_plans.specs.Tables.{full_sweep, sweep_of, Kind, f32s, full_table, table_of, table_before, one_of}
use Rattle.table_plans.specs.Tables.{unit_numbers}
use Rattle.table_plans.proofs.Laws as tables
use Rattle.table_plans.proofs.Numbers.{said_known, turn_known}
use Rattle.table_plans.proofs.Sound.{opened, Fit, f32_fit, kind_sound, before_sound}
use Rattle.job.specs.Job.{fresh_job}
use Rattle.job.specs.Job as job
use Rattle.job.specs.declared.Job.{Job}
use Rattle.distortion_table.specs.Answer.{Answer, answer, turn_of, enough, whole_table, told_status, told_turned}
use Rattle.distortion_table.specs.Held.{Held, handed_back, held_plan, held_state, BuiltJob}
use Rattle.distortion_table.specs.declared.Status.{Status}
use Rattle.distortion_table.specs.declared.Status.TheVariants.{Finished, Refused, Running}
use Rattle.distortion_table.specs.declared.Turned.{Turned}
use Rattle.distortion_table.proofs.Calls.{largest, Turns, turn_serves, build_keeps, same_held}
use Rattle.distortion_table.proofs.Calls.{same_table_of, taken_turn, fresh_opens, start_admitted, answer_is}
use Rattle.distortion_table.proofs.turn.Reads as turn-contract
use Rattle.distortion_table.proofs.distort_table.Reads as distort-table-contract

-- ---- demand 3

-- where a build starts: a fresh record, and the caller's table
abbrev pub first : {X : Type 0} → Camera → ℕ → ℕ → Bool → List X → Held X
first camera width height strict table = record { job = fresh_job camera width height strict; cells = table }

-- No sample has more updates than its model's limit: 0 for affine and eucm, 20 for kb, 50 for bc and bc12.
pub within_limit : (camera : Camera) (width height : ℕ) (strict : Bool) (n : ℕ)
    → (settled_at (full_sweep camera width height strict) n).updates ≤ limit camera
within_limit camera width height strict n = updates_limit_judged camera (border_at width height n)

-- Each law below is of calls that answer the turn of some kind of cell: the calls of `turn` at any type of number are
-- such (`turns`).
module _ {X : Type 0} (t : Turns X) (camera : Camera) (width height : ℕ) (strict : Bool) (table : List X) where
  abbrev start : Held X
  start = first camera width height strict table

  -- the definition's plan, by the full engine, and the one that is built
  abbrev plan : Plan X
  plan = full_table t.kind camera width height strict

  abbrev made : Plan X
  made = table_of t.kind camera width height strict

  made_in_turns :
      (allowances : List ℕ) (last : Held X) (calls : Build (Held X) t.Called allowances start last)
      → Built made table (allowed (held_plan t.kind) held_state allowances start last calls) (held_state last)
  made_in_turns allowances last calls =
      plans.built (Held X) (λ h. Unit {0}) (held_plan t.kind) held_state t.Called (turn_serves t) start tt
      (kind_sound camera width height t.kind t.fit strict)
      table refl allowances last calls

  -- Demand 3. Start from a fresh job of any camera and size, strict or not, with any table, and call the turn with any
  -- allowances, 0 among them, each time with the record and the table that the call before handed back. Let A be the
  -- sum of the allowances of those calls that are admitted, and F the number of units before the first that the
  -- definition refuses, or of all units; in a strict job it refuses also a border sample that didn't settle. The
  -- definition is by the full engine, for every camera. Then exactly min(A, F) units are done; the record is the one
  -- that the definition has after so many, of the same camera, size and mark: its region, its updates the sum of the
  -- definition's over the border samples done, its count of unsettled samples and the first of them the definition's
  -- over these; among the edges that it keeps, and nowhere else, the sign of a zero may differ; each cell done holds
  -- the definition's numbers; and the rest of the table is untouched.
  pub built_in_turns :
      (allowances : List ℕ) (last : Held X) (calls : Build (Held X) t.Called allowances start last)
      → BuiltJob t.kind camera width height strict table
      (allowed (held_plan t.kind) held_state allowances start last calls) last
  built_in_turns allowances last calls =
      let k = build_keeps t allowances start last calls in
      record {
        same_camera = k.camera;
        same_width = k.width;
        same_height = k.height;
        same_strict = k.strict;
        built = tables.built_full t.kind camera width height strict table _ (held_state last)
            (made_in_turns allowances last calls);
      }

  -- For any other camera than a bc whose k4, k5 and k6 are zeros not even a zero's sign differs.
  pub built_exactly :
      short_for camera ≡ false
      → (allowances : List ℕ) (last : Held X) (calls : Build (Held X) t.Called allowances start last)
      → Built plan table (allowed (held_plan t.kind) held_state allowances start last calls) (held_state last)
  built_exactly e allowances last calls =
      subst (λ (p : Plan X). Built p table (allowed (held_plan t.kind) held_state allowances start last calls)
      (held_state last))
      (tables.own_plan t.kind camera width height strict e) (made_in_turns allowances last calls)

  module _ (allowances : List ℕ) (last : Held X) (calls : Build (Held X) t.Called allowances start last) where
    abbrev whole : BuiltAlike plan table (allowed (held_plan t.kind) held_state allowances start last calls)
        (held_state last)
    whole = (built_in_turns allowances last calls).built

    -- The record's count is the number of the border samples done whose flag, by the definition, says no,
    pub unsettled_counted :
        last.job.at.unsettled
        ≡ sum_below (λ k. one_no (settled_at (full_sweep camera width height strict) k).flag)
        (min last.job.at.done (samples width height))
    unsettled_counted = alike_unsettled plan table _ (held_state last) whole

    -- and its first position that of the first of them, counted from 1: the flag there says no and all before it say
    -- yes; at 0 all of the samples done say yes.
    pub first_unsettled :
        plans.First (λ k. (settled_at (full_sweep camera width height strict) k).flag)
        (min last.job.at.done (samples width height)) last.job.at.first
    first_unsettled =
        let flags : ℕ → Bool = λ k. (settled_at (full_sweep camera width height strict) k).flag in
        let n = min last.job.at.done (samples width height) in
        subst (plans.First flags n) (sym (alike_first plan table _ (held_state last) whole)) (plans.first_is flags n)

  -- However the work is split: two builds that are allowed as much end with the same record and the same table.
  pub any_split :
      (ls ms : List ℕ) (last other : Held X)
      (calls : Build (Held X) t.Called ls start last) (others : Build (Held X) t.Called ms start other)
      → allowed (held_plan t.kind) held_state ls start last calls
      ≡ allowed (held_plan t.kind) held_state ms start other others → last ≡ other
  any_split ls ms last other calls others e =
      let b = built_in_turns ls last calls in
      let c = built_in_turns ms other others in
      same_held last other (b.same_camera ∙ sym c.same_camera) (b.same_width ∙ sym c.same_width)
      (b.same_height ∙ sym c.same_height) (b.same_strict ∙ sym c.same_strict)
      (built_same made table _ _ (held_state last) (held_state other) (made_in_turns ls last calls)
      (made_in_turns ms other others)
      (ap (λ (A : ℕ). min A (doable made)) e))

-- ---- a build from a record that `fresh` handed out, with a table of its size

-- Such a record is the fresh one.
pub as_begun : (camera : Camera) (width height : ℕ) (strict : Bool) (start : Job) → job.fresh camera width height strict
    ≡ Ok start → start ≡ fresh_job camera width height strict
as_begun camera width height strict start begin = (fresh_opens camera width height strict start begin).1

module _
    {X : Type 0} (t : Turns X)
    (camera : Camera) (width height : ℕ) (strict : Bool) (start : Job)
    (begin : job.fresh camera width height strict ≡ Ok start)
    (table : List X) (long : length table ≡ 2 * (width * height))
  where
    takes : judged (table_of t.kind camera width height strict) (fresh table) ≡ Ok tt
    takes = start_admitted camera width height strict t.kind t.fit
        (fresh_opens camera width height strict start begin).0 table long

    module _
        (allowances : List ℕ) (last : Held X) (calls : Build (Held X) t.Called allowances
        (first camera width height strict table) last)
      where
        -- Every call is admitted,
        pub build_admitted : judged (table_of t.kind camera width height strict) (held_state last) ≡ Ok tt
        build_admitted =
            plans.built_admitted (Held X) (λ h. Unit {0}) (held_plan t.kind) held_state t.Called (turn_serves t)
            (first camera width height strict table) tt
            (kind_sound camera width height t.kind t.fit strict) table refl allowances last calls takes

        -- In a strict job all samples done have settled: the count is 0, and the flag of each, by the definition, says
        -- yes.
        pub strict_settled :
            strict ≡ true
            → (last.job.at.unsettled ≡ 0)
            × ((k : ℕ) → k < min last.job.at.done (samples width height)
            → (settled_at (full_sweep camera width height strict) k).flag ≡ true)
        strict_settled h =
            let tallies = (is_admitted (sweep_of camera width height strict) last.job.at
            (length last.cells) build_admitted).record_of.tallies in
            let none = tallies.none_strict h in (
              none,
              λ k l. (first_unsettled t camera width height strict table allowances last calls).yes_all k l
                  (tallies.some_first none),
            )

        -- so that none is refused with 4, 5, 6, 7 or 13, but with 8, 10, 11 or 16 if at all, in a strict job with 18,
        -- or with 12 for f32s and 19 for i16s,
        pub build_refusals :
            (a : ℕ) (said : Said) (then : Held X) → t.Called last a said then
            → one_of (said_number said) (0 ∷ unit_numbers t.kind.refusal strict) ≡ true
        build_refusals a said then c =
            let e = build_keeps t allowances (first camera width height strict table) last calls in
            let p = held_plan t.kind last in
            let same : p ≡ table_of t.kind camera width height strict = same_table_of t.kind e.camera
            e.width e.height e.strict in
            let c = (turn_serves t).answers last a said then tt c in
            let j : judged p (held_state last) ≡ Ok tt = ap (λ (q : Plan X). judged q (held_state last)) same
            ∙ build_admitted in
            ap₂ (λ (x : Turn (State X)) (b : Bool). one_of (said_number x.said)
            (0 ∷ unit_numbers t.kind.refusal b)) (c ∙ taken_turn p a (held_state last) j) (sym e.strict)
            ∙ said_known t.kind.refusal last.job.strict (turn (next p) a (held_state last)).said
            (turn_known t.kind t.fit last.job.camera last.job.width last.job.height
            last.job.strict a (held_state last))

        -- and A is the sum of all allowances.
        pub build_allowed : allowed (held_plan t.kind) held_state allowances
            (first camera width height strict table) last calls ≡ total allowances
        build_allowed =
            plans.built_allowed (Held X) (λ h. Unit {0}) (held_plan t.kind) held_state t.Called (turn_serves t)
            (first camera width height strict table) tt
            (kind_sound camera width height t.kind t.fit strict) table refl allowances last calls takes

    mine :
        (ls : List ℕ) (last : Held X) → Build (Held X) t.Called ls (first camera width height strict table) last
        → Built (table_of t.kind camera width height strict) table (total ls) (held_state last)
    mine ls last calls =
        subst (λ (A : ℕ). Built (table_of t.kind camera width height strict) table A (held_state last))
        (build_allowed ls last calls)
        (made_in_turns t camera width height strict table ls last calls)

    by_full :
        (ls : List ℕ) (last : Held X) → Build (Held X) t.Called ls (first camera width height strict table) last
        → BuiltAlike (full_table t.kind camera width height strict) table (total ls) (held_state last)
    by_full ls last calls = tables.built_full t.kind camera width height strict table (total ls) (held_state last)
        (mine ls last calls)

    -- The next call says finished exactly if T units are done after it, refused with the number of the unit behind
    -- those done exactly if that unit has one and the allowance had room for it, and running otherwise.
    pub build_says :
        (allowances : List ℕ) (last : Held X) → Build (Held X) t.Called allowances
        (first camera width height strict table) last
        → (a : ℕ) (said : Said) (then : Held X) → t.Called last a said then
        → said ≡ says_at (full_table t.kind camera width height strict) last.job.at.done a then.job.at.done
    build_says allowances last calls a said then c =
        let more = plans.one_more_call allowances (first camera width height strict table) last calls a said then c in
        let units = alike_units (full_table t.kind camera width height strict) table _ (held_state then)
        (by_full (allowances ++ a ∷ []) then more) in
        plans.built_says (Held X) (λ h. Unit {0}) (held_plan t.kind) held_state t.Called (turn_serves t)
        (first camera width height strict table) tt
        (kind_sound camera width height t.kind t.fit strict) table refl allowances last calls takes a said then c
        ∙ tables.says_full t.kind camera width height strict last.job.at.done a then.job.at.done
        (omega (arith, units))

    -- ---- corners once

    -- a turn of n units of the definition with each corner twice
    abbrev pub before : ℕ → Turn (State X)
    before n = turn (next (table_before t.kind camera width height strict)) n (fresh table)

    before_built : (n : ℕ) → Built (table_before t.kind camera width height strict) table n (before n).state
    before_built = plans.as_defined (table_before t.kind camera width height strict)
        (before_sound camera width height t.kind t.fit strict) table long

    same_as_before : SameTable (table_before t.kind camera width height strict)
        (full_table t.kind camera width height strict)
    same_as_before = tables.corners_once t.kind t.fit camera width height strict
        (opened camera width height _ (fresh_opens camera width height strict start begin).0).taken_size

    module _
        (allowances : List ℕ) (last : Held X) (calls : Build (Held X) t.Called allowances
        (first camera width height strict table) last)
      where
        -- Where some n units of the definition with each corner twice finish its table, this build is finished once it
        -- is allowed its own T units, with the same region and the same cells, bit for bit.
        pub corners_once :
            (n : ℕ) → (before n).state.at.done ≡ samples_twice width height + width * height
            → all_units width height ≤ total allowances
            → (last.job.at.done ≡ all_units width height) × (last.job.at.region ≡ (before n).state.at.region)
            × (last.cells ≡ (before n).state.cells)
        corners_once n h enough =
            let b = by_full allowances last calls in
            let r = same_as_before.finished table n (total allowances) (before n).state _ (before_built n)
            b.built h enough in
            (b.alike.done ∙ r.0, b.alike.region ∙ r.1, r.2)

        -- Where they are refused, so is this build's next call, with the same number, if with it the build is allowed
        -- its own T units, one of them in this call.
        pub corners_once_refused :
            (n r : ℕ) → (before n).said ≡ refused r
            → (a : ℕ) (said : Said) (then : Held X) → t.Called last a said then → 0 < a
            → all_units width height ≤ total allowances + a
            → said ≡ refused r
        corners_once_refused n r h a said then c some enough =
            let old = table_before t.kind camera width height strict in
            let new = full_table t.kind camera width height strict in
            let d = plans.built_units old table n (before n).state (before_built n) in
            let q = refused_told old n (before n).state.at.done r d
            (sym (plans.defined_says old (before_sound camera width height t.kind t.fit strict) table n) ∙ h) in
            let more = plans.one_more_call allowances
            (first camera width height strict table) last calls a said then c in
            let here = alike_units new table (total allowances) (held_state last) (by_full allowances last calls) in
            let there = alike_units new table _ (held_state then) (by_full (allowances ++ a ∷ []) then more) in
            let sum = plans.total_more allowances a in
            let most = doable_most new in
            build_says allowances last calls a said then c
            ∙ told_refused new last.job.at.done a then.job.at.done r
            (omega (arith, there, sum, most, enough)) (λ under. omega (arith, there, here, sum, under, enough, some))
            (same_as_before.refusal ∙ q.0) q.1

-- ---- the table at once, which isn't strict

module _
    {X : Type 0} (kind : Kind X) (fit : Fit kind)
    (camera : Camera) (width height : ℕ) (start : Job) (begin : job.fresh camera width height false ≡ Ok start)
    (table : List X) (long : length table ≡ 2 * (width * height))
  where
    -- of f32s this is `whole_table`
    abbrev pub whole_turn : Answer X
    whole_turn = turn_of kind (fresh_job camera width height false) table enough

    abbrev plan_at_once : Plan X
    plan_at_once = table_of kind camera width height false

    at_once_is : whole_turn ≡ answer (fresh_job camera width height false) (turn (next plan_at_once) enough (fresh table))
    at_once_is = answer_is camera width height false kind fit
        (fresh_opens camera width height false start begin).0 table long enough

    enough_units : all_units width height ≤ enough
    enough_units = largest width height (opened camera width height _
        (fresh_opens camera width height false start begin).0).size

    abbrev once : State X
    once = (turn (next plan_at_once) enough (fresh table)).state

    -- It is finished, or refused at a unit: it never says running.
    pub whole_turn_ends : whole_turn.said ≡ running → ⊥
    whole_turn_ends e =
        ends.never_running plan_at_once (fresh table) (omega arith) enough enough_units
        (sym (ap (λ (x : Answer X). x.said) at_once_is) ∙ e)

module _
    {X : Type 0} (t : Turns X)
    (camera : Camera) (width height : ℕ) (start : Job) (begin : job.fresh camera width height false ≡ Ok start)
    (table : List X) (long : length table ≡ 2 * (width * height))
  where
    abbrev the_plan : Plan X
    the_plan = plan_at_once t.kind t.fit camera width height start begin table long

    -- The table at once is that of any build, not strict, that is allowed T units or more: the same record, the same
    -- cells.
    pub at_once :
        (allowances : List ℕ) (last : Held X)
        → Build (Held X) t.Called allowances (first camera width height false table) last
        → all_units width height ≤ total allowances
        → last ≡ handed_back (whole_turn t.kind t.fit camera width height start begin table long)
    at_once allowances last calls h =
        let p = the_plan in
        let few = enough_units t.kind t.fit camera width height start begin table long in
        let e = ends.enough_for p (fresh table) (omega arith) (total allowances) h in
        let f = ends.enough_for p (fresh table) (omega arith) enough few in
        let c = plans.as_defined p (kind_sound camera width height t.kind t.fit false) table long in
        let whole = subst (Built p table (total allowances)) (e ∙ sym f) (c (total allowances)) in
        let b = built_in_turns t camera width height false table allowances last calls in
        same_held last (handed_back (answer (fresh_job camera width height false) (turn (next p) enough (fresh table))))
        b.same_camera b.same_width b.same_height b.same_strict
        (built_same p table (total allowances) (total allowances) (held_state last)
        (once t.kind t.fit camera width height start begin table long)
        (mine t camera width height false start begin table long allowances last calls) whole refl)
        ∙ sym (ap handed_back (at_once_is t.kind t.fit camera width height start begin table long))

-- The table of f32s at once is finished, or refused at a unit: it never says running.
pub at_once_ends :
    (camera : Camera) (width height : ℕ) (start : Job) → job.fresh camera width height false ≡ Ok start
    → (table : List Float) → length table ≡ 2 * (width * height)
    → (whole_table camera width height table).said ≡ running → ⊥
at_once_ends = whole_turn_ends f32s f32_fit

-- ---- each contract permits one answer

-- What a status says determines it.
pub status_one_to_one : (a b : Status) → told_status a ≡ told_status b → a ≡ b
status_one_to_one Finished Finished e = refl
status_one_to_one Finished (Refused r) e = let z : ◌≡◌ {A = ℕ} 0 1 = cc in absurd (omega arith)
status_one_to_one Finished Running e = let z : ◌≡◌ {A = ℕ} 0 1 = cc in absurd (omega arith)
status_one_to_one (Refused q) Finished e = let z : ◌≡◌ {A = ℕ} 0 1 = cc in absurd (omega arith)
status_one_to_one (Refused q) (Refused r) e = ap Refused (number_one_to_one q r (cc))
status_one_to_one (Refused q) Running e = let z : ◌≡◌ {A = ℕ} 0 1 = cc in absurd (omega arith)
status_one_to_one Running Finished e = let z : ◌≡◌ {A = ℕ} 0 1 = cc in absurd (omega arith)
status_one_to_one Running (Refused r) e = let z : ◌≡◌ {A = ℕ} 0 1 = cc in absurd (omega arith)
status_one_to_one Running Running e = refl

-- What a turn tells, with the table as it is then, determines its answer and that table.
pub same_turned : {X : Type 0} (r r' : Turned) (c c' : List X) → told_turned r c ≡ told_turned r' c' → r ≡ r'
same_turned {X} r r' c c' e =
    ap (λ (x : Status). record { status = x; job = r.job })
    (status_one_to_one r.status r'.status (ap (λ (t : Answer X). t.said) e))
    ∙ ap (λ (j : Job). record { status = r'.status; job = j }) (ap (λ (t : Answer X). t.job) e)

pub same_table : {X : Type 0} (r r' : Turned) (c c' : List X) → told_turned r c ≡ told_turned r' c' → c ≡ c'
same_table {X} r r' c c' e = ap (λ (t : Answer X). t.cells) e

-- Any two answers to one call that the contract of `turn` permits, at any type of number, are equal, and so are any two
-- tables at the return;
pub turn_determined :
    (g : RattleType) (l : Laws g) (c : IsCopy g) (number : cell-number.Ghosts g.Denot) (d : Dict)
    (copied : clone.Ghosts g.Denot) (e : Dict)
    → DeterminedWith (turn-contract.Post g l c number d copied e) (λ κ s. s.1.0.now)
turn_determined g l c number d copied e κ a s s' r r' p q = (same_turned r r' _ _ (p ∙ sym q), same_table r r' _ _ (p ∙ sym q))

-- and for `distort_table`.
pub distort_table_determined : DeterminedWith distort-table-contract.Post (λ κ s. s.1.1.1.0.now)
distort_table_determined κ a s s' r r' p q = (same_turned r r' _ _ (p ∙ sym q), same_table r r' _ _ (p ∙ sym q))
