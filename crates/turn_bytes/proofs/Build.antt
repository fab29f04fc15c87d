-- Calls over bytes serve the plan of the table whose record they hold: each call reads back what the one before wrote. Assumes
-- nothing.
use mathlib.Core.Path.{◌≡◌, refl, sym, ap, ap₂, ◌∙◌, subst}
use Rattle.std.specs.declared.result.Result.{Result}
use Rattle.std.specs.declared.result.Result.TheVariants.{Ok, Err}
use mathlib.Core.Bool.{Bool, true, false, cond}
use mathlib.Core.List.{List, ◌∷◌, ◌++◌}
use Prim.Native.Nat.{ℕ, ◌*◌, ◌^◌, ◌≤◌, ◌<◌, min}
use native.Mathlib.Nat.{mul-le-mul, min-le_right}
use native.Mathlib.Omega.{arith}
use borrow.Author.Tests.{eq-eqb, ne_eqb, eqb-true}
use lib.Dec.{eqb}
use lib.ListN.{length, take}
use lib.Seq.{take-append_seam}
use Rattle.lens.specs.Finite.{all_finite}
use Rattle.lens.specs.Judgement.{verdict, decided}
use Rattle.lens.specs.Refusal.{number}
use Rattle.lens.specs.Judgement.{Judgement}
use Rattle.lens.specs.declared.Refusal.{Refusal}
use Rattle.lens.proofs.Laws.{number_within}
use Rattle.region.proofs.Size.{bounded}
use Rattle.camera.specs.Camera.{parameters, limit}
use Rattle.engine.specs.Engine.{short_for}
use Rattle.engine.proofs.Laws.{points_fit}
use Rattle.camera.proofs.Laws.{limit_most}
use Rattle.turns.specs.Turns.{Said, finished, refused, running, Turn, turn}
use Rattle.border.specs.Border.{samples}
use Rattle.border.proofs.Finite.{both, of_four}
use Rattle.plans.specs.Calls.{Serves}
use Rattle.plans.specs.Calls as plan
use Rattle.plans.specs.Plan.{State, next}
use Rattle.plans.proofs.Fits.{turn_numbers_fit}
use Rattle.plans.proofs.Numbers.{Told}
use Rattle.plans.proofs.Reaching.{is_admitted, Good, turn_keeps}
use Rattle.table_plans.specs.Tables.{Kind, one_of, unit_numbers}
use Rattle.table_plans.proofs.Numbers.{Known, by_each, said_known, turn_known}
use Rattle.table_plans.proofs.Sound.{opened, Fit, kind_sound}
use Rattle.job.specs.Job.{sweep_for, admitted}
use Rattle.job.specs.declared.Job.{Job}
use Rattle.distortion_table.specs.Answer.{plan_of, state_of, answer, turn_of}
use Rattle.little_endian.specs.Bytes.{bytes, word, value}
use Rattle.little_endian.proofs.Laws.{length_bytes, value_bytes}
use Rattle.given.specs.Given.{code}
use Rattle.job_bytes.specs.Bytes.{record_bytes, record_read, job_at}
use Rattle.job_bytes.specs.Check.{whole}
use Rattle.job_bytes.proofs.Laws.{Writable, written_read, written_whole}
use Rattle.turn_bytes.specs.Turn.{Handed, handed, checked, answer_length, before_units, status_number, words, answer_bytes, written, turn_bytes}
use Rattle.turn_bytes.specs.Calls.{HeldBytes, bytes_plan, bytes_state, left, bytes_said}
use Rattle.turn_bytes.proofs.Turning.{read_of, not_taken, taken}

-- ---- what a call that is taken says, as its answer has it

first_word : (w : ℕ) (l : List ℕ) → w < 256 ^ 8 → word (bytes 8 w ++ l) 0 ≡ w
first_word w l h = ap (λ (k : ℕ). value (take k (bytes 8 w ++ l))) (sym (length_bytes 8 w)) ∙ ap value (take-append_seam (bytes 8 w) l) ∙ value_bytes 8 w h

status_of : (said : Said) (job : Job) → word (answer_bytes said job) 0 ≡ status_number said
unfolding words
status_of said job = first_word (status_number said) _ (small said)
  where
    small : (x : Said) → status_number x < 256 ^ 8
    small finished = omega arith
    small (refused n) = omega arith
    small running = omega arith

-- a unit's number is not 0
module _ (refusal : ℕ) (above : 0 < refusal) where
  own_not_zero : eqb refusal 0 ≡ false
  own_not_zero = ne_eqb refusal 0 (λ z. omega (arith, above, z))

  not_zero : (strict : Bool) (n : ℕ) → Known refusal strict n → eqb n 0 ≡ false
  not_zero true n k = by_each (λ m. eqb m 0 ≡ false) (unit_numbers refusal true) n k (refl, (refl, (refl, (refl, (refl, (own_not_zero, tt))))))
  not_zero false n k = by_each (λ m. eqb m 0 ≡ false) (unit_numbers refusal false) n k (refl, (refl, (refl, (refl, (own_not_zero, tt)))))

  said_back : {X : Type 0} (said : Said) (job : Job) (cells : List X) → Told (Known refusal job.strict) said → bytes_said (written record { said = said; job = job; cells = cells }) ≡ said
  said_back finished job cells k = ap (λ (n : ℕ). cond (eqb n 1) finished running) (status_of finished job)
  said_back running job cells k = ap (λ (n : ℕ). cond (eqb n 1) finished running) (status_of running job)
  said_back (refused n) job cells k =
      ap (λ (b : Bool). cond b (cond (eqb (word (answer_bytes (refused n) job) 0) 1) finished running) (refused n)) (not_zero job.strict n k)

-- ---- what a caller holds: bytes of a record that they can hold

pub record Ready {X : Type 0} (h : HeldBytes X) : Type 0 where
  pub job : Job
  pub bytes_of : h.job ≡ record_bytes job
  pub writable : Writable job

read_back : (job : Job) → Writable job → job_at (record_bytes job) ≡ job
read_back job w = sym (read_of (record_bytes job) job (written_read job w)).0

-- ---- one call of such a record

module _ {X : Type 0} (kind : Kind X) (fit : Fit kind) (job : Job) (w : Writable job) (cells : List X) (a : ℕ) (lent : List ℕ) (room : length lent ≡ answer_length) where
  abbrev bs : List ℕ
  bs = record_bytes job

  abbrev after : Handed X
  after = turn_bytes kind bs cells a lent

  abbrev turned : Turn (State X)
  turned = turn (next (plan_of kind job)) a (state_of job cells)

  whole_number : (n : ℕ) → checked true n ≡ n
  whole_number n = go (eqb n 0) refl
    where
      go : (z : Bool) → eqb n 0 ≡ z → cond z 0 n ≡ n
      go true e = sym (eqb-true n 0 e)
      go false e = refl

  own_number : before_units (record_read bs) (whole bs) cells lent ≡ verdict (admitted job (length cells))
  unfolding code
  own_number =
      ap₂ (λ (f : Result Job Refusal) (t : Bool). before_units f t cells lent) (written_read job w) (written_whole job)
      ∙ ap (code (checked true (verdict (admitted job (length cells))))) (eq-eqb (length lent) answer_length room)
      ∙ whole_number (verdict (admitted job (length cells)))

  as_job : turn_of kind (job_at bs) cells a ≡ turn_of kind job cells a
  as_job = ap (λ (j : Job). turn_of kind j cells a) (read_back job w)

  refused_is : (r : Refusal) → admitted job (length cells) ≡ Err r → after ≡ handed (number r) bs cells lent
  unfolding turn_bytes
  refused_is r e =
      let n : before_units (record_read bs) (whole bs) cells lent ≡ number r = own_number ∙ ap verdict e in
      not_taken bs cells lent (turn_of kind (job_at bs) cells a) (before_units (record_read bs) (whole bs) cells lent) (λ z. omega (arith, (number_within r).0, n, z))
      ∙ ap (λ (k : ℕ). handed k bs cells lent) n

  module _ (e : admitted job (length cells) ≡ Ok tt) where
    as_turned : turn_of kind (job_at bs) cells a ≡ answer job turned
    as_turned = as_job ∙ ap (λ (j : Judgement). answer job (decided j (λ r. record { state = state_of job cells; said = refused (number r) }) turned)) e

    taken_is : after ≡ written (answer job turned)
    unfolding turn_bytes
    taken_is =
        taken bs cells lent (turn_of kind (job_at bs) cells a) (before_units (record_read bs) (whole bs) cells lent) (own_number ∙ ap verdict e)
        ∙ ap written as_turned

    -- the record goes into bytes again
    good : Good (plan_of kind job) (state_of job cells)
    good =
        let k = is_admitted (sweep_for job) job.at (length cells) e in
        let o = opened job.camera job.width job.height job.at.region k.opens in
        record { record_of = k.record_of; region = of_four job.at.region (both (all_finite (parameters job.camera)) _ o.numbers).1; long = k.long }

    still_writable : Writable (answer job turned).job
    still_writable =
        let k = is_admitted (sweep_for job) job.at (length cells) e in
        let size = (opened job.camera job.width job.height job.at.region k.opens).size in
        let g = turn_keeps (plan_of kind job) (kind_sound job.camera job.width job.height kind fit job.strict) a (state_of job cells) good in
        let n = turn_numbers_fit (plan_of kind job) (points_fit job.camera (short_for job.camera)) a (state_of job cells) record { region = w.region; edges = w.edges } in
        let most = min-le_right turned.state.at.done (samples job.width job.height) in
        let few : limit job.camera * min turned.state.at.done (samples job.width job.height) ≤ 50 * samples job.width job.height = mul-le-mul (limit_most job.camera) most in
        record {
          params = w.params;
          edges = n.edges;
          region = n.region;
          width = w.width;
          height = w.height;
          updates = omega (arith, g.record_of.updates, few, size.not_wider, size.not_higher);
          unsettled = omega (arith, g.record_of.tallies.count, most, size.not_wider, size.not_higher);
          first = omega (arith, g.record_of.tallies.position, most, size.not_wider, size.not_higher);
          done = omega (arith, g.record_of.not_past, bounded job.width job.height size, size.not_wider, size.not_higher);
        }

  -- it is the plan's
  answered_so : record { state = bytes_state (left after); said = bytes_said after } ≡ plan.turn_of (plan_of kind job) a (state_of job cells)
  answered_so = go (admitted job (length cells)) refl
    where
      go : (j : Judgement) → admitted job (length cells) ≡ j
          → record { state = bytes_state (left after); said = bytes_said after } ≡ decided j (λ r. record { state = state_of job cells; said = refused (number r) }) turned
      go (Err r) e =
          ap (λ (h : Handed X). record { state = bytes_state (left h); said = bytes_said h }) (refused_is r e)
          ∙ ap₂ (λ (k : Job) (b : Bool). record { state = state_of k cells; said = cond b (cond (eqb (word lent 0) 1) finished running) (refused (number r)) }) (read_back job w) (ne_eqb (number r) 0 (λ z. omega (arith, (number_within r).0, z)))
      go (Ok _) e =
          let x = answer job turned in
          ap (λ (h : Handed X). record { state = bytes_state (left h); said = bytes_said h }) (taken_is e)
          ∙ ap₂ (λ (k : Job) (s : Said). record { state = state_of k x.cells; said = s }) (read_back x.job (still_writable e)) (said_back kind.refusal fit.numbered x.said x.job x.cells (turn_known kind fit job.camera job.width job.height job.strict a (state_of job cells)))

  -- it keeps the plan, and leaves what the next call may take
  kept_so : (bytes_plan kind (left after) ≡ plan_of kind job) × Ready (left after)
  kept_so = go (admitted job (length cells)) refl
    where
      go : (j : Judgement) → admitted job (length cells) ≡ j → (bytes_plan kind (left after) ≡ plan_of kind job) × Ready (left after)
      go (Err r) e =
          subst (λ (h : Handed X). (bytes_plan kind (left h) ≡ plan_of kind job) × Ready (left h)) (sym (refused_is r e))
          (ap (plan_of kind) (read_back job w), record { job = job; bytes_of = refl; writable = w })
      go (Ok _) e =
          let x = answer job turned in
          subst (λ (h : Handed X). (bytes_plan kind (left h) ≡ plan_of kind job) × Ready (left h)) (sym (taken_is e))
          (ap (plan_of kind) (read_back x.job (still_writable e)), record { job = x.job; bytes_of = refl; writable = still_writable e })

-- ---- any function whose calls leave and say what `turn_bytes` does, with an answer's buffer of 48 bytes

pub record ByTurnBytes {X : Type 0} (kind : Kind X) (h : HeldBytes X) (a : ℕ) (said : Said) (k : HeldBytes X) : Type 0 where
  pub lent : List ℕ
  pub room : length lent ≡ answer_length
  pub leaves : k ≡ left (turn_bytes kind h.job h.cells a lent)
  pub says : said ≡ bytes_said (turn_bytes kind h.job h.cells a lent)

-- the record that is held, in place of its bytes
held_so : {X : Type 0} (kind : Kind X) (h : HeldBytes X) (r : Ready h) (a : ℕ) (lent : List ℕ) → turn_bytes kind h.job h.cells a lent ≡ turn_bytes kind (record_bytes r.job) h.cells a lent
held_so kind h r a lent = ap (λ (b : List ℕ). turn_bytes kind b h.cells a lent) r.bytes_of

job_so : {X : Type 0} (h : HeldBytes X) (r : Ready h) → job_at h.job ≡ r.job
job_so h r = ap job_at r.bytes_of ∙ read_back r.job r.writable

module _ {X : Type 0} (kind : Kind X) (fit : Fit kind) (Post : HeldBytes X → ℕ → Said → HeldBytes X → Type 0) (by_contract : (h : HeldBytes X) (a : ℕ) (said : Said) (k : HeldBytes X) → Post h a said k → ByTurnBytes kind h a said k) where
  pub bytes_serve : Serves (HeldBytes X) Ready (bytes_plan kind) bytes_state Post
  bytes_serve = record { answers = answers; plan_kept = plan_kept; ready_kept = ready_kept }
    where
      answers : (h : HeldBytes X) (a : ℕ) (said : Said) (k : HeldBytes X) → Ready h → Post h a said k → record { state = bytes_state k; said = said } ≡ plan.turn_of (bytes_plan kind h) a (bytes_state h)
      answers h a said k r p =
          let e = by_contract h a said k p in
          ap₂ (λ (x : HeldBytes X) (s : Said). record { state = bytes_state x; said = s }) e.leaves e.says
          ∙ ap (λ (x : Handed X). record { state = bytes_state (left x); said = bytes_said x }) (held_so kind h r a e.lent)
          ∙ answered_so kind fit r.job r.writable h.cells a e.lent e.room
          ∙ ap (λ (j : Job). plan.turn_of (plan_of kind j) a (state_of j h.cells)) (sym (job_so h r))

      kept : (h : HeldBytes X) (a : ℕ) (said : Said) (k : HeldBytes X) (r : Ready h) → Post h a said k → (bytes_plan kind k ≡ plan_of kind r.job) × Ready k
      kept h a said k r p =
          let e = by_contract h a said k p in
          subst (λ (x : HeldBytes X). (bytes_plan kind x ≡ plan_of kind r.job) × Ready x) (sym (e.leaves ∙ ap left (held_so kind h r a e.lent)))
          (kept_so kind fit r.job r.writable h.cells a e.lent e.room)

      plan_kept : (h : HeldBytes X) (a : ℕ) (said : Said) (k : HeldBytes X) → Ready h → Post h a said k → bytes_plan kind k ≡ bytes_plan kind h
      plan_kept h a said k r p = (kept h a said k r p).0 ∙ sym (ap (plan_of kind) (job_so h r))

      ready_kept : (h : HeldBytes X) (a : ℕ) (said : Said) (k : HeldBytes X) → Ready h → Post h a said k → Ready k
      ready_kept h a said k r p = (kept h a said k r p).1

-- a call that the plan admits reports what it left: its number is 0 or that of a unit, and the answer's words are those of the record
pub record Reports {X : Type 0} (refusal : ℕ) (strict : Bool) (x : Handed X) : Type 0 where
  pub number : one_of x.code (0 ∷ unit_numbers refusal strict) ≡ true
  pub answer : x.answer ≡ answer_bytes (bytes_said x) (job_at x.job)

pub admitted_reports : {X : Type 0} (kind : Kind X) → Fit kind → (h : HeldBytes X) → Ready h → plan.judged (bytes_plan kind h) (bytes_state h) ≡ Ok tt → (a : ℕ) (lent : List ℕ) → length lent ≡ answer_length → Reports kind.refusal (job_at h.job).strict (turn_bytes kind h.job h.cells a lent)
admitted_reports kind fit h r e a lent room =
    let f : admitted r.job (length h.cells) ≡ Ok tt = sym (ap (λ (j : Job). admitted j (length h.cells)) (job_so h r)) ∙ e in
    let x = answer r.job (turn (next (plan_of kind r.job)) a (state_of r.job h.cells)) in
    let k = turn_known kind fit r.job.camera r.job.width r.job.height r.job.strict a (state_of r.job h.cells) in
    subst (λ (j : Job). Reports kind.refusal j.strict (turn_bytes kind h.job h.cells a lent)) (sym (job_so h r))
    (subst (Reports kind.refusal r.job.strict) (sym (held_so kind h r a lent ∙ taken_is kind fit r.job r.writable h.cells a lent room f))
    record {
      number = said_known kind.refusal r.job.strict x.said k;
      answer =
          ap₂ answer_bytes (sym (said_back kind.refusal fit.numbered x.said x.job x.cells k))
          (sym (read_back x.job (still_writable kind fit r.job r.writable h.cells a lent room f)));
    })
