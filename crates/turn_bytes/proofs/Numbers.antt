-- Which numbers a call can have: those before any unit, and those of a unit. Assumes nothing.
use mathlib.Core.Path.{◌≡◌, refl, ap, ◌∙◌}
use Rattle.std.specs.declared.result.Result.TheVariants.{Ok, Err}
use mathlib.Core.Bool.{Bool, true, false, cond, ◌&&◌}
use mathlib.Core.List.{List, ◌∷◌}
use Prim.Native.Nat.{ℕ, ◌*◌}
use native.Mathlib.Omega.{arith}
use lib.Dec.{eqb, leb, ltb}
use lib.ListN.{length}
use Rattle.lens.specs.Finite.{all_finite}
use Rattle.lens.specs.Judgement.{verdict, decided}
use Rattle.lens.specs.Refusal.{number}
use Rattle.lens.specs.Judgement.{Judgement}
use Rattle.lens.specs.declared.Refusal.TheVariants.{UnknownModel, NotFinite, ZeroFocalLength, WrongSize, WrongLength, ImpossibleRecord}
use Rattle.region.specs.Region.{four}
use Rattle.region.specs.Size.{sized}
use Rattle.camera.specs.Camera.{parameters, zero_focal}
use Rattle.turns.specs.Turns.{refused, turn}
use Rattle.plans.specs.Calls.{said_number}
use Rattle.plans.specs.Calls as plan
use Rattle.plans.specs.Plan.{next}
use Rattle.table_plans.specs.Tables.{opens_for, Kind, one_of, unit_numbers}
use Rattle.table_plans.proofs.Numbers.{said_known, turn_known}
use Rattle.table_plans.proofs.Sound.{Fit}
use Rattle.job.specs.Job.{sweep_for, admitted}
use Rattle.job.specs.declared.Job.{Job}
use Rattle.distortion_table.specs.Answer.{plan_of, state_of, turn_of}
use Rattle.little_endian.specs.Bytes.{half}
use Rattle.given.specs.Given.{code}
use Rattle.camera.specs.Numbers.{last}
use Rattle.job_bytes.specs.Places.{record_length}
use Rattle.job_bytes.specs.Bytes.{record_read, job_at}
use Rattle.job_bytes.specs.Check.{whole}
use Rattle.turn_bytes.specs.Turn.{checked, own, answer_length, before_units}
use Rattle.turn_bytes.specs.Calls.{call_numbers}
use Rattle.turn_bytes.proofs.Turning.{none_before, is_right}

-- ---- before any unit

abbrev BeforeUnits : ℕ → Type 0
BeforeUnits n = one_of n (0 ∷ call_numbers) ≡ true

admitted_so : (job : Job) (places : ℕ) → BeforeUnits (verdict (admitted job places))
unfolding plan.admitted opens_for
admitted_so job places = go (all_finite (parameters job.camera) && all_finite (four job.at.region)) (zero_focal job.camera) (sized job.width job.height) (eqb places (2 * (job.width * job.height))) (plan.possible (sweep_for job) job.at)
  where
    go : (g z s e p : Bool)
        → BeforeUnits (verdict (decided (cond g (cond z (Err ZeroFocalLength) (cond s (Ok tt) (Err WrongSize))) (Err NotFinite)) Err (cond e (cond p (Ok tt) (Err ImpossibleRecord)) (Err WrongLength))))
    go false z s e p = refl
    go true true s e p = refl
    go true false false e p = refl
    go true false true false p = refl
    go true false true true false = refl
    go true false true true true = refl

checked_so : (whole : Bool) (n : ℕ) → BeforeUnits n → BeforeUnits (checked whole n)
checked_so whole n h = go (eqb n 0) whole
  where
    go : (z w : Bool) → BeforeUnits (cond z (cond w 0 13) n)
    go true true = refl
    go true false = refl
    go false w = h

own_so : (bs : List ℕ) (whole : Bool) (places : ℕ) → BeforeUnits (own (record_read bs) whole places)
unfolding record_read
own_so bs whole places = go (eqb (length bs) record_length) (leb (half bs 0) last)
  where
    go : (l m : Bool) → BeforeUnits (own (cond l (cond m (Ok (job_at bs)) (Err UnknownModel)) (Err WrongLength)) whole places)
    go false m = refl
    go true false = refl
    go true true = checked_so whole (verdict (admitted (job_at bs) places)) (admitted_so (job_at bs) places)

code_so : (n : ℕ) (right : Bool) → BeforeUnits n → BeforeUnits (code n right)
unfolding code
code_so n true h = h
code_so n false h = go (eqb n 0) (ltb n 7)
  where
    go : (z l : Bool) → BeforeUnits (cond z 7 (cond l n 7))
    go true l = refl
    go false true = h
    go false false = refl

pub before_so : {X : Type 0} (bs : List ℕ) (cells : List X) (lent : List ℕ) → one_of (before_units (record_read bs) (whole bs) cells lent) (0 ∷ call_numbers) ≡ true
before_so bs cells lent = code_so (own (record_read bs) (whole bs) (length cells)) (eqb (length lent) answer_length) (own_so bs (whole bs) (length cells))

-- ---- a call that is taken

-- its record is admitted, and its bytes are whole
pub own_taken : (bs : List ℕ) (places : ℕ) → own (record_read bs) (whole bs) places ≡ 0 → (admitted (job_at bs) places ≡ Ok tt) × (whole bs ≡ true)
unfolding record_read
own_taken bs places h = go (eqb (length bs) record_length) (leb (half bs 0) last) h
  where
    go : (l m : Bool) → own (cond l (cond m (Ok (job_at bs)) (Err UnknownModel)) (Err WrongLength)) (whole bs) places ≡ 0
        → (admitted (job_at bs) places ≡ Ok tt) × (whole bs ≡ true)
    go false m e = absurd (omega (arith, e))
    go true false e = absurd (omega (arith, e))
    go true true e = is_right (job_at bs) (whole bs) places e

pub taken_so :
    {X : Type 0} (kind : Kind X) → Fit kind → (bs : List ℕ) (cells : List X) (lent : List ℕ) (a : ℕ) →
    before_units (record_read bs) (whole bs) cells lent ≡ 0 →
    one_of (said_number (turn_of kind (job_at bs) cells a).said) (0 ∷ unit_numbers kind.refusal (job_at bs).strict) ≡ true
taken_so kind fit bs cells lent a z =
    let j : Job = job_at bs in
    let numbers : List ℕ = 0 ∷ unit_numbers kind.refusal j.strict in
    let e : admitted j (length cells) ≡ Ok tt = (own_taken bs (length cells) (none_before (record_read bs) (whole bs) cells lent z).0).0 in
    ap (λ (v : Judgement). one_of (said_number (decided v (λ r. record { state = state_of j cells; said = refused (number r) }) (turn (next (plan_of kind j)) a (state_of j cells))).said) numbers) e
    ∙ said_known kind.refusal j.strict (turn (next (plan_of kind j)) a (state_of j cells)).said (turn_known kind fit j.camera j.width j.height j.strict a (state_of j cells))
