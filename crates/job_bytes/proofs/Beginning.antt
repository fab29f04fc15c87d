-- A fresh record, from the parts of the call, and what its number 0 says. Assumes nothing.
use Rattle.std.proofs.Common.{◌≡◌, ℕ, ◌*◌, ◌≤◌, Bool, true, false, cond, eqb, leb, List, [], length, sym, refl, ap, ◌∙◌, arith}
use Rattle.std.specs.declared.result.Result.{Result}
use Rattle.std.specs.declared.result.Result.TheVariants.{Ok, Err}
use Rattle.lens.specs.Judgement.{decided, accepted}
use Rattle.lens.specs.Refusal.{number}
use Rattle.lens.specs.declared.Refusal.{Refusal}
use Rattle.lens.specs.Judgement.{Judgement}
use Rattle.lens.specs.declared.Refusal.TheVariants.{UnknownModel, WrongCount, ImpossibleRecord}
use Rattle.lens.proofs.Laws.{number_within}
use Rattle.camera.specs.declared.Camera.{Camera}
use Rattle.camera.specs.Numbers.{last, count}
use Rattle.camera_bytes.specs.Reading.{camera_of, read}
use Rattle.given.specs.Given.{Given, given, code, answered}
use Rattle.given.proofs.Giving.{left_alone}
use Rattle.given.proofs.Laws.{filled, told_zero}
use Rattle.plans.specs.Plan.{nowhere}
use Rattle.table_plans.specs.Tables.{opens_for}
use Rattle.job.specs.Job.{Begun, no_job, fresh_job, fresh, told_started}
use Rattle.job.specs.declared.Job.{Job}
use Rattle.job_bytes.specs.Places.{record_length}
use Rattle.job_bytes.specs.Bytes.{record_bytes, known_mark, started, give_started, fresh_bytes}

-- ---- the call

-- a refusal's number is told, and nothing is written
pub refused_given :
    (refusal : Refusal) (own r : ℕ) (lent : List ℕ) →
    own ≡ number refusal →
    r ≡ code own (eqb (length lent) record_length) →
    given r lent ≡ give_started (no_job (number refusal)) lent
unfolding answered
refused_given refusal own r lent o e =
    let f : r ≡ code (number refusal) (eqb (length lent) record_length) = e ∙ ap (λ (n : ℕ). code n (eqb (length lent) record_length)) o in
    left_alone record_length (number refusal) [] lent r f
    (λ z. omega (arith, (number_within refusal).0, (told_zero record_length (number refusal) [] lent (sym f ∙ z)).0))

pub call :
    (model : ℕ) (params : List ℕ) (width height m : ℕ) (lent : List ℕ) (g : Given) (s : Result Job Refusal) (a : Result Camera Refusal) →
    g ≡ give_started (told_started s) lent →
    told_started s ≡ told_started (started a width height m) →
    a ≡ read model params →
    g ≡ fresh_bytes model params width height m lent
unfolding fresh_bytes
call model params width height m lent g s a e f k =
    e ∙ ap (λ (b : Begun). give_started b lent) (f ∙ ap (λ (q : Result Camera Refusal). told_started (started q width height m)) k)

-- ---- what 0 says

module _ (model : ℕ) (params : List ℕ) (width height m : ℕ) (lent : List ℕ) where
  abbrev camera : Camera
  camera = camera_of model params

  abbrev job : Job
  job = fresh_job camera width height (eqb m 1)

  abbrev Says : Given → Type 0
  Says g = g.code ≡ 0 → (g.answer ≡ record_bytes job) × (opens_for camera width height nowhere ≡ accepted)

  refusing : (refusal : Refusal) → Says (give_started (no_job (number refusal)) lent)
  refusing refusal z = absurd (omega (arith, (number_within refusal).0, (told_zero record_length (number refusal) [] lent z).0))

  beginning : opens_for camera width height nowhere ≡ accepted → Says (answered record_length 0 (record_bytes job) lent)
  beginning s z =
      let e : length lent ≡ record_length = (told_zero record_length 0 (record_bytes job) lent z).1 in
      (ap (λ (g : Given). g.answer) (filled record_length 0 (record_bytes job) lent refl e), s)

  by_start :
      (j : Judgement) →
      opens_for camera width height nowhere ≡ j →
      Says (give_started (told_started (known_mark m (decided j Err (Ok job)))) lent)
  by_start (Err r) e = refusing r
  by_start (Ok _) e = by_mark (leb m 1)
    where
      by_mark : (b : Bool) → Says (give_started (told_started (cond b (Ok job) (Err ImpossibleRecord))) lent)
      by_mark true = beginning e
      by_mark false = refusing ImpossibleRecord

  by_asked : (t u : Bool) → Says (give_started (told_started (started (cond t (cond u (Ok camera) (Err WrongCount)) (Err UnknownModel)) width height m)) lent)
  unfolding fresh
  by_asked false u = refusing UnknownModel
  by_asked true false = refusing WrongCount
  by_asked true true = by_start (opens_for camera width height nowhere) refl

  pub fresh_zero : Says (fresh_bytes model params width height m lent)
  unfolding fresh_bytes read
  fresh_zero = by_asked (leb model last) (eqb (length params) (8 * count model))
