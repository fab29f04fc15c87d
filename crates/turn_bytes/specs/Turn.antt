-- One turn of a table over bytes: what is handed in, and what comes back. Definitions only.
--
-- The answer has 48 bytes, six numbers of eight:
--
--     0  status: 0 running, 1 finished, 2 refused      24  updates
--     8  units done                                    32  border samples done that didn't settle
--    16  units in all                                  40  the position of the first of them, from 1; 0 for none
use Rattle.std.specs.Prelude.{◌≡◌, Bool, cond, List, [], ◌∷◌, ◌++◌, ℕ, eqb, length, Result, Ok, Err}
use Rattle.lens.specs.declared.Refusal.{Refusal}
use Rattle.lens.specs.Judgement.{verdict}
use Rattle.lens.specs.Refusal.{number}
use Rattle.border.specs.Border.{all_units}
use Rattle.turns.specs.Turns.{Said, finished, refused, running}
use Rattle.plans.specs.Calls.{said_number}
use Rattle.plans.specs.declared.Progress.{Progress}
use Rattle.table_plans.specs.Tables.{Kind}
use Rattle.job.specs.Job.{admitted}
use Rattle.job.specs.declared.Job.{Job}
use Rattle.distortion_table.specs.Answer.{Answer, turn_of}
use Rattle.little_endian.specs.Bytes.{bytes}
use Rattle.given.specs.Given.{code}
use Rattle.job_bytes.specs.Bytes.{record_bytes, record_read, job_at}
use Rattle.job_bytes.specs.Check.{whole}

-- what a call gives back: its number, and what it was lent
pub record Handed (X : Type 0) : Type 0 where
  pub code : ℕ
  pub job : List ℕ
  pub cells : List X
  pub answer : List ℕ

abbrev pub handed : {X : Type 0} → ℕ → List ℕ → List X → List ℕ → Handed X
handed code job cells answer = record { code = code; job = job; cells = cells; answer = answer }

-- ---- before any unit

-- 13 for bytes that aren't whole, where nothing else is wrong
abbrev pub checked : Bool → ℕ → ℕ
checked whole refusal = cond (eqb refusal 0) (cond whole 0 13) refusal

-- the record's own refusal: 7 and 1, then 4, 5, 6, 7, 13, and 13 for bytes that aren't whole; 0 if there is none.
-- `places` is the length of the table
abbrev pub own : Result Job Refusal → Bool → ℕ → ℕ
own (Ok job) whole places = checked whole (verdict (admitted job places))
own (Err refusal) whole places = number refusal

-- how many bytes an answer has
abbrev pub answer_length : ℕ
answer_length = 48

-- the lower of the record's own refusal and 7, which is for an answer of another length
abbrev pub before_units : {X : Type 0} → Result Job Refusal → Bool → List X → List ℕ → ℕ
before_units found whole cells lent = code (own found whole (length cells)) (eqb (length lent) answer_length)

-- ---- what a turn writes

abbrev pub status_number : Said → ℕ
status_number running = 0
status_number finished = 1
status_number (refused n) = 2

-- numbers one behind the other, eight bytes each
unfoldable pub words : List ℕ → List ℕ
words [] = []
words (w ∷ ws) = bytes 8 w ++ words ws

abbrev pub report : ℕ → ℕ → Progress → List ℕ
report status all at = words (status ∷ at.done ∷ all ∷ at.updates ∷ at.unsettled ∷ at.first ∷ [])

abbrev pub answer_bytes : Said → Job → List ℕ
answer_bytes said job = report (status_number said) (all_units job.width job.height) job.at

-- with the number of the unit that refused; 0 if none did
abbrev pub written : {X : Type 0} → Answer X → Handed X
written a = handed (said_number a.said) (record_bytes a.job) a.cells (answer_bytes a.said a.job)

-- ---- a call

-- a call that is refused before any unit writes nothing
abbrev pub taken_or_not : {X : Type 0} → ℕ → List ℕ → List X → List ℕ → Answer X → Handed X
taken_or_not number bs cells lent answer = cond (eqb number 0) (written answer) (handed number bs cells lent)

-- of a table of some kind of cell
unfoldable pub turn_bytes : {X : Type 0} → Kind X → List ℕ → List X → ℕ → List ℕ → Handed X
turn_bytes kind bs cells allowance lent =
    taken_or_not (before_units (record_read bs) (whole bs) cells lent) bs cells lent
    (turn_of kind (job_at bs) cells allowance)

-- the record that bytes hold, to a table of so many places, or its own refusal
abbrev pub Takes : List ℕ → ℕ → Result Job Refusal → Type 0
Takes bs places (Err refusal) = own (record_read bs) (whole bs) places ≡ number refusal
Takes bs places (Ok job) = (own (record_read bs) (whole bs) places ≡ 0) × (record_read bs ≡ Ok job)

-- how it starts, whatever the table holds, with a table of so many places and an answer of so many bytes: refused with
-- a number, or with the record that the bytes hold
abbrev pub Starts : List ℕ → ℕ → ℕ → Result Job ℕ → Type 0
Starts bs places room (Err n) =
    (n ≡ code (own (record_read bs) (whole bs) places) (eqb room answer_length)) × (n ≡ 0 → ⊥)
Starts bs places room (Ok job) =
    (code (own (record_read bs) (whole bs) places) (eqb room answer_length) ≡ 0) × (record_read bs ≡ Ok job)
