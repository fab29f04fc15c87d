-- What a caller of turns over bytes holds from call to call, and what a call said; and the numbers that it can have.
-- Definitions only.
use Rattle.std.specs.Prelude.{◌≡◌, true, cond, List, [], ◌∷◌, ℕ, eqb}
use Rattle.turns.specs.Turns.{Said, finished, refused, running}
use Rattle.plans.specs.Plan.{Plan, State}
use Rattle.table_plans.specs.Tables.{Kind, one_of}
use Rattle.distortion_table.specs.Answer.{plan_of, state_of}
use Rattle.little_endian.specs.Bytes.{word}
use Rattle.job_bytes.specs.Bytes.{job_at}
use Rattle.turn_bytes.specs.Turn.{Handed}

-- the record's bytes and the table; the answer's buffer may be another one each time
pub record HeldBytes (X : Type 0) : Type 0 where
  pub job : List ℕ
  pub cells : List X

-- the plan and the state, by the record that is read out of the bytes
abbrev pub bytes_plan : {X : Type 0} → Kind X → HeldBytes X → Plan X
bytes_plan kind held = plan_of kind (job_at held.job)

abbrev pub bytes_state : {X : Type 0} → HeldBytes X → State X
bytes_state held = state_of (job_at held.job) held.cells

-- ---- of what a call gave back

abbrev pub left : {X : Type 0} → Handed X → HeldBytes X
left given = record { job = given.job; cells = given.cells }

-- what it said: by the number, and where that is 0 by the answer's first word
abbrev pub bytes_said : {X : Type 0} → Handed X → Said
bytes_said given =
    cond (eqb given.code 0) (cond (eqb (word given.answer 0) 1) finished running) (refused given.code)

-- ---- numbers

-- what refuses a call before any unit
abbrev pub call_numbers : List ℕ
call_numbers = 1 ∷ 4 ∷ 5 ∷ 6 ∷ 7 ∷ 13 ∷ []

-- a call that does not take the bytes that it is lent: one of these numbers, and nothing is written
pub record NotTaken {X : Type 0} (bs : List ℕ) (table : List X) (lent : List ℕ) (given : Handed X) : Type 0 where
  pub number : one_of given.code call_numbers ≡ true
  pub job : given.job ≡ bs
  pub cells : given.cells ≡ table
  pub answer : given.answer ≡ lent
