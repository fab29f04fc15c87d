-- Whether a call is taken up, and what becomes of it then. Definitions only.
use Rattle.std.specs.Prelude.{ℕ, Result, Ok, Err}
use Rattle.lens.specs.Refusal.{number}
use Rattle.lens.specs.declared.Refusal.{Refusal}

-- nothing where the call is taken, or why it is refused
abbrev pub Judgement : Type 0
Judgement = Result (Unit {0}) Refusal

-- the judgement of a call that is taken
abbrev pub accepted : Judgement
accepted = Ok tt

-- its number: 0 for a call that is taken
abbrev pub verdict : Judgement → ℕ
verdict (Ok _) = 0
verdict (Err refusal) = number refusal

-- a call that is refused so, and one that is taken
abbrev pub decided : {A : Type 0} → Judgement → (Refusal → A) → A → A
decided (Err refusal) refuse answer = refuse refusal
decided (Ok _) refuse answer = answer
