-- Work done unit by unit, in turns, with no word of what a unit is: only a state, and what the next unit makes of it.
-- Definitions only.
use Rattle.std.specs.Prelude.{Bool, true, false, List, [], ◌∷◌, ℕ, zero, suc, ◌+◌}

-- The next unit is not there any more; or it refuses, with a number; or it is done and leaves a state.
pub data Next (S : Type 0) : Type 0 where
  over : Next S
  refuses : ℕ → Next S
  does : S → Next S

-- what a turn says at its end
pub data Said : Type 0 where
  finished : Said
  refused : ℕ → Said
  running : Said

pub record Turn (S : Type 0) : Type 0 where
  pub state : S
  pub said : Said

-- ---- a turn: units are done until the allowance is spent, no unit is left, or one refuses. A refusal is met only
-- while there is an allowance for it.

-- how it ends before such a next unit, by whether its allowance reaches that unit
abbrev pub ended : {S : Type 0} → Next S → Bool → Said
ended over reached = finished
ended (refuses r) true = refused r
ended (refuses r) false = running
ended (does t) reached = running

abbrev pub spent : {S : Type 0} → Next S → S → (S → Turn S) → Turn S
spent over s onward = record { state = s; said = finished }
spent (refuses r) s onward = record { state = s; said = refused r }
spent (does t) s onward = onward t

unfoldable pub turn : {S : Type 0} → (S → Next S) → ℕ → S → Turn S
turn next zero s = record { state = s; said = ended (next s) false }
turn next (suc n) s = spent (next s) s (λ t. turn next n t)

-- a turn but for whether a unit is left: it was refused, or it ran on
abbrev pub halted : Said → Said
halted finished = running
halted (refused r) = refused r
halted running = running

abbrev pub met : {S : Type 0} → Turn S → Turn S
met t = record { state = t.state; said = halted t.said }

-- the turns of a list of allowances, one after the other; and all they may do
unfoldable pub turns : {S : Type 0} → (S → Next S) → List ℕ → S → S
turns next [] s = s
turns next (a ∷ rest) s = turns next rest (turn next a s).state

unfoldable pub total : List ℕ → ℕ
total [] = 0
total (a ∷ rest) = a + total rest

-- ---- how many units an allowance does

abbrev pub counted : {S : Type 0} → Next S → (S → ℕ) → ℕ
counted over onward = 0
counted (refuses r) onward = 0
counted (does t) onward = suc (onward t)

unfoldable pub units : {S : Type 0} → (S → Next S) → ℕ → S → ℕ
units next zero s = 0
units next (suc n) s = counted (next s) (λ t. units next n t)

-- what the units that an allowance does cost together, each by the state that it starts from
abbrev pub added : {S : Type 0} → Next S → ℕ → (S → ℕ) → ℕ
added over cost onward = 0
added (refuses r) cost onward = 0
added (does t) cost onward = cost + onward t

unfoldable pub summed : {S : Type 0} → (S → Next S) → (S → ℕ) → ℕ → S → ℕ
summed next cost zero s = 0
summed next cost (suc n) s = added (next s) (cost s) (λ t. summed next cost n t)
