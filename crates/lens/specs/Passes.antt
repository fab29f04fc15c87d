-- A search by passes, as Newton's: at most so many, and none after one that ended it. Definitions only.
use Rattle.std.specs.Prelude.{Bool, cond, ℕ, zero, suc}

-- `pass` makes a state of the one before; `ended` says of what it made that no other follows
unfoldable pub passes : {S : Type 0} → (S → S) → (S → Bool) → ℕ → S → S
passes pass ended zero s = s
passes pass ended (suc left) s = let t = pass s in cond (ended t) t (passes pass ended left t)
