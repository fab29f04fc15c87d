-- What a caller may rely on, of the contracts of src/. Assumes nothing.
use mathlib.Core.Path.{sym, ◌∙◌}
use Rattle.exact.specs.Determined.{Determined}
use Rattle.parts.proofs.held.Reads as held-contract

-- Any two answers to one call that the contract of `held` permits are equal. What is read from outside, none can fix.
pub held_determined : Determined held-contract.Post
held_determined κ a s s' r r' p q = p.0 ∙ sym q.0
