-- What a caller may rely on, of the contracts of src/. Assumes nothing.
use mathlib.Core.Path.{refl, sym, ◌∙◌}
use Rattle.exact.specs.Determined.{Determined, DeterminedWith}
use Rattle.region_bytes.proofs.box_at.Reads as box-at-contract
use Rattle.region_bytes.proofs.put_box.Reads as put-box-contract

-- Any two boxes that the contract of `box_at` permits to one call are equal, and any two buffers after a call of `put_box`.
pub determined : Determined box-at-contract.Post × DeterminedWith put-box-contract.Post (λ κ s. s.1.1.0.now)
determined = (λ κ a s s' r r' p q. p ∙ sym q, λ κ a s s' r r' p q. (refl, p ∙ sym q))
