-- What a caller may rely on, of the definitions of specs/ and of the contracts of src/. Assumes nothing.
use Rattle.std.proofs.Common.{sym, ◌∙◌}
use Rattle.exact.specs.Determined.{Determined}
use Rattle.region.proofs.float.Reads as float-contract
use Rattle.region.proofs.sized.Reads as sized-contract
use Rattle.region.proofs.finite_region.Reads as finite-region-contract
use Rattle.region.proofs.increments_of.Reads as increments-contract
use Rattle.region.proofs.wrong.Reads as wrong-contract

-- Any two answers to one call that the contract of `float` permits are equal; and so for the four other functions.
pub float_determined : Determined float-contract.Post
float_determined κ a s s' r r' p q = p ∙ sym q

pub sized_determined : Determined sized-contract.Post
sized_determined κ a s s' r r' p q = p ∙ sym q

pub finite_region_determined : Determined finite-region-contract.Post
finite_region_determined κ a s s' r r' p q = p ∙ sym q

pub increments_determined : Determined increments-contract.Post
increments_determined κ a s s' r r' p q = p ∙ sym q

pub wrong_determined : Determined wrong-contract.Post
wrong_determined κ a s s' r r' p q = p ∙ sym q
