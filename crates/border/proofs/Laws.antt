-- What a caller may rely on, of the definitions of specs/ and of the contracts of src/. Assumes nothing.
use mathlib.Core.Path.{◌≡◌, sym, ◌∙◌}
use Prim.Native.Nat.{ℕ, ◌<◌}
use lib.ListN.{length}
use Rattle.exact.specs.Determined.{Determined}
use Rattle.border.specs.Border.{border, samples}
use Rattle.border.proofs.Sides as sides
use Rattle.border.proofs.border_pixel.Reads as border-pixel-contract
use Rattle.border.proofs.edges_after.Reads as edges-after-contract
use Rattle.border.proofs.doubled.Reads as doubled-contract

-- The border has 2w + 2h samples.
pub border_length : (width height : ℕ) → 0 < height → length (border width height) ≡ samples width height
border_length = sides.border_length

-- Any two answers to one call that the contract of `border_pixel` permits are equal; and so for `edges_after`
pub border_pixel_determined : Determined border-pixel-contract.Post
border_pixel_determined κ a s s' r r' p q = p ∙ sym q

pub edges_after_determined : Determined edges-after-contract.Post
edges_after_determined κ a s s' r r' p q = p ∙ sym q

-- and `doubled`.
pub doubled_determined : Determined doubled-contract.Post
doubled_determined κ a s s' r r' p q = p ∙ sym q
