-- What a caller may rely on, of the definitions of specs/ and of the contract of src/. Assumes nothing.
use mathlib.Core.Path.{◌≡◌, refl, sym, ap, ◌∙◌}
use Rattle.std.specs.declared.option.Option.{Option}
use Rattle.std.specs.declared.option.Option.TheVariants.{Some}
use mathlib.Core.List.{List, [], ◌∷◌}
use Prim.Native.Nat.{ℕ}
use lib.Ieee.{Float}
use lib.ListN.{length}
use Rattle.exact.specs.Determined.{DeterminedWith}
use Rattle.arctan.specs.Owed.{slope_number}
use Rattle.arctan.specs.Tangent.{tangent}
use Rattle.given.specs.Given.{given}
use Rattle.given.proofs.Laws.{both, Untouched, refused_kept, filled}
use Rattle.little_endian.specs.Bytes.{floats}
use Rattle.number_bytes.specs.Number.{slope_value, give_slope, tangent_bytes}
use Rattle.number_bytes.proofs.tangent.Reads as tangent-contract

-- Any two numbers that the contract of `tangent` permits to one call are equal, and so are any two buffers at the return.
pub determined : DeterminedWith tangent-contract.Post (λ κ s. s.1.0.now)
determined = λ κ a s s' r r' p q. both (p.0 ∙ sym q.0)

-- A refused tangent writes nothing: with every number but 0 the buffer comes back as it was.
pub tangent_untouched : (theta : Float) (lent : List ℕ) → Untouched (tangent_bytes theta lent) lent
unfolding tangent_bytes
tangent_untouched theta lent = refused_kept 8 _ _ lent

-- Where there is a tangent, 0 is returned, and 8 bytes are its own.
pub tangent_answered : (theta t : Float) (lent : List ℕ) → tangent theta ≡ Some t → length lent ≡ 8 → tangent_bytes theta lent ≡ given 0 (floats (t ∷ []))
unfolding tangent_bytes
tangent_answered theta t lent e f = ap (λ (s : Option Float). give_slope (slope_number s) (slope_value s) lent) e ∙ filled 8 0 (floats (t ∷ [])) lent refl f
