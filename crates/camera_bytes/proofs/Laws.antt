-- What a caller may rely on, of the definitions of specs/ and of the contracts of src/. Assumes nothing.
use mathlib.Core.Path.{◌≡◌, sym, ◌∙◌}
use Rattle.std.specs.declared.result.Result.TheVariants.{Ok, Err}
use mathlib.Core.Bool.{true, false}
use mathlib.Core.List.{List}
use Prim.Native.Nat.{ℕ, ◌%◌, ◌≤◌}
use lib.Ieee.Scale.{finite}
use Rattle.exact.specs.Determined.{Determined}
use Rattle.exact.specs.F64.{f64}
use Rattle.lens.specs.Judgement.{decided}
use Rattle.camera_bytes.specs.Reading.{camera_of, Plain, judged, read}
use Rattle.camera_bytes.proofs.Counted.{read_judged}
use Rattle.camera_bytes.proofs.Patterns.{plain_finite, odd_not}
use Rattle.camera_bytes.proofs.read_finite.Reads as read-finite-contract
use Rattle.camera_bytes.proofs.judged.Reads as judged-contract
use Rattle.camera_bytes.proofs.camera_of.Reads as camera-of-contract
use Rattle.camera_bytes.proofs.read.Reads as read-contract

-- Any two answers to one call that the contract of `camera_of` permits are equal,
pub camera_of_determined : Determined camera-of-contract.Post
camera_of_determined κ a s s' r r' p q = p ∙ sym q

-- and so for `read`,
pub read_determined : Determined read-contract.Post
read_determined κ a s s' r r' p q = p ∙ sym q

-- for `read_finite` and for `judged`.
pub read_finite_determined : Determined read-finite-contract.Post
read_finite_determined κ a s s' r r' p q = p ∙ sym q

pub judged_determined : Determined judged-contract.Post
judged_determined κ a s s' r r' p q = p ∙ sym q

-- What is asked for is the camera, or the refusal that the model's number and the count of bytes give.
pub read_is : (model : ℕ) (p : List ℕ) → read model p ≡ decided (judged model p) Err (Ok (camera_of model p))
read_is model p = read_judged model p

-- A bit pattern is a finite number's exactly if it is below the infinity's, its sign aside.
pub finite_exactly :
    (bits : ℕ) →
    (Plain bits → finite (f64 bits) ≡ true) × (0x7ff0_0000_0000_0000 ≤ bits % 0x8000_0000_0000_0000 → finite (f64 bits) ≡ false)
finite_exactly bits = (plain_finite bits, odd_not bits)
