-- What a caller may rely on, of the definitions of specs/ and of the contracts of src/. Assumes nothing.
use mathlib.Core.Path.{◌≡◌, sym, ap, subst, ◌∙◌}
use mathlib.Core.Bool.{Bool}
use mathlib.Core.List.{List}
use Prim.Native.Nat.{ℕ, ◌≤◌}
use Rattle.exact.specs.Determined.{Determined}
use Rattle.decimal.specs.Decimal.{decimal, said, number_in}
use Rattle.std.proofs.Common.{Some}
use Rattle.decimal.proofs.Digits.{decimal_worth}
use Rattle.decimal.proofs.Numbers.{decimal_number, number_decimal, number_range, number_is}
use Rattle.decimal.proofs.digit.Reads as digit-contract
use Rattle.decimal.proofs.number_in.Reads as number-in-contract
use Rattle.decimal.proofs.place.Reads as place-contract

-- ---- reading and writing

-- A number of 1 to 9999 that is written is read as that number.
pub written_number : (n : ℕ) → 1 ≤ n → n ≤ 9999 → number_in (decimal n) ≡ Some n
written_number n some few = ap (λ (t : Bool). said t (decimal n)) (decimal_number n some few) ∙ ap Some (decimal_worth n)

-- A field that is read as a number is what is written of it, and the number is one of these.
pub number_written : (field : List ℕ) (n : ℕ) → number_in field ≡ Some n → (field ≡ decimal n) × (1 ≤ n) × (n ≤ 9999)
number_written field n e =
    let p = number_is field n e in
    let r = number_range field p.0 in
    (number_decimal field p.0 ∙ ap decimal p.1, subst (λ (k : ℕ). 1 ≤ k) p.1 r.0, subst (λ (k : ℕ). k ≤ 9999) p.1 r.1)

-- ---- each contract permits one answer

-- Any two answers to one call that the contract of `digit` permits are equal; and so for `number_in` and `place`.
pub digit_determined : Determined digit-contract.Post
digit_determined κ a s s' r r' p q = p ∙ sym q

pub number_in_determined : Determined number-in-contract.Post
number_in_determined κ a s s' r r' p q = p ∙ sym q

pub place_determined : Determined place-contract.Post
place_determined κ a s s' r r' p q = p ∙ sym q
