-- What a caller may rely on, of the definitions of specs/ and of the contracts of src/. Assumes nothing.
use mathlib.Core.Path.{◌≡◌, refl, sym, ap, subst, ◌∙◌}
use mathlib.Core.Bool.{Bool, true, false, cond, ◌&&◌, true≢false}
use mathlib.Core.List.{List, [], ◌∷◌, ◌++◌}
use Prim.Native.Nat.{ℕ, zero, suc, ◌+◌, ◌*◌, ◌^◌, ◌<◌}
use native.Mathlib.Nat.{zero-add, add-zero, pow-suc}
use native.Mathlib.Omega.{arith}
use borrow.Author.Tests.{eq-eqb, eqb-true}
use lib.Dec.{eqb}
use lib.ListN.{length, get_or, take}
use Rattle.exact.specs.Determined.{Determined, DeterminedWith}
use Rattle.io.specs.Digits.{last_digits}
use Rattle.std.proofs.Common.{Option, Some, None, is_some, unwrap_or}
use Rattle.std.specs.Option.{option_map}
use Rattle.hexadecimal.specs.Hex.{digit, pushed, read, spelled, after, field, fields, every_field}
use Rattle.hexadecimal.proofs.Written.{glyph_digit, read_digits, digits_read}
use Rattle.hexadecimal.proofs.Word.{after_other}
use Rattle.hexadecimal.proofs.digit.Reads as digit-contract
use Rattle.hexadecimal.proofs.spelled.Reads as spelled-contract
use Rattle.hexadecimal.proofs.after.Reads as after-contract
use Rattle.hexadecimal.proofs.field.Reads as field-contract
use Rattle.hexadecimal.proofs.fields.Reads as fields-contract

-- ---- reading and writing

-- The 16 digits that `io::hex` writes of a u64 are read as that number.
pub written_spelled : (n : ℕ) → n < 2 ^ 64 → spelled (last_digits 16 16 n) ≡ Some n
unfolding spelled
written_spelled n h = read_digits 16 n h

sixteen : (text : List ℕ) (n : ℕ) (t : Bool) → eqb (length text) 16 ≡ t → cond t (read (Some 0) text) None ≡ Some n → text ≡ last_digits 16 16 n
sixteen text n true e f = digits_read text 0 0 n f ∙ ap (λ (k : ℕ). last_digits 16 k n) (zero-add (length text) ∙ eqb-true (length text) 16 e)
sixteen text n false e f = cc

-- A text that is read as a number is what `io::hex` writes of it: there is one spelling for a number.
pub spelled_written : (text : List ℕ) (n : ℕ) → spelled text ≡ Some n → text ≡ last_digits 16 16 n
unfolding spelled
spelled_written text n e = sixteen text n (eqb (length text) 16) refl e

-- a number of at most k digits, or none
abbrev Short : ℕ → Option ℕ → Type 0
Short k None = Unit {0}
Short k (Some n) = n < 16 ^ k

-- a byte makes a number at most one digit longer
one_more : (k n b : ℕ) (o : Option ℕ) → digit b ≡ o → n < 16 ^ k → Short (suc k) (option_map (λ d. n * 16 + d) o)
one_more k n b None e h = tt
one_more k n b (Some d) e h = omega (arith, (glyph_digit b d e).0, pow-suc 16 k)

pushed_short : (k : ℕ) (number : Option ℕ) (b : ℕ) → Short k number → Short (suc k) (pushed number b)
unfolding pushed
pushed_short k None b h = tt
pushed_short k (Some n) b h = one_more k n b (digit b) refl h

read_short : (text : List ℕ) (k j : ℕ) (number : Option ℕ) → j ≡ length text + k → Short k number → Short j (read number text)
unfolding read
read_short [] k j number e h =
    let i : k ≡ j = omega arith in
    subst (λ (i : ℕ). Short i number) i h
read_short (b ∷ text) k j number e h = read_short text (suc k) j (pushed number b) (omega arith) (pushed_short k number b h)

of_sixteen : (text : List ℕ) (n : ℕ) (t : Bool) → eqb (length text) 16 ≡ t → cond t (read (Some 0) text) None ≡ Some n → n < 2 ^ 64
of_sixteen text n true e f =
    let l = eqb-true (length text) 16 e in
    subst (Short 16) f (read_short text 0 16 (Some 0) (omega arith) (omega arith))
of_sixteen text n false e f = cc

-- A number that is read is a u64.
pub spelled_short : (text : List ℕ) (n : ℕ) → spelled text ≡ Some n → n < 2 ^ 64
unfolding spelled
spelled_short text n e = of_sixteen text n (eqb (length text) 16) refl e

-- Where a line starts with the word, the number is what the rest of it spells.
pub after_rest : (word rest : List ℕ) → after word (word ++ rest) ≡ spelled rest
unfolding after
after_rest [] rest = refl
after_rest (w ∷ word) rest = simp (eq-eqb w w refl) (after_rest word rest)

-- Where it does not, there is none.
pub after_none : (word line : List ℕ) → (take (length word) line ≡ word → ⊥) → after word line ≡ None
after_none word line ne = sym (after_other word line ne)

-- ---- the fields of a line

-- Each place gets the number of the field of its index, counted from the first that is read.
pub fields_place : (line : List ℕ) (j n k : ℕ) → k < n → get_or (fields line j n) k 0 ≡ unwrap_or (field line (j + k)) 0
unfolding fields
fields_place line j zero k h = absurd (omega arith)
fields_place line j (suc n) zero h = ap (λ (i : ℕ). unwrap_or (field line i) 0) (sym (add-zero j))
fields_place line j (suc n) (suc k) h =
    let i : suc j + k ≡ j + suc k = omega arith in
    fields_place line (suc j) n k (omega arith) ∙ ap (λ (i : ℕ). unwrap_or (field line i) 0) i

both_true : (one rest : Bool) → (one && rest) ≡ true → (one ≡ true) × (rest ≡ true)
both_true true rest e = (refl, e)
both_true false rest e = absurd (true≢false (sym e))

-- Where all are there, so is each.
pub fields_there : (line : List ℕ) (j n k : ℕ) → every_field line j n ≡ true → k < n → is_some (field line (j + k)) ≡ true
unfolding every_field
fields_there line j zero k e h = absurd (omega arith)
fields_there line j (suc n) zero e h =
    ap (λ (i : ℕ). is_some (field line i)) (add-zero j) ∙ (both_true (is_some (field line j)) (every_field line (suc j) n) e).0
fields_there line j (suc n) (suc k) e h =
    let i : j + suc k ≡ suc j + k = omega arith in
    ap (λ (i : ℕ). is_some (field line i)) i
    ∙ fields_there line (suc j) n k (both_true (is_some (field line j)) (every_field line (suc j) n) e).1 (omega arith)

-- ---- each contract permits one answer

-- Any two answers to one call that the contract of `digit` permits are equal; and so for `spelled`, `after` and `field`.
pub digit_determined : Determined digit-contract.Post
digit_determined κ a s s' r r' p q = p ∙ sym q

pub spelled_determined : Determined spelled-contract.Post
spelled_determined κ a s s' r r' p q = p ∙ sym q

pub after_determined : Determined after-contract.Post
after_determined κ a s s' r r' p q = p ∙ sym q

pub field_determined : Determined field-contract.Post
field_determined κ a s s' r r' p q = p ∙ sym q

-- The same of `fields`, with what the places then hold.
pub fields_determined : DeterminedWith fields-contract.Post (λ κ s. s.1.0.now)
fields_determined κ a s s' r r' p q = (p.0 ∙ sym q.0, p.1 ∙ sym q.1)
