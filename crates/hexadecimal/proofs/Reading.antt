-- One byte after the other: what the code does in a turn is what the definition says of the rest of the text. Assumes nothing.
use mathlib.Core.Path.{◌≡◌, refl, sym, ap, ◌∙◌}
use mathlib.Core.List.{List}
use Prim.Native.Nat.{ℕ, suc, ◌+◌, ◌*◌, ◌^◌, ◌≤◌, ◌<◌}
use native.Mathlib.Nat.{pow-suc, pow-le-pow_right}
use native.Mathlib.Numerals.{add-one}
use native.Mathlib.Omega.{arith}
use borrow.Author.Tests.{eq-eqb, ne_eqb}
use lib.ListN.{length, get_or, drop, drop_of_length-le}
use lib.Seq.{drop-cons}
use Rattle.std.proofs.Common.{Option, Some, None}
use Rattle.std.specs.Option.{option_map}
use Rattle.hexadecimal.specs.Hex.{digit, pushed, read, spelled}
use Rattle.hexadecimal.proofs.Written.{glyph_digit, read_none}

-- ---- a text of 16 bytes, of which i are passed and are digits

-- the number so far has at most i digits, and with the bytes that are left it spells what the text does
pub record Passed (text : List ℕ) (number i : ℕ) : Type 0 where
  pub sixteen : length text ≡ 16
  pub short : number < 16 ^ i
  pub rest : read (Some number) (drop i text) ≡ read (Some 0) text

pub none_passed : (text : List ℕ) → length text ≡ 16 → Passed text 0 0
none_passed text e = record { sixteen = e; short = omega arith; rest = refl }

-- there is room for one digit more
pub room : (text : List ℕ) (number i : ℕ) → Passed text number i → i < length text → number < 16 ^ 15
room text number i p h =
    let l : i ≤ 15 = omega arith in
    let m : 16 ^ i ≤ 16 ^ 15 = pow-le-pow_right (omega arith) l in
    omega arith

-- one byte more
module _ (text : List ℕ) (number i : ℕ) (p : Passed text number i) (h : i < length text) where
  next : read (pushed (Some number) (get_or text i 0)) (drop (suc i) text) ≡ read (Some 0) text
  unfolding read
  next = sym (ap (read (Some number)) (drop-cons text i 0 h)) ∙ p.rest

  pub one_passed : (d : ℕ) → digit (get_or text i 0) ≡ Some d → Passed text (number * 16 + d) (i + 1)
  unfolding pushed
  one_passed d f =
      let g = glyph_digit (get_or text i 0) d f in
      record {
        sixteen = p.sixteen;
        short = rw add-one (omega (arith, pow-suc 16 i, p.short));
        rest = rw add-one (ap (λ (o : Option ℕ). read (option_map (λ e. number * 16 + e) o) (drop (suc i) text)) (sym f) ∙ next);
      }

  pub not_passed : digit (get_or text i 0) ≡ None → None ≡ spelled text
  unfolding pushed spelled
  not_passed f =
      simp (eq-eqb (length text) 16 p.sixteen)
      (sym (read_none (drop (suc i) text)) ∙ ap (λ (o : Option ℕ). read (option_map (λ e. number * 16 + e) o) (drop (suc i) text)) (sym f) ∙ next)

pub all_passed : (text : List ℕ) (number i : ℕ) → Passed text number i → length text ≤ i → Some number ≡ spelled text
unfolding spelled read
all_passed text number i p h =
    simp (eq-eqb (length text) 16 p.sixteen) (sym (ap (read (Some number)) (drop_of_length-le text h)) ∙ p.rest)

pub no_number : (text : List ℕ) → (length text ≡ 16 → ⊥) → None ≡ spelled text
unfolding spelled
no_number text h = simp (ne_eqb (length text) 16 h)
