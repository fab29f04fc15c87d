-- The bytes of a line passed one by one: what the code does in a turn is what the definition says of the rest of the
-- line. Assumes nothing.
use mathlib.Core.Path.{◌≡◌, refl, sym, ap, ◌∙◌}
use mathlib.Core.List.{List}
use Prim.Native.Nat.{ℕ, suc, ◌+◌, ◌*◌, ◌^◌, ◌≤◌, ◌<◌}
use native.Mathlib.Numerals.{add-one}
use borrow.Author.Tests.{lt-ltb, le-ltb}
use lib.ListN.{length, get_or, drop, drop_of_length-le}
use lib.Seq.{drop-cons}
use Rattle.std.proofs.Common.{Option, Some, None}
use Rattle.std.specs.Option.{option_map_or}
use Rattle.hexadecimal.specs.Hex.{digit}
use Rattle.listing_lines.specs.Numeral.{pushed, left_after, number_after, numeral}

-- ---- one byte

module _ (base n b : ℕ) where
  pub pushed_room : (d : ℕ) → digit b ≡ Some d → n < 2 ^ 60 → n * base + d ≡ pushed base n b
  unfolding pushed
  pushed_room d e k = simp (e, lt-ltb n (2 ^ 60) k)

  pub pushed_none : digit b ≡ None → n ≡ pushed base n b
  unfolding pushed
  pushed_none e = simp e

  pub pushed_full : 2 ^ 60 ≤ n → n ≡ pushed base n b
  unfolding pushed
  pushed_full h = simp (le-ltb n (2 ^ 60) h) (either (digit b))
    where
      either : (o : Option ℕ) → n ≡ option_map_or (λ d. n) o n
      either None = refl
      either (Some d) = refl

-- ---- all bytes

-- with the bytes that are left the number is what the line has
pub record Passed (base field : ℕ) (text : List ℕ) (left n i : ℕ) : Type 0 where
  pub rest : numeral base left n (drop i text) ≡ numeral base field 0 text

pub none_passed : (base field : ℕ) (text : List ℕ) → Passed base field text field 0 0
none_passed base field text = record { rest = refl }

module _ (base field : ℕ) (text : List ℕ) (left n i : ℕ) where
  next : i < length text → numeral base left n (drop i text) ≡ numeral base (left_after left (get_or text i 0)) (number_after base left n (get_or text i 0)) (drop (suc i) text)
  unfolding numeral
  next h = rw (drop-cons text i 0)

  pub one_passed :
      (left' n' : ℕ) →
      Passed base field text left n i →
      i < length text →
      n' ≡ number_after base left n (get_or text i 0) →
      left' ≡ left_after left (get_or text i 0) →
      Passed base field text left' n' (i + 1)
  one_passed left' n' p h e f = rw (e, f, add-one) (record { rest = sym (next h) ∙ p.rest })

  pub all_passed : Passed base field text left n i → length text ≤ i → n ≡ numeral base field 0 text
  unfolding numeral
  all_passed p h = sym (ap (numeral base left n) (drop_of_length-le text h)) ∙ p.rest
