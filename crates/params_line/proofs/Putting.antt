-- A line put into a buffer field by field. Assumes nothing.
use mathlib.Core.Path.{◌≡◌, refl, sym, ap, ap₂, ◌∙◌}
use mathlib.Core.Bool.{Bool, true, false, not}
use mathlib.Core.List.{List, [], ◌∷◌, ◌++◌}
use Prim.Native.Nat.{ℕ, ◌+◌, ◌*◌, ◌^◌, ◌≤◌, ◌<◌}
use native.Mathlib.Numerals.{add-one}
use native.Mathlib.Omega.{arith}
use borrow.Author.Tests.{le-leb, lt-leb, leb-true, leb-false, not-true, not-false}
use lib.Dec.{leb}
use lib.ListN.{length, get_or, take, drop, replicate, length-append, drop_of_length-le}
use lib.Seq.{drop-cons}
use Rattle.io.specs.Digits.{last_digits, IsDigitCount}
use Rattle.decimal.specs.Text.{tab, newline}
use Rattle.decimal.proofs.Digits.{length_digits}
use Rattle.hexadecimal.proofs.Written.{hex_places}
use Rattle.put_text.specs.Placed.{Written, written, with_text, placed}
use Rattle.put_text.proofs.Putting.{is_placed, not_placed}
use Rattle.put_text.proofs.Whole.{as_long, two_texts}
use Rattle.put_text.proofs.Laws.{text_in_place, place_behind, both}
use Rattle.params_line.specs.Params.{fields, word_line}
use Rattle.params_line.proofs.Written.{length_fields}

-- ---- one field: 17 tabs, and the digits put behind the first

module _ (buffer after : List ℕ) (bits k end : ℕ) (short : bits < 16 ^ 16) (few : IsDigitCount 16 16 bits k) (d : take k buffer ≡ last_digits 16 k bits)
    (e : written after end ≡ placed (written (replicate 17 tab) 1) (take k buffer)) where
  spelled : take k buffer ≡ last_digits 16 16 bits
  spelled = d ∙ ap (λ (j : ℕ). last_digits 16 j bits) (hex_places 16 bits k short few)

  long : length (take k buffer) ≡ 16
  long = ap length spelled ∙ length_digits 16 16 bits

  room : 1 + length (take k buffer) ≤ length (replicate 17 tab)
  room = omega (arith, long)

  pub field_long : end ≡ 17
  field_long = (both e).0 ∙ place_behind (replicate 17 tab) 1 (take k buffer) room ∙ omega (arith, long)

  pub field_made : take end after ≡ tab ∷ last_digits 16 16 bits
  field_made =
      ap₂ take ((both e).0 ∙ place_behind (replicate 17 tab) 1 (take k buffer) room) (both e).1
      ∙ text_in_place (replicate 17 tab) 1 (take k buffer) room
      ∙ ap (λ (s : List ℕ). tab ∷ s) spelled

-- ---- all fields: what is left, put from here on, makes the whole

pub record Going (out₀ : List ℕ) (at : ℕ) (numbers out : List ℕ) (next i : ℕ) : Type 0 where
  pub within : i ≤ length numbers
  pub long : length out ≡ length out₀
  pub fits : next + length (fields (drop i numbers)) ≤ length out₀
  pub rest : with_text (written out next) (fields (drop i numbers)) ≡ with_text (written out₀ at) (fields numbers)

pub none_put : (out : List ℕ) (at : ℕ) (numbers : List ℕ) → at + length (fields numbers) ≤ length out → Going out at numbers out at 0
none_put out at numbers h = record { within = omega arith; long = refl; fits = h; rest = refl }

module _ (out₀ : List ℕ) (at : ℕ) (numbers out : List ℕ) (next i : ℕ) (p : Going out₀ at numbers out next i) where
  module _ (h : i < length numbers) where
    here : List ℕ
    here = tab ∷ last_digits 16 16 (get_or numbers i 0)

    more : fields (drop i numbers) ≡ here ++ fields (drop (i + 1) numbers)
    unfolding fields here
    more = rw (add-one, drop-cons numbers i 0) refl

    here_fits : next + length here ≤ length out
    here_fits = omega (arith, p.fits, p.long, ap length more, length-append here (fields (drop (i + 1) numbers)))

    pub one_put :
        (after : List ℕ) (r : ℕ) →
        length after ≡ length out →
        written after r ≡ placed (written out next) (tab ∷ last_digits 16 16 (get_or numbers i 0)) →
        Going out₀ at numbers after r (i + 1)
    unfolding here
    one_put after r l e =
        let f : written after r ≡ with_text (written out next) here = e ∙ is_placed out next here here_fits in
        let n : r ≡ next + length here = (both f).0 in
        record {
          within = omega arith;
          long = l ∙ p.long;
          fits = omega (arith, p.fits, n, ap length more, length-append here (fields (drop (i + 1) numbers)));
          rest =
              ap (λ (w : Written). with_text w (fields (drop (i + 1) numbers))) f
              ∙ two_texts out next here here_fits (fields (drop (i + 1) numbers))
              ∙ ap (with_text (written out next)) (sym more)
              ∙ p.rest;
        }

  pub all_put :
      (after : List ℕ) (r : ℕ) →
      length numbers ≤ i →
      written after r ≡ placed (written out next) (newline ∷ []) →
      written after r ≡ with_text (written out₀ at) (fields numbers)
  unfolding fields
  all_put after r h e =
      let none : drop i numbers ≡ [] = drop_of_length-le numbers h in
      let last : fields (drop i numbers) ≡ newline ∷ [] = ap fields none in
      e
      ∙ is_placed out next (newline ∷ []) (omega (arith, p.fits, p.long, ap length last))
      ∙ ap (with_text (written out next)) (sym last)
      ∙ p.rest

-- ---- the line

pub same_test : (a b c d : ℕ) → (a ≤ b → c ≤ d) → (b < a → d < c) → leb a b ≡ leb c d
same_test a b c d f g = by_value (leb a b) refl
  where
    by_value : (t : Bool) → leb a b ≡ t → leb a b ≡ leb c d
    by_value true e = e ∙ sym (le-leb c d (f (leb-true a b e)))
    by_value false e = e ∙ sym (lt-leb c d (g (leb-false a b e)))

pub line_long : (word numbers : List ℕ) → length (word_line word numbers) ≡ length word + (length numbers * 17 + 1)
unfolding word_line
line_long word numbers = length-append word (fields numbers) ∙ ap (λ (n : ℕ). length word + n) (length_fields numbers)

module _ (out : List ℕ) (at : ℕ) (word numbers : List ℕ) (t : Bool) (e : t ≡ leb (at + (length word + (length numbers * 17 + 1))) (length out)) where
  pub line_left : not t ≡ true → written out at ≡ placed (written out at) (word_line word numbers)
  line_left f =
      not_placed out at (word_line word numbers) (omega (arith, line_long word numbers, leb-false (at + (length word + (length numbers * 17 + 1))) (length out) (sym e ∙ not-true t f)))

  module _ (f : not t ≡ false) where
    whole_fits : at + (length word + (length numbers * 17 + 1)) ≤ length out
    whole_fits = leb-true (at + (length word + (length numbers * 17 + 1))) (length out) (sym e ∙ not-false t f)

    word_fits : at + length word ≤ length out
    word_fits = omega (arith, whole_fits)

    module _ (mid : List ℕ) (next : ℕ) (g : written mid next ≡ placed (written out at) word) where
      word_put : written mid next ≡ with_text (written out at) word
      word_put = g ∙ is_placed out at word word_fits

      pub fields_fit : next + length (fields numbers) ≤ length mid
      fields_fit = omega (arith, whole_fits, (both word_put).0, ap length (both word_put).1, as_long out at word word_fits, length_fields numbers)

      pub line_put : (after : List ℕ) (r : ℕ) → written after r ≡ with_text (written mid next) (fields numbers) → written after r ≡ placed (written out at) (word_line word numbers)
      unfolding word_line
      line_put after r h =
          h
          ∙ ap (λ (w : Written). with_text w (fields numbers)) word_put
          ∙ two_texts out at word word_fits (fields numbers)
          ∙ sym (is_placed out at (word ++ fields numbers) (omega (arith, whole_fits, length-append word (fields numbers), length_fields numbers)))
