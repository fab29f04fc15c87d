-- How long an answer can be. Assumes nothing.
use mathlib.Core.Path.{◌≡◌, refl, sym, ap, ◌∙◌}
use mathlib.Core.Bool.{Bool, true, false, not, cond, ◌||◌}
use mathlib.Core.List.{List}
use Prim.Native.Nat.{ℕ, ◌≤◌, ◌<◌}
use native.Mathlib.Omega.{arith}
use borrow.Author.Tests.{lt-ltb, le-ltb, ltb-false}
use lib.Dec.{eqb, ltb}
use lib.ListN.{length, length-append}
use lib.Seq.{length-take-le}
use Rattle.decimal.specs.Text.{all}
use Rattle.decimal.specs.Decimal.{decimal, places}
use Rattle.lens.specs.Rows.{first}
use Rattle.listing_lines.specs.Line.{line, refused_line}
use Rattle.params_line.specs.Params.{params_word, word_line}
use Rattle.params_line.proofs.Putting.{line_long}
use Rattle.put_text.specs.Placed.{written, with_text, placed}
use Rattle.put_text.proofs.Putting.{is_placed}
use Rattle.put_text.proofs.Whole.{as_long}
use Rattle.put_text.proofs.Laws.{both}
use Rattle.io.specs.Counts.{IsPrefixLen}
use Rattle.opencv.specs.Text.{Lines, ours, theirs, text_of, matrix_word, coeffs_word, is_lines, lines_of}
use Rattle.opencv.specs.declared.Twelve.{Twelve}
use Rattle.opencv.specs.Moved.{finite_bits, zero_bits, of_ours, of_theirs, our_params, their_matrix, their_coeffs, plain, number_rows, rows, text_rows, other, by_rows, answered, most, converted}

-- ---- the line of a refusal

abbrev Told : ℕ → Type 0
Told n = length (refused_line n) ≤ most

one_of : (t : Bool) (x y : ℕ) → Told x → Told y → Told (cond t x y)
one_of true x y p q = p
one_of false x y p q = q

last_told : (a b : Bool) → Told (cond a 4 (cond b 5 0))
unfolding refused_line line decimal places
last_told a b = one_of a 4 (cond b 5 0) (omega arith) (one_of b 5 0 (omega arith) (omega arith))

numbers_told : (n : Twelve) → Told (first (number_rows n))
unfolding number_rows
numbers_told n = last_told (not (all finite_bits (our_params n))) (zero_bits n.fx || zero_bits n.fy)

lines_told : (lines : Lines) → Told (first (rows lines))
unfolding refused_line line decimal places
lines_told (ours p) = one_of (not (eqb (length p) 12)) 3 (first (number_rows (of_ours p))) (omega arith) (numbers_told (of_ours p))
lines_told (theirs m c) = one_of (not (plain m c)) 17 (first (number_rows (of_theirs m c))) (omega arith) (numbers_told (of_theirs m c))

all_told : (text : List ℕ) → Told (first (text_rows text))
unfolding refused_line line decimal places
all_told text = one_of (not (is_lines text)) 14 (first (rows (lines_of text))) (omega arith) (lines_told (lines_of text))

-- ---- a text

other_short : (lines : Lines) → length (text_of (other lines)) ≤ most
unfolding our_params their_matrix their_coeffs
other_short (ours p) =
    let n = of_ours p in
    let m = line_long matrix_word (their_matrix n) in
    let c = line_long coeffs_word (their_coeffs n) in
    omega (arith, m, c, length-append (word_line matrix_word (their_matrix n)) (word_line coeffs_word (their_coeffs n)))
other_short (theirs m c) = omega (arith, line_long params_word (our_params (of_theirs m c)))

by_number : (n : ℕ) (text : List ℕ) → length text ≤ most → Told n → length (by_rows n text) ≤ most
by_number n text p q = go (eqb n 0)
  where
    go : (t : Bool) → length (cond t text (refused_line n)) ≤ most
    go true = p
    go false = q

pub answered_short : (text : List ℕ) → length (answered text) ≤ most
unfolding answered
answered_short text = by_number (first (text_rows text)) (text_of (other (lines_of text))) (other_short (lines_of text)) (all_told text)

-- ---- in a buffer

module _ (text out : List ℕ) where
  pub no_room : length out < most → written out 0 ≡ converted text out
  no_room h = sym (ap (λ (t : Bool). cond t (written out 0) (with_text (written out 0) (answered text))) (lt-ltb (length out) most h))

  pub all_room : most ≤ length out → placed (written out 0) (answered text) ≡ converted text out
  all_room h =
      is_placed out 0 (answered text) (omega (arith, answered_short text))
      ∙ sym (ap (λ (t : Bool). cond t (written out 0) (with_text (written out 0) (answered text))) (le-ltb (length out) most h))

  within : (t : Bool) → ltb (length out) most ≡ t → (cond t (written out 0) (with_text (written out 0) (answered text))).at ≤ length (cond t (written out 0) (with_text (written out 0) (answered text))).out
  within true e = omega arith
  within false e =
      let h : most ≤ length out = ltb-false (length out) most e in
      omega (arith, answered_short text, as_long out 0 (answered text) (omega (arith, answered_short text)))

  pub counts : (after : List ℕ) (r : ℕ) → written after r ≡ converted text out → IsPrefixLen r after
  counts after r e =
      let h : r ≤ length after = omega (arith, (both e).0, ap length (both e).1, within (ltb (length out) most) refl) in
      (h, sym (length-take-le r after h))
