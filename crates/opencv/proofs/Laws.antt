-- What a caller may rely on, of the definitions of specs/ and of the contract of src/. Assumes nothing.
use mathlib.Core.Path.{◌≡◌, refl, sym, ap, ◌∙◌}
use mathlib.Core.Bool.{Bool, true, false}
use mathlib.Core.List.{List, ◌++◌}
use mathlib.Core.Logic.{◌⊎◌, inl, inr}
use Prim.Native.Nat.{ℕ, ◌+◌, ◌-◌, ◌≤◌}
use native.Mathlib.Omega.{arith}
use lib.ListN.{length, get_or, take, replicate}
use lib.Seq.{take_all}
use Rattle.exact.specs.Determined.{DeterminedWith}
use Rattle.lens.specs.Rows.{first}
use Rattle.listing_lines.specs.Line.{refused_line}
use Rattle.put_text.proofs.Laws.{both}
use Rattle.opencv.specs.Text.{Lines, ours, theirs, text_of, Form, is_lines, lines_of}
use Rattle.opencv.specs.Moved.{plain, rows, other, by_rows, answered, most, Taken}
use Rattle.opencv.proofs.Short.{answered_short}
use Rattle.opencv.proofs.Reading.{lines_there, lines_back}
use Rattle.opencv.proofs.Judging.{seventeen_first}
use Rattle.opencv.proofs.Answers.{answered_as, answered_none}
use Rattle.opencv.proofs.Round.{heads, twice, ours_back, theirs_back, same_matrix, matrix_back}
use Rattle.opencv.proofs.Round.{first_eight, filled}
use Rattle.opencv.proofs.convert.Reads as convert-contract

-- Any two answers to one call that the contract of `convert` permits are equal, and so are any two buffers at the
-- return.
pub convert_determined : DeterminedWith convert-contract.Post (λ κ s. s.1.0.now)
convert_determined κ a s s' r r' p q = both (p.0 ∙ sym q.0)

-- All that is answered has room in a buffer of OUTPUT bytes, whatever the text.
pub fits : (text : List ℕ) → length (answered text) ≤ most
fits = answered_short

-- ---- the text, and the refusals

-- A text of the form that is written and read says the same lines.
pub written_read : (lines : Lines) → Form lines → (is_lines (text_of lines) ≡ true) × (lines_of (text_of lines) ≡ lines)
written_read = lines_there

-- A text that is read is what is written of its lines, and these are of the form: there is one text for each.
pub read_written : (text : List ℕ) → is_lines text ≡ true → (text ≡ text_of (lines_of text)) × Form (lines_of text)
read_written = lines_back

-- A text that is no lines' text of the form is answered with 14.
pub form_refused :
    (text : List ℕ) → ((lines : Lines) → Form lines → text_of lines ≡ text → ⊥) → answered text ≡ refused_line 14
form_refused text h = go (is_lines text) refl
  where
    go : (t : Bool) → is_lines text ≡ t → answered text ≡ refused_line 14
    go true e = absurd (h (lines_of text) (lines_back text e).1 (sym (lines_back text e).0))
    go false e = sym (answered_none text e)

-- Any other is answered with the number of the first row that holds, of 3, 4, 5 for ours and of 17, 4, 5 for theirs
-- (specs/Moved `rows`); and where none holds, with the other side's text.
pub rows_tried :
    (lines : Lines) → Form lines
    → answered (text_of lines) ≡ by_rows (first (rows lines)) (text_of (other lines))
rows_tried lines form =
    let there = lines_there lines form in
    sym (answered_as (text_of lines) lines there.0 there.1)

-- A camera of theirs that ours can't hold is answered with 17, whatever its numbers: 4 and 5 come after it.
pub seventeen_before_four :
    (matrix coeffs : List ℕ) → Form (theirs matrix coeffs) → plain matrix coeffs ≡ false
    → answered (text_of (theirs matrix coeffs)) ≡ refused_line 17
seventeen_before_four matrix coeffs form e =
    let lines = theirs matrix coeffs in
    rows_tried lines form ∙ ap (λ (n : ℕ). by_rows n (text_of (other lines))) (seventeen_first matrix coeffs e)

-- ---- there and back

-- Ours to theirs to ours is the same bits.
pub there_and_back :
    (params : List ℕ) → Taken (ours params) → answered (answered (text_of (ours params))) ≡ text_of (ours params)
there_and_back params t = twice (ours params) t ∙ ap text_of (ours_back params t)

module _ (matrix coeffs : List ℕ) (t : Taken (theirs matrix coeffs)) where
  -- what comes back of a camera of theirs
  abbrev pub comes_back : List ℕ
  comes_back = answered (answered (text_of (theirs matrix coeffs)))

  back : (c : List ℕ) → heads 8 (λ k. get_or coeffs k 0) ≡ c → comes_back ≡ text_of (theirs (same_matrix matrix) c)
  back c e =
      twice (theirs matrix coeffs) t
      ∙ ap text_of (theirs_back matrix coeffs ∙ ap (theirs (same_matrix matrix)) e)

  -- Theirs to ours to theirs is the same bits for eight coefficients, and +0 in the matrix's fixed places.
  pub back_and_there :
      length coeffs ≡ 8 → get_or matrix 1 0 ≡ 0 → get_or matrix 3 0 ≡ 0 → get_or matrix 6 0 ≡ 0 → get_or matrix 7 0 ≡ 0
      → comes_back ≡ text_of (theirs matrix coeffs)
  back_and_there n skew a b d =
      back coeffs (first_eight coeffs (omega arith) ∙ take_all 8 coeffs (omega arith))
      ∙ ap (λ (m : List ℕ). text_of (theirs m coeffs)) (matrix_back matrix coeffs t skew a b d)

  -- 4 and 5 coefficients come back padded with +0; and the matrix with +0 in its fixed places (`same_matrix`).
  pub padded :
      (length coeffs ≡ 4) ⊎ (length coeffs ≡ 5)
      → comes_back ≡ text_of (theirs (same_matrix matrix) (coeffs ++ replicate (8 - length coeffs) 0))
  padded (inl n) =
      let e : ◌≡◌ {A = ℕ} (length coeffs + (8 - length coeffs)) 8 = omega arith in
      back (coeffs ++ replicate (8 - length coeffs) 0)
      (ap (λ (k : ℕ). heads k (λ i. get_or coeffs i 0)) (sym e) ∙ filled (8 - length coeffs) coeffs)
  padded (inr n) =
      let e : ◌≡◌ {A = ℕ} (length coeffs + (8 - length coeffs)) 8 = omega arith in
      back (coeffs ++ replicate (8 - length coeffs) 0)
      (ap (λ (k : ℕ). heads k (λ i. get_or coeffs i 0)) (sym e) ∙ filled (8 - length coeffs) coeffs)

  -- 12 and 14 coefficients come back as their first eight, and so the matrix.
  pub longer :
      (length coeffs ≡ 12) ⊎ (length coeffs ≡ 14) → comes_back ≡ text_of (theirs (same_matrix matrix) (take 8 coeffs))
  longer (inl n) = back (take 8 coeffs) (first_eight coeffs (omega arith))
  longer (inr n) = back (take 8 coeffs) (first_eight coeffs (omega arith))
