-- What is written of lines is read as these, and what is read was written. Assumes nothing.
use mathlib.Core.Path.{◌≡◌, refl, sym, ap, ap₂, ◌∙◌}
use mathlib.Core.Bool.{Bool, true, false, not, cond, ◌&&◌, ◌||◌}
use mathlib.Core.List.{List, [], ◌∷◌, ◌++◌, append_assoc}
use Prim.Native.Nat.{ℕ, zero, suc, ◌+◌, ◌/◌, ◌%◌, ◌≤◌}
use native.Mathlib.Omega.{arith}
use borrow.Author.Tests.{ne_eqb, le-leb, leb-true}
use lib.Dec.{leb, ltb}
use lib.ListN.{length, length-append, take-append-drop}
use lib.Seq.{take_at}
use Rattle.io.specs.Digits.{hex_digit_ascii, last_digits}
use Rattle.decimal.specs.Text.{tab, newline, all, place, past}
use Rattle.decimal.proofs.Bytes.{and_left, and_right, both, all_append}
use Rattle.decimal.proofs.Parts.{lacks, place_after, past_is}
use Rattle.params_line.specs.Params.{params_word, fields, word_line, many, is_line, is_params, params_of}
use Rattle.params_line.proofs.Written.{line_there, line_back, line_patterns, line_some}
use Rattle.opencv.specs.Text.{matrix_word, coeffs_word, Lines, ours, theirs, text_of, longest, Form, first_line, are_theirs, is_lines, lines_of}

-- ---- a line has one newline, its last byte

glyph_free : (d : ℕ) (t : Bool) → lacks newline (cond t (48 + d) (87 + d)) ≡ true
glyph_free d true = ap not (ne_eqb (48 + d) 10 (λ e. omega arith))
glyph_free d false = ap not (ne_eqb (87 + d) 10 (λ e. omega arith))

digits_free : (k n : ℕ) → all (lacks newline) (last_digits 16 k n) ≡ true
digits_free zero n = refl
digits_free (suc k) n =
    all_append (lacks newline) (last_digits 16 k (n / 16)) (hex_digit_ascii (n % 16) ∷ []) (digits_free k (n / 16)) (both (glyph_free (n % 16) (ltb (n % 16) 10)) refl)

-- the fields without it
tabbed : List ℕ → List ℕ
tabbed [] = []
tabbed (n ∷ numbers) = (tab ∷ last_digits 16 16 n) ++ tabbed numbers

tabbed_free : (numbers : List ℕ) → all (lacks newline) (tabbed numbers) ≡ true
unfolding tabbed
tabbed_free [] = refl
tabbed_free (n ∷ numbers) = all_append (lacks newline) (tab ∷ last_digits 16 16 n) (tabbed numbers) (digits_free 16 n) (tabbed_free numbers)

fields_are : (numbers : List ℕ) → fields numbers ≡ tabbed numbers ++ newline ∷ []
unfolding fields tabbed
fields_are [] = refl
fields_are (n ∷ numbers) =
    ap (λ (s : List ℕ). (tab ∷ last_digits 16 16 n) ++ s) (fields_are numbers) ∙ sym (append_assoc (tab ∷ last_digits 16 16 n) (tabbed numbers) (newline ∷ []))

module _ (word : List ℕ) (free : all (lacks newline) word ≡ true) (numbers rest : List ℕ) where
  body : List ℕ
  body = word ++ tabbed numbers

  body_free : all (lacks newline) body ≡ true
  unfolding body
  body_free = all_append (lacks newline) word (tabbed numbers) free (tabbed_free numbers)

  line_is : word_line word numbers ≡ body ++ newline ∷ []
  unfolding word_line body
  line_is = ap (λ (s : List ℕ). word ++ s) (fields_are numbers) ∙ sym (append_assoc word (tabbed numbers) (newline ∷ []))

  text_is : word_line word numbers ++ rest ≡ body ++ newline ∷ rest
  text_is = ap (λ (s : List ℕ). s ++ rest) line_is ∙ append_assoc body (newline ∷ []) rest

  newline_at : place newline (word_line word numbers ++ rest) ≡ length body
  newline_at = ap (place newline) text_is ∙ place_after newline rest body body_free

  pub first_line_is : first_line (word_line word numbers ++ rest) ≡ word_line word numbers
  unfolding first_line
  first_line_is =
      take_at (word_line word numbers) rest (suc (place newline (word_line word numbers ++ rest)))
      (omega (arith, newline_at, ap length line_is, length-append body (newline ∷ [])))

  pub past_line_is : past newline (word_line word numbers ++ rest) ≡ rest
  past_line_is = ap (past newline) text_is ∙ past_is newline rest body body_free

-- ---- there: what is written is read

and_false : (a : Bool) → (a && false) ≡ false
and_false true = refl
and_false false = refl

-- a matrix line is no params line
not_params : (matrix rest : List ℕ) → is_params (word_line matrix_word matrix ++ rest) ≡ false
unfolding is_line word_line
not_params matrix rest = and_false (ltb 0 (many (word_line matrix_word matrix ++ rest)))

free_matrix : all (lacks newline) matrix_word ≡ true
free_matrix = refl

pub lines_there : (lines : Lines) → Form lines → (is_lines (text_of lines) ≡ true) × (lines_of (text_of lines) ≡ lines)
unfolding is_lines lines_of
lines_there (ours p) form =
    let there = line_there params_word refl p form.0.0 form.0.1 in (
      both (le-leb (length (text_of (ours p))) longest form.1) (ap (λ (t : Bool). t || are_theirs (first_line (text_of (ours p))) (past newline (text_of (ours p)))) there.0),
      ap (λ (t : Bool). cond t (ours (params_of (text_of (ours p)))) (theirs (params_of (first_line (text_of (ours p)))) (params_of (past newline (text_of (ours p)))))) there.0
          ∙ ap ours there.1,
    )
lines_there (theirs m c) form =
    let text = text_of (theirs m c) in
    let matrix = line_there matrix_word refl m form.0.0 form.0.1 in
    let coeffs = line_there coeffs_word refl c form.1.0 form.1.1 in
    let f : first_line text ≡ word_line matrix_word m = first_line_is matrix_word free_matrix m (word_line coeffs_word c) in
    let r : past newline text ≡ word_line coeffs_word c = past_line_is matrix_word free_matrix m (word_line coeffs_word c) in
    let n = not_params m (word_line coeffs_word c) in (
      both
          (le-leb (length text) longest form.2)
          (ap (λ (t : Bool). t || are_theirs (first_line text) (past newline text)) n ∙ ap₂ are_theirs f r ∙ both matrix.0 coeffs.0),
      ap (λ (t : Bool). cond t (ours (params_of text)) (theirs (params_of (first_line text)) (params_of (past newline text)))) n
          ∙ ap₂ theirs (ap params_of f ∙ matrix.1) (ap params_of r ∙ coeffs.1),
    )

-- ---- back: what is read was written

module _ (text : List ℕ) (e : is_lines text ≡ true) where
  short : length text ≤ longest
  unfolding is_lines
  short = leb-true (length text) longest (and_left (leb (length text) longest) (is_params text || are_theirs (first_line text) (past newline text)) e)

  either : (is_params text || are_theirs (first_line text) (past newline text)) ≡ true
  unfolding is_lines
  either = and_right (leb (length text) longest) (is_params text || are_theirs (first_line text) (past newline text)) e

  by_kind :
      (t : Bool) →
      is_params text ≡ t →
      (t || are_theirs (first_line text) (past newline text)) ≡ true →
      let lines = cond t (ours (params_of text)) (theirs (params_of (first_line text)) (params_of (past newline text))) in
      (text ≡ text_of lines) × Form lines
  unfolding first_line past
  by_kind true p h =
      let b : text ≡ text_of (ours (params_of text)) = line_back params_word text p in
      (b, ((line_some params_word text p, line_patterns params_word text p), omega (arith, short, ap length b)))
  by_kind false p h =
      let m = and_left (is_line matrix_word (first_line text)) (is_line coeffs_word (past newline text)) h in
      let c = and_right (is_line matrix_word (first_line text)) (is_line coeffs_word (past newline text)) h in
      let b : text ≡ text_of (theirs (params_of (first_line text)) (params_of (past newline text))) =
      sym (take-append-drop (suc (place newline text)) text)
      ∙ ap₂ (λ (s t : List ℕ). s ++ t) (line_back matrix_word (first_line text) m) (line_back coeffs_word (past newline text) c) in (
        b,
        (
          (line_some matrix_word (first_line text) m, line_patterns matrix_word (first_line text) m),
          (line_some coeffs_word (past newline text) c, line_patterns coeffs_word (past newline text) c),
          omega (arith, short, ap length b),
        ),
      )

  pub lines_back : (text ≡ text_of (lines_of text)) × Form (lines_of text)
  unfolding lines_of
  lines_back = by_kind (is_params text) refl either
