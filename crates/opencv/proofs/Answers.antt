-- What the code's parts answer is what the definitions say of the whole text. Assumes nothing.
use mathlib.Core.Path.{◌≡◌, refl, sym, ap, ap₂, ◌∙◌}
use mathlib.Core.Bool.{Bool, true, false, not, cond}
use mathlib.Core.List.{List, ◌++◌}
use Prim.Native.Nat.{ℕ, suc, ◌+◌, ◌-◌, ◌≤◌, ◌<◌}
use native.Mathlib.Numerals.{add-one}
use native.Mathlib.Omega.{arith}
use borrow.Author.Tests.{ne_eqb, le-leb, lt-leb}
use lib.ListN.{length, take, drop, length-append, length-drop, drop_of_length-le}
use lib.Seq.{take_all}
use Rattle.decimal.specs.Text.{newline, place, past}
use Rattle.decimal.proofs.Parts.{place_within}
use Rattle.lens.specs.Refusal.{number}
use Rattle.lens.specs.Rows.{first}
use Rattle.lens.specs.declared.Refusal.{Refusal}
use Rattle.lens.specs.declared.Refusal.TheVariants.{NotTheForm}
use Rattle.lens.proofs.Laws.{number_within}
use Rattle.listing_lines.specs.Line.{refused_line}
use Rattle.params_line.specs.Params.{is_params, params_of}
use Rattle.put_text.specs.Placed.{Written, written, with_text, placed}
use Rattle.put_text.proofs.Putting.{is_placed}
use Rattle.put_text.proofs.Whole.{as_long, two_texts}
use Rattle.put_text.proofs.Laws.{both}
use Rattle.opencv.specs.Text.{Lines, ours, theirs, text_of, longest, first_line, are_theirs, is_lines, lines_of, LineEnd}
use Rattle.opencv.specs.Moved.{rows, other, by_rows, moved, lines_moved, answered}

-- ---- where the first line ends

module _ (text : List ℕ) (i : ℕ) (e : i ≡ place newline text) where
  pub ends_after : i < length text → LineEnd text (i + 1)
  unfolding first_line past
  ends_after h =
      let n : i + 1 ≡ suc (place newline text) = add-one i ∙ ap suc e in
      record { within = omega arith; line = ap (λ (k : ℕ). take k text) n; rest = ap (λ (k : ℕ). drop k text) n }

  pub ends_nowhere : length text ≤ i → LineEnd text i
  unfolding first_line past
  ends_nowhere h = record {
    within = omega (arith, place_within newline text);
    line = take_all i text h ∙ sym (take_all (suc (place newline text)) text (omega arith));
    rest = drop_of_length-le text h ∙ sym (drop_of_length-le text {i = suc (place newline text)} (omega arith));
  }

-- ---- two texts, one behind the other

module _ (out : List ℕ) (s t : List ℕ) (fits : length s + length t ≤ length out) where
  pub both_put :
      (mid : List ℕ) (next : ℕ) (after : List ℕ) (r : ℕ) →
      written mid next ≡ placed (written out 0) s →
      written after r ≡ placed (written mid next) t →
      written after r ≡ placed (written out 0) (s ++ t)
  both_put mid next after r e f =
      let room : 0 + length s ≤ length out = omega arith in
      let g : written mid next ≡ with_text (written out 0) s = e ∙ is_placed out 0 s room in
      let more : next + length t ≤ length mid = omega (arith, (both g).0, ap length (both g).1, as_long out 0 s room) in
      f
      ∙ is_placed mid next t more
      ∙ ap (λ (w : Written). with_text w t) g
      ∙ two_texts out 0 s room t
      ∙ sym (is_placed out 0 (s ++ t) (omega (arith, length-append s t)))

-- ---- by the rows

pub taken_text : {n : ℕ} (text : List ℕ) → 0 ≡ n → text ≡ by_rows n text
taken_text text e = ap (λ (k : ℕ). by_rows k text) e

pub refused_text : {n : ℕ} (text : List ℕ) (r : Refusal) → number r ≡ n → refused_line (number r) ≡ by_rows n text
refused_text text r e =
    sym (ap (λ (t : Bool). cond t text (refused_line (number r))) (ne_eqb (number r) 0 (λ z. omega (arith, z, number_within r))))
    ∙ ap (λ (k : ℕ). by_rows k text) e

-- ---- the whole text

pub answered_as : (text : List ℕ) (lines : Lines) → is_lines text ≡ true → lines_of text ≡ lines → moved lines ≡ answered text
unfolding answered
answered_as text lines e f =
    ap moved (sym f)
    ∙ sym (ap (λ (t : Bool). by_rows (cond (not t) 14 (first (rows (lines_of text)))) (text_of (other (lines_of text)))) e)

pub answered_none : (text : List ℕ) → is_lines text ≡ false → refused_line (number NotTheForm) ≡ answered text
unfolding answered
answered_none text e = sym (ap (λ (t : Bool). by_rows (cond (not t) 14 (first (rows (lines_of text)))) (text_of (other (lines_of text)))) e)

module _ (text : List ℕ) where
  module _ (h : length text ≤ longest) where
    pub answered_ours : is_params text ≡ true → moved (ours (params_of text)) ≡ answered text
    unfolding is_lines lines_of
    answered_ours e =
        answered_as text (ours (params_of text))
        (simp (le-leb (length text) longest h, e) refl)
        (simp e refl)

    module _ (e : is_params text ≡ false) where
      by_lines :
          (t : Bool) →
          are_theirs (first_line text) (past newline text) ≡ t →
          cond t (moved (theirs (params_of (first_line text)) (params_of (past newline text)))) (refused_line (number NotTheForm)) ≡ answered text
      unfolding is_lines lines_of
      by_lines true f =
          answered_as text (theirs (params_of (first_line text)) (params_of (past newline text)))
          (simp (le-leb (length text) longest h, e) f)
          (simp e refl)
      by_lines false f = answered_none text (simp (le-leb (length text) longest h, e) f)

      -- the two lines as the code takes them
      pub answered_lines : (r : ℕ) → LineEnd text r → lines_moved (take r text) (take (length text - r) (drop r text)) ≡ answered text
      answered_lines r end =
          let rest : take (length text - r) (drop r text) ≡ past newline text = take_all (length text - r) (drop r text) (omega (arith, length-drop r text)) ∙ end.rest in
          ap₂ lines_moved end.line rest ∙ by_lines (are_theirs (first_line text) (past newline text)) refl

  pub answered_long : longest < length text → refused_line (number NotTheForm) ≡ answered text
  unfolding is_lines
  answered_long h = answered_none text (simp (lt-leb (length text) longest h) refl)

-- ---- two lines

module _ (line next : List ℕ) (t : Bool) (e : t ≡ are_theirs line next) where
  pub lines_theirs : t ≡ true → moved (theirs (params_of line) (params_of next)) ≡ lines_moved line next
  lines_theirs f = sym (ap (λ (b : Bool). cond b (moved (theirs (params_of line) (params_of next))) (refused_line (number NotTheForm))) (sym e ∙ f))

  pub lines_neither : t ≡ false → refused_line (number NotTheForm) ≡ lines_moved line next
  lines_neither f = sym (ap (λ (b : Bool). cond b (moved (theirs (params_of line) (params_of next))) (refused_line (number NotTheForm))) (sym e ∙ f))
