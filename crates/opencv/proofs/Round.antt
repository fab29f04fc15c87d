-- There and back. Assumes nothing.
use mathlib.Core.Path.{◌≡◌, refl, sym, ap, ap₂, ◌∙◌}
use mathlib.Core.Bool.{Bool, true, false, not, cond, ◌&&◌}
use mathlib.Core.List.{List, [], ◌∷◌, ◌++◌}
use Prim.Native.Nat.{ℕ, zero, suc, ◌+◌, ◌≤◌}
use native.Mathlib.Nat.{le_of_suc-le-suc, not-suc-le-zero, zero-add, suc-add}
use native.Mathlib.Omega.{arith}
use borrow.Author.Tests.{eqb-true, not-false}
use lib.Dec.{eqb}
use lib.Ieee.{of_bits}
use lib.ListN.{length, get_or, take, drop, replicate, length-append}
use lib.Seq.{take_all}
use Rattle.exact.specs.F64.{is_zero}
use Rattle.decimal.specs.Text.{all}
use Rattle.decimal.proofs.Bytes.{and_left, and_right, both}
use Rattle.lens.specs.Rows.{first}
use Rattle.params_line.specs.Params.{params_word, pattern, word_line}
use Rattle.params_line.proofs.Putting.{line_long}
use Rattle.opencv.specs.Text.{matrix_word, coeffs_word, Lines, ours, theirs, text_of, Form}
use Rattle.opencv.specs.Moved.{zero_bits, one, of_ours, of_theirs, our_params, their_matrix, their_coeffs, fixed, counted, plain, number_rows, rows, other, by_rows, answered, Taken}
use Rattle.opencv.specs.declared.Twelve.{Twelve}
use Rattle.opencv.proofs.Reading.{lines_there}
use Rattle.opencv.proofs.Answers.{answered_as}

-- ---- the first n of a function's values, and those of a list

unfoldable pub heads : ℕ → (ℕ → ℕ) → List ℕ
heads zero f = []
heads (suc n) f = f 0 ∷ heads n (λ k. f (suc k))

heads_take : (n : ℕ) (l : List ℕ) → n ≤ length l → heads n (λ k. get_or l k 0) ≡ take n l
unfolding heads
heads_take zero l h = refl
heads_take (suc n) [] h = absurd (not-suc-le-zero h)
heads_take (suc n) (x ∷ l) h = ap (λ (s : List ℕ). x ∷ s) (heads_take n l (le_of_suc-le-suc h))

pub whole : (n : ℕ) (l : List ℕ) → length l ≡ n → heads n (λ k. get_or l k 0) ≡ l
whole n l e = heads_take n l (omega arith) ∙ take_all n l (omega arith)

pattern_at : (l : List ℕ) → all pattern l ≡ true → (k : ℕ) → pattern (get_or l k 0) ≡ true
pattern_at [] e k = refl
pattern_at (x ∷ l) e zero = and_left (pattern x) (all pattern l) e
pattern_at (x ∷ l) e (suc k) = pattern_at l (and_right (pattern x) (all pattern l) e) k

-- ---- a camera's numbers are patterns

pub record Patterns (n : Twelve) : Type 0 where
  pub fx : pattern n.fx ≡ true
  pub fy : pattern n.fy ≡ true
  pub cx : pattern n.cx ≡ true
  pub cy : pattern n.cy ≡ true
  pub rest : all pattern (their_coeffs n) ≡ true

eight : (f : ℕ → ℕ) → ((k : ℕ) → pattern (f k) ≡ true) → (n : ℕ) → all pattern (heads n f) ≡ true
unfolding heads
eight f h zero = refl
eight f h (suc n) = both (h 0) (eight (λ k. f (suc k)) (λ k. h (suc k)) n)

our_patterns : (p : List ℕ) → all pattern p ≡ true → Patterns (of_ours p)
unfolding of_ours their_coeffs heads
our_patterns p e = record {
  fx = pattern_at p e 0;
  fy = pattern_at p e 1;
  cx = pattern_at p e 2;
  cy = pattern_at p e 3;
  rest = eight (λ k. get_or p (4 + k) 0) (λ k. pattern_at p e (4 + k)) 8;
}

their_patterns : (m c : List ℕ) → all pattern m ≡ true → all pattern c ≡ true → Patterns (of_theirs m c)
unfolding of_theirs their_coeffs heads
their_patterns m c e f = record {
  fx = pattern_at m e 0;
  fy = pattern_at m e 4;
  cx = pattern_at m e 2;
  cy = pattern_at m e 5;
  rest = eight (λ k. get_or c k 0) (pattern_at c f) 8;
}

module _ (n : Twelve) (h : Patterns n) where
  form_ours : Form (ours (our_params n))
  unfolding our_params their_coeffs
  form_ours = ((omega arith, both h.fx (both h.fy (both h.cx (both h.cy h.rest)))), omega (arith, line_long params_word (our_params n)))

  form_theirs : Form (theirs (their_matrix n) (their_coeffs n))
  unfolding their_matrix their_coeffs
  form_theirs = (
    (omega arith, both h.fx (both refl (both h.cx (both refl (both h.fy (both h.cy refl)))))),
    (omega arith, h.rest),
    omega (
      arith,
      length-append (word_line matrix_word (their_matrix n)) (word_line coeffs_word (their_coeffs n)),
      line_long matrix_word (their_matrix n),
      line_long coeffs_word (their_coeffs n),
    ),
  )

-- ---- what is written is taken

first_row : (t : Bool) (x y : ℕ) → cond t (suc x) y ≡ 0 → (t ≡ false) × (y ≡ 0)
first_row true x y e = absurd (omega arith)
first_row false x y e = (refl, e)

module _ (n : Twelve) (h : first (number_rows n) ≡ 0) where
  rows_ours : first (rows (ours (our_params n))) ≡ 0
  unfolding our_params of_ours
  rows_ours = h

  rows_theirs : first (rows (theirs (their_matrix n) (their_coeffs n))) ≡ 0
  unfolding their_matrix their_coeffs of_theirs plain fixed counted is_zero of_bits
  rows_theirs = h

-- ---- a camera that is taken

taken_answered : (lines : Lines) → Taken lines → answered (text_of lines) ≡ text_of (other lines)
taken_answered lines t =
    let there = lines_there lines t.form in
    sym (answered_as (text_of lines) lines there.0 there.1) ∙ ap (λ (n : ℕ). by_rows n (text_of (other lines))) t.none

other_taken : (lines : Lines) → Taken lines → Taken (other lines)
other_taken (ours p) t =
    let h = first_row (not (eqb (length p) 12)) 2 (first (number_rows (of_ours p))) t.none in
    record { form = form_theirs (of_ours p) (our_patterns p t.form.0.1); none = rows_theirs (of_ours p) h.1 }
other_taken (theirs m c) t =
    let h = first_row (not (plain m c)) 16 (first (number_rows (of_theirs m c))) t.none in
    record { form = form_ours (of_theirs m c) (their_patterns m c t.form.0.1 t.form.1.1); none = rows_ours (of_theirs m c) h.1 }

pub twice : (lines : Lines) → Taken lines → answered (answered (text_of lines)) ≡ text_of (other (other lines))
twice lines t = ap answered (taken_answered lines t) ∙ taken_answered (other lines) (other_taken lines t)

-- ---- which camera comes back

pub ours_back : (p : List ℕ) → Taken (ours p) → other (other (ours p)) ≡ ours p
unfolding of_ours our_params of_theirs their_matrix their_coeffs heads
ours_back p t =
    let h = first_row (not (eqb (length p) 12)) 2 (first (number_rows (of_ours p))) t.none in
    ap ours (whole 12 p (eqb-true (length p) 12 (not-false (eqb (length p) 12) h.0)))

-- the matrix with +0 and 1 in its fixed places
abbrev pub same_matrix : List ℕ → List ℕ
same_matrix m = get_or m 0 0 ∷ 0 ∷ get_or m 2 0 ∷ 0 ∷ get_or m 4 0 ∷ get_or m 5 0 ∷ 0 ∷ 0 ∷ one ∷ []

module _ (m c : List ℕ) where
  pub theirs_back : other (other (theirs m c)) ≡ theirs (same_matrix m) (heads 8 (λ k. get_or c k 0))
  unfolding of_ours our_params of_theirs their_matrix their_coeffs heads
  theirs_back = refl

  -- a matrix that has +0 in those places is the same
  module _ (t : Taken (theirs m c)) where
    is_plain : plain m c ≡ true
    is_plain = not-false (plain m c) (first_row (not (plain m c)) 16 (first (number_rows (of_theirs m c))) t.none).0

    nine_fixed : (eqb (length m) 9 && fixed m) ≡ true
    unfolding plain
    nine_fixed = and_left (eqb (length m) 9 && fixed m) (counted (length c) && all zero_bits (drop 8 c)) is_plain

    last_one : get_or m 8 0 ≡ one
    unfolding fixed
    last_one =
        let z : ℕ → Bool = λ k. zero_bits (get_or m k 0) in
        let a = and_right (eqb (length m) 9) (fixed m) nine_fixed in
        let b = and_right (z 1) (z 3 && (z 6 && (z 7 && eqb (get_or m 8 0) one))) a in
        let d = and_right (z 3) (z 6 && (z 7 && eqb (get_or m 8 0) one)) b in
        let e = and_right (z 6) (z 7 && eqb (get_or m 8 0) one) d in
        eqb-true (get_or m 8 0) one (and_right (z 7) (eqb (get_or m 8 0) one) e)

    pub matrix_back : get_or m 1 0 ≡ 0 → get_or m 3 0 ≡ 0 → get_or m 6 0 ≡ 0 → get_or m 7 0 ≡ 0 → same_matrix m ≡ m
    unfolding heads
    matrix_back f g h i =
        let n = eqb-true (length m) 9 (and_left (eqb (length m) 9) (fixed m) nine_fixed) in
        let e : heads 9 (λ k. get_or m k 0) ≡ same_matrix m = rw (f, g, h, i, last_one) refl in
        sym e ∙ whole 9 m n

pub first_eight : (c : List ℕ) → 8 ≤ length c → heads 8 (λ k. get_or c k 0) ≡ take 8 c
first_eight c h = heads_take 8 c h

heads_zeros : (n : ℕ) (f : ℕ → ℕ) → ((k : ℕ) → f k ≡ 0) → heads n f ≡ replicate n 0
unfolding heads
heads_zeros zero f h = refl
heads_zeros (suc n) f h = ap₂ (λ (x : ℕ) (s : List ℕ). x ∷ s) (h 0) (heads_zeros n (λ k. f (suc k)) (λ k. h (suc k)))

pub filled : (n : ℕ) (c : List ℕ) → heads (length c + n) (λ k. get_or c k 0) ≡ c ++ replicate n 0
unfolding heads
filled n [] = ap (λ (k : ℕ). heads k (λ i. 0)) (zero-add n) ∙ heads_zeros n (λ k. 0) (λ k. refl)
filled n (x ∷ c) = ap (λ (k : ℕ). heads k (λ i. get_or (x ∷ c) i 0)) (suc-add (length c) n) ∙ ap (λ (s : List ℕ). x ∷ s) (filled n c)
