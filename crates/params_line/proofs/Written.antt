-- Reading turns writing back: the fields of a line. Assumes nothing.
use mathlib.Core.Path.{◌≡◌, refl, sym, ap, ap₂, ◌∙◌}
use mathlib.Core.Bool.{Bool, true, false, cond, ◌&&◌, false≢true}
use mathlib.Core.List.{List, [], ◌∷◌, ◌++◌}
use Prim.Native.Nat.{ℕ, zero, suc, ◌+◌, ◌*◌, ◌^◌, ◌≤◌, ◌<◌}
use native.Mathlib.Omega.{arith}
use borrow.Author.Tests.{lt-ltb, eqb-true, ltb-true}
use lib.Dec.{eqb, ltb}
use lib.ListN.{length, take, drop, length-append, take-append-drop}
use lib.Seq.{take_at, drop_at}
use Rattle.io.specs.Digits.{last_digits}
use Rattle.decimal.specs.Text.{tab, newline, all, same}
use Rattle.decimal.proofs.Bytes.{and_left, and_right, both, same_self, same_true}
use Rattle.decimal.proofs.Digits.{length_digits}
use Rattle.std.proofs.Common.{Option, Some, None, is_some, unwrap_or}
use Rattle.hexadecimal.specs.Hex.{spelled, after}
use Rattle.hexadecimal.proofs.Laws.{written_spelled, spelled_written, spelled_short, after_rest}
use Rattle.params_line.specs.Params.{pattern, fields, word_line, field, fielded, patterns, many, is_line, params_of}
use Rattle.params_line.proofs.Params.{params_length}

-- ---- a field

at_tab : (b : ℕ) (line : List ℕ) (p : ℕ) (t : Bool) → eqb tab b ≡ t → cond t (spelled line) None ≡ Some p → (b ∷ line ≡ tab ∷ last_digits 16 16 p) × (p < 2 ^ 64)
at_tab b line p true e f = (ap₂ (λ (x : ℕ) (s : List ℕ). x ∷ s) (sym (eqb-true tab b e)) (spelled_written line p f), spelled_short line p f)
at_tab b line p false e f = cc

after_written : (chunk : List ℕ) (p : ℕ) → after (tab ∷ []) chunk ≡ Some p → (chunk ≡ tab ∷ last_digits 16 16 p) × (p < 2 ^ 64)
unfolding after
after_written [] p e = cc
after_written (b ∷ line) p e = at_tab b line p (eqb tab b) refl e

bits_are : (bits : Option ℕ) → is_some bits ≡ true → bits ≡ Some (unwrap_or bits 0)
bits_are (Some n) e = refl
bits_are None e = absurd (false≢true e)

-- ---- all fields

-- what is read as fields is what is written of the patterns
fields_back : (n : ℕ) (rest : List ℕ) → fielded n rest ≡ true → (rest ≡ fields (patterns n rest)) × (all pattern (patterns n rest) ≡ true)
unfolding fielded patterns fields
fields_back zero rest e = (same_true rest (newline ∷ []) e, refl)
fields_back (suc n) rest e =
    let b = bits_are (field rest) (and_left (is_some (field rest)) (fielded n (drop 17 rest)) e) in
    let w = after_written (take 17 rest) (unwrap_or (field rest) 0) b in
    let more = fields_back n (drop 17 rest) (and_right (is_some (field rest)) (fielded n (drop 17 rest)) e) in
    (sym (take-append-drop 17 rest) ∙ ap₂ (λ (s t : List ℕ). s ++ t) w.0 more.0, both (lt-ltb (unwrap_or (field rest) 0) (2 ^ 64) w.1) more.1)

module _ (p : ℕ) (rest : List ℕ) (h : p < 2 ^ 64) where
  seventeen : length (tab ∷ last_digits 16 16 p) ≡ 17
  seventeen = ap suc (length_digits 16 16 p)

  field_there : field ((tab ∷ last_digits 16 16 p) ++ rest) ≡ Some p
  field_there =
      ap (after (tab ∷ [])) (take_at (tab ∷ last_digits 16 16 p) rest 17 seventeen) ∙ after_rest (tab ∷ []) (last_digits 16 16 p) ∙ written_spelled p h

  rest_there : drop 17 ((tab ∷ last_digits 16 16 p) ++ rest) ≡ rest
  rest_there = drop_at (tab ∷ last_digits 16 16 p) rest 17 seventeen

-- what is written of patterns is read as these
fields_there : (params : List ℕ) → all pattern params ≡ true → (fielded (length params) (fields params) ≡ true) × (patterns (length params) (fields params) ≡ params)
unfolding fielded patterns fields
fields_there [] e = (same_self (newline ∷ []), refl)
fields_there (p ∷ params) e =
    let h = ltb-true p (2 ^ 64) (and_left (pattern p) (all pattern params) e) in
    let more = fields_there params (and_right (pattern p) (all pattern params) e) in
    let there = field_there p (fields params) h in
    let rest = rest_there p (fields params) h in (
      both (ap is_some there) (ap (fielded (length params)) rest ∙ more.0),
      ap₂ (λ (x : ℕ) (s : List ℕ). x ∷ s) (ap (λ (o : Option ℕ). unwrap_or o 0) there) (ap (patterns (length params)) rest ∙ more.1),
    )

pub length_fields : (params : List ℕ) → length (fields params) ≡ length params * 17 + 1
unfolding fields
length_fields [] = refl
length_fields (p ∷ params) = omega (arith, length-append (last_digits 16 16 p) (fields params), length_digits 16 16 p, length_fields params)

-- ---- the line

module _ (word : List ℕ) (six : length word ≡ 6) (numbers : List ℕ) where
  word_there : take 6 (word_line word numbers) ≡ word
  unfolding word_line
  word_there = take_at word (fields numbers) 6 six

  fields_behind : drop 6 (word_line word numbers) ≡ fields numbers
  unfolding word_line
  fields_behind = drop_at word (fields numbers) 6 six

  many_there : many (word_line word numbers) ≡ length numbers
  unfolding word_line
  many_there = omega (arith, length-append word (fields numbers), length_fields numbers)

  pub line_there : 1 ≤ length numbers → all pattern numbers ≡ true → (is_line word (word_line word numbers) ≡ true) × (params_of (word_line word numbers) ≡ numbers)
  unfolding is_line params_of
  line_there some e =
      let there = fields_there numbers e in (
        both
            (lt-ltb 0 (many (word_line word numbers)) (omega (arith, many_there)))
            (both (ap (λ (s : List ℕ). same s word) word_there ∙ same_self word) (ap₂ fielded many_there fields_behind ∙ there.0)),
        ap₂ patterns many_there fields_behind ∙ there.1,
      )

module _ (word line : List ℕ) (e : is_line word line ≡ true) where
  word_and_fields : (same (take 6 line) word && fielded (many line) (drop 6 line)) ≡ true
  unfolding is_line
  word_and_fields = and_right (ltb 0 (many line)) (same (take 6 line) word && fielded (many line) (drop 6 line)) e

  pub line_many : 0 < many line
  unfolding is_line
  line_many = ltb-true 0 (many line) (and_left (ltb 0 (many line)) (same (take 6 line) word && fielded (many line) (drop 6 line)) e)

  back : (drop 6 line ≡ fields (params_of line)) × (all pattern (params_of line) ≡ true)
  unfolding params_of
  back = fields_back (many line) (drop 6 line) (and_right (same (take 6 line) word) (fielded (many line) (drop 6 line)) word_and_fields)

  pub line_back : line ≡ word_line word (params_of line)
  unfolding word_line
  line_back =
      sym (take-append-drop 6 line)
      ∙ ap₂ (λ (s t : List ℕ). s ++ t) (same_true (take 6 line) word (and_left (same (take 6 line) word) (fielded (many line) (drop 6 line)) word_and_fields)) back.0

  pub line_patterns : all pattern (params_of line) ≡ true
  line_patterns = back.1

  pub line_some : 1 ≤ length (params_of line)
  line_some = omega (arith, params_length line, line_many)
