-- Reading turns writing back, for the whole text. Assumes nothing.
use mathlib.Core.Path.{◌≡◌, refl, sym, ap, ap₂, ◌∙◌}
use mathlib.Core.Bool.{true, ◌&&◌}
use mathlib.Core.List.{List, ◌∷◌, ◌++◌, append_assoc}
use Prim.Native.Nat.{ℕ, ◌≤◌, ◌<◌}
use native.Mathlib.Omega.{arith}
use borrow.Author.Tests.{le-leb, leb-true, lt-ltb, ltb-true}
use lib.Dec.{leb, ltb}
use lib.ListN.{length, length-take}
use Rattle.decimal.specs.Decimal.{decimal, digit, worth, is_number}
use Rattle.decimal.specs.Text.{tab, newline, all, same, place, before, past}
use Rattle.decimal.proofs.Bytes.{and_left, and_right, both, same_self, same_true}
use Rattle.decimal.proofs.Parts.{lacks, free, before_is, past_is, parted}
use Rattle.decimal.proofs.Digits.{decimal_worth, decimal_digits}
use Rattle.decimal.proofs.Numbers.{decimal_number, number_some, number_decimal, number_range}
use Rattle.params_line.specs.Params.{params_word, pattern, params_line, is_params, params_of}
use Rattle.params_line.proofs.Written.{line_there, line_many, line_back, line_patterns, line_some}
use Rattle.camera_file.specs.Text.{camera_word, letter, longest, CameraFile, camera_line, text_of, Form}
use Rattle.camera_file.specs.Reading.{is_name, is_high, is_wide, is_named, is_file, file_of}

-- ---- there: what is written is read

abbrev filed : List ℕ → ℕ → ℕ → List ℕ → CameraFile
filed name width height params = record { name = name; width = width; height = height; params = params }

module _ (file : CameraFile) (form : Form file) where
  line : List ℕ
  line = params_line file.params

  high : List ℕ
  high = decimal file.height ++ newline ∷ line

  wide : List ℕ
  wide = decimal file.width ++ tab ∷ high

  named : List ℕ
  named = file.name ++ tab ∷ wide

  flat : text_of file ≡ camera_word ++ tab ∷ named
  unfolding text_of camera_line named wide high line
  flat = simp append_assoc

  name_free : all (lacks tab) file.name ≡ true
  name_free = free letter tab refl file.name form.letters

  width_free : all (lacks tab) (decimal file.width) ≡ true
  width_free = free digit tab refl (decimal file.width) (decimal_digits file.width)

  height_free : all (lacks newline) (decimal file.height) ≡ true
  height_free = free digit newline refl (decimal file.height) (decimal_digits file.height)

  -- where each field starts
  to_name : past tab (text_of file) ≡ named
  to_name = ap (past tab) flat ∙ past_is tab named camera_word refl

  to_width : past tab (past tab (text_of file)) ≡ wide
  unfolding named
  to_width = ap (past tab) to_name ∙ past_is tab wide file.name name_free

  to_height : past tab (past tab (past tab (text_of file))) ≡ high
  unfolding wide
  to_height = ap (past tab) to_width ∙ past_is tab high (decimal file.width) width_free

  to_params : past newline (past tab (past tab (past tab (text_of file)))) ≡ line
  unfolding high
  to_params = ap (past newline) to_height ∙ past_is newline line (decimal file.height) height_free

  -- each field
  the_word : before tab (text_of file) ≡ camera_word
  the_word = ap (before tab) flat ∙ before_is tab named camera_word refl

  the_name : before tab (past tab (text_of file)) ≡ file.name
  unfolding named
  the_name = ap (before tab) to_name ∙ before_is tab wide file.name name_free

  the_width : before tab (past tab (past tab (text_of file))) ≡ decimal file.width
  unfolding wide
  the_width = ap (before tab) to_width ∙ before_is tab high (decimal file.width) width_free

  the_height : before newline (past tab (past tab (past tab (text_of file)))) ≡ decimal file.height
  unfolding high
  the_height = ap (before newline) to_height ∙ before_is newline line (decimal file.height) height_free

  a_name : is_name file.name ≡ true
  unfolding is_name
  a_name = both (lt-ltb 0 (length file.name) form.named) (both (le-leb (length file.name) 16 form.short_name) form.letters)

  good_params : is_params line ≡ true
  unfolding line
  good_params = (line_there params_word refl file.params form.some_params form.patterns).0

  pub file_there : is_file (text_of file) ≡ true
  unfolding is_file is_named is_wide is_high
  file_there =
      both (le-leb (length (text_of file)) longest form.short)
      (both (ap (λ (s : List ℕ). same s camera_word) the_word ∙ same_self camera_word)
      (both (ap is_name the_name ∙ a_name)
      (both (ap is_number the_width ∙ decimal_number file.width form.wide form.narrow)
      (both (ap is_number the_height ∙ decimal_number file.height form.high form.low)
      (ap is_params to_params ∙ good_params)))))

  the_size : worth 0 (before tab (past tab (past tab (text_of file)))) ≡ file.width
  the_size = ap (worth 0) the_width ∙ decimal_worth file.width

  the_rows : worth 0 (before newline (past tab (past tab (past tab (text_of file))))) ≡ file.height
  the_rows = ap (worth 0) the_height ∙ decimal_worth file.height

  the_params : params_of (past newline (past tab (past tab (past tab (text_of file))))) ≡ file.params
  unfolding line
  the_params = ap params_of to_params ∙ (line_there params_word refl file.params form.some_params form.patterns).1

  pub file_same : file_of (text_of file) ≡ file
  unfolding file_of
  file_same =
      ap₂ (λ (name : List ℕ) (width : ℕ). filed name width (worth 0 (before newline (past tab (past tab (past tab (text_of file)))))) (params_of (past newline (past tab (past tab (past tab (text_of file))))))) the_name the_size
      ∙ ap₂ (filed file.name file.width) the_rows the_params

-- ---- back: what is read was written

filled : (b : ℕ) (l : List ℕ) → 0 < length (before b l) → 0 < length l
unfolding before
filled b l h = omega (arith, length-take (place b l) l)

module _ (text : List ℕ) (e : is_file text ≡ true) where
  named' : List ℕ
  named' = past tab text

  wide' : List ℕ
  wide' = past tab named'

  high' : List ℕ
  high' = past tab wide'

  line' : List ℕ
  line' = past newline high'

  short : length text ≤ longest
  unfolding is_file
  short = leb-true (length text) longest (and_left (leb (length text) longest) (same (before tab text) camera_word && is_named (past tab text)) e)

  from_word : (same (before tab text) camera_word && is_named named') ≡ true
  unfolding is_file named'
  from_word = and_right (leb (length text) longest) (same (before tab text) camera_word && is_named (past tab text)) e

  word : before tab text ≡ camera_word
  word = same_true (before tab text) camera_word (and_left (same (before tab text) camera_word) (is_named named') from_word)

  from_name : (is_name (before tab named') && is_wide wide') ≡ true
  unfolding is_named wide'
  from_name = and_right (same (before tab text) camera_word) (is_named named') from_word

  name_good : is_name (before tab named') ≡ true
  name_good = and_left (is_name (before tab named')) (is_wide wide') from_name

  from_width : (is_number (before tab wide') && is_high high') ≡ true
  unfolding is_wide high'
  from_width = and_right (is_name (before tab named')) (is_wide wide') from_name

  width_good : is_number (before tab wide') ≡ true
  width_good = and_left (is_number (before tab wide')) (is_high high') from_width

  from_height : (is_number (before newline high') && is_params line') ≡ true
  unfolding is_high line'
  from_height = and_right (is_number (before tab wide')) (is_high high') from_width

  height_good : is_number (before newline high') ≡ true
  height_good = and_left (is_number (before newline high')) (is_params line') from_height

  params_good : is_params line' ≡ true
  params_good = and_right (is_number (before newline high')) (is_params line') from_height

  line_filled : 0 < length line'
  line_filled = omega (arith, line_many params_word line' params_good)

  high_is : high' ≡ before newline high' ++ newline ∷ line'
  unfolding line'
  high_is = parted newline high' line_filled

  wide_is : wide' ≡ before tab wide' ++ tab ∷ high'
  unfolding high'
  wide_is = parted tab wide' (filled newline high' (number_some (before newline high') height_good))

  named_is : named' ≡ before tab named' ++ tab ∷ wide'
  unfolding wide'
  named_is = parted tab named' (filled tab wide' (number_some (before tab wide') width_good))

  name_full : 0 < length (before tab named')
  unfolding is_name
  name_full = ltb-true 0 (length (before tab named')) (and_left (ltb 0 (length (before tab named'))) (leb (length (before tab named')) 16 && all letter (before tab named')) name_good)

  name_rest : (leb (length (before tab named')) 16 && all letter (before tab named')) ≡ true
  unfolding is_name
  name_rest = and_right (ltb 0 (length (before tab named'))) (leb (length (before tab named')) 16 && all letter (before tab named')) name_good

  text_is : text ≡ before tab text ++ tab ∷ named'
  unfolding named'
  text_is = parted tab text (filled tab named' name_full)

  -- the text with each field written anew
  pub text_back : text ≡ text_of (file_of text)
  unfolding text_of camera_line file_of named' wide' high' line'
  text_back =
      let name = before tab named' in
      let width = decimal (worth 0 (before tab wide')) in
      let height = decimal (worth 0 (before newline high')) in
      let params = params_line (params_of line') in
      let a : line' ≡ params = line_back params_word line' params_good in
      let b : high' ≡ height ++ newline ∷ params = high_is ∙ ap₂ (λ (s t : List ℕ). s ++ newline ∷ t) (number_decimal (before newline high') height_good) a in
      let c : wide' ≡ width ++ tab ∷ (height ++ newline ∷ params) = wide_is ∙ ap₂ (λ (s t : List ℕ). s ++ tab ∷ t) (number_decimal (before tab wide') width_good) b in
      let d : named' ≡ name ++ tab ∷ (width ++ tab ∷ (height ++ newline ∷ params)) = named_is ∙ ap (λ (t : List ℕ). name ++ tab ∷ t) c in
      let f : text ≡ camera_word ++ tab ∷ (name ++ tab ∷ (width ++ tab ∷ (height ++ newline ∷ params))) = text_is ∙ ap₂ (λ (s t : List ℕ). s ++ tab ∷ t) word d in
      f ∙ simp append_assoc

  the_name_form : (1 ≤ length (file_of text).name) × (length (file_of text).name ≤ 16)
  unfolding file_of named'
  the_name_form = (name_full, leb-true (length (before tab named')) 16 (and_left (leb (length (before tab named')) 16) (all letter (before tab named')) name_rest))

  the_letters : all letter (file_of text).name ≡ true
  unfolding file_of named'
  the_letters = and_right (leb (length (before tab named')) 16) (all letter (before tab named')) name_rest

  the_width_form : (1 ≤ (file_of text).width) × ((file_of text).width ≤ 9999)
  unfolding file_of named' wide'
  the_width_form = number_range (before tab wide') width_good

  the_height_form : (1 ≤ (file_of text).height) × ((file_of text).height ≤ 9999)
  unfolding file_of named' wide' high'
  the_height_form = number_range (before newline high') height_good

  the_params_form : (1 ≤ length (file_of text).params) × (all pattern (file_of text).params ≡ true)
  unfolding file_of named' wide' high' line'
  the_params_form = (line_some params_word line' params_good, line_patterns params_word line' params_good)

  pub form_back : Form (file_of text)
  form_back =
      let f : length (text_of (file_of text)) ≡ length text = ap length (sym text_back) in
      record {
        named = the_name_form.0;
        short_name = the_name_form.1;
        letters = the_letters;
        wide = the_width_form.0;
        narrow = the_width_form.1;
        high = the_height_form.0;
        low = the_height_form.1;
        some_params = the_params_form.0;
        patterns = the_params_form.1;
        short = omega (arith, short);
      }
