-- What a caller may rely on, of the definitions of specs/ and of the contract of src/. Assumes nothing.
use mathlib.Core.Path.{◌≡◌, refl, sym, ap, subst, ◌∙◌}
use mathlib.Core.Bool.{Bool, true, false, not, cond}
use mathlib.Core.List.{List}
use Rattle.std.proofs.Common.{Option, Some, None, Result, Ok, Err}
use Prim.Native.Nat.{ℕ}
use native.Mathlib.Omega.{arith}
use lib.Dec.{eqb}
use lib.ListN.{length}
use Rattle.exact.specs.Determined.{Determined}
use Rattle.lens.specs.Rows.{first}
use Rattle.lens.specs.declared.Refusal.{Refusal}
use Rattle.lens.specs.declared.Refusal.TheVariants as refusals
use Rattle.lens.proofs.Laws.{number_one_to_one, number_within}
use Rattle.camera.specs.declared.Camera.{Camera}
use Rattle.camera_file.specs.Text.{CameraFile, text_of, Form}
use Rattle.camera_file.specs.Reading.{is_file, file_of, read}
use Rattle.camera.specs.Numbers.{models, count}
use Rattle.camera_file.specs.Asked.{names, model, camera_of, asked_of, asked, asked_if, parsed, ToldFile, told_file}
use Rattle.camera_file.specs.declared.Asked.{Asked}
use Rattle.camera_file.specs.Rows.{is_unknown, wrong_count, file_rows}
use Rattle.camera_file.proofs.Whole.{file_there, file_same, text_back, form_back}
use Rattle.camera_file.proofs.parse.Reads as parse-contract

-- ---- reading and writing

-- A camera file that is written and read is the same camera file.
pub written_read : (file : CameraFile) → Form file → read (text_of file) ≡ Some file
unfolding read
written_read file form = ap (λ (t : Bool). cond t (Some (file_of (text_of file))) None) (file_there file form) ∙ ap Some (file_same file form)

taken : (text : List ℕ) (file : CameraFile) (t : Bool) → is_file text ≡ t → cond t (Some (file_of text)) None ≡ Some file → (text ≡ text_of file) × Form file
taken text file true e f =
    let s : file_of text ≡ file = cc in
    (text_back text e ∙ ap text_of s, subst Form s (form_back text e))
taken text file false e f = cc

-- A text that is read as a camera file is what is written of it, and that camera file is of the form: there is one text for each.
pub read_written : (text : List ℕ) (file : CameraFile) → read text ≡ Some file → (text ≡ text_of file) × Form file
unfolding read
read_written text file e = taken text file (is_file text) refl e

-- ---- the names

-- Every model has a name, and there are no more: the names are as many as the camera's models.
pub named_all : length names ≡ length models
named_all = refl

-- ---- the refusals

by_count :
    (t : Bool) (camera : Camera) (width height : ℕ)
    → (told_file (cond t (Ok record { camera = camera; width = width; height = height }) (Err refusals.WrongCount))).number ≡ cond (not t) 3 0
by_count true camera width height = refl
by_count false camera width height = refl

asked_number :
    (m : Option ℕ) (width height : ℕ) (params : List ℕ)
    → (told_file (asked_of m width height params)).number ≡ cond (is_unknown m) 1 (cond (wrong_count m (length params)) 3 0)
asked_number (Some m) width height params = by_count (eqb (length params) (count m)) (camera_of m params) width height
asked_number None width height params = refl

by_form :
    (t : Bool) (file : CameraFile) {n : ℕ}
    → (told_file (asked file)).number ≡ n → (told_file (asked_if (cond t (Some file) None))).number ≡ cond (not t) 14 n
by_form true file e = e
by_form false file e = refl

-- A camera file gives 14, 1 or 3 exactly when the table says so, in this order, and 0 if none holds.
pub file_number : (text : List ℕ) → (told_file (parsed text)).number ≡ first (file_rows text)
unfolding read
file_number text =
    let file = file_of text in
    by_form (is_file text) file (asked_number (model file.name) file.width file.height file.params)

never_14 : (a b : Bool) → ◌≡◌ {A = ℕ} (cond a 1 (cond b 3 0)) 14 → ⊥
never_14 true b e = omega arith
never_14 false true e = omega arith
never_14 false false e = omega arith

-- A text that is refused with 14 is the text of no camera file of the form.
pub refused_form : (text : List ℕ) → (told_file (parsed text)).number ≡ 14 → (file : CameraFile) → Form file → text_of file ≡ text → ⊥
refused_form text e file form f =
    let r : read text ≡ Some file = ap read (sym f) ∙ written_read file form in
    let n = asked_number (model file.name) file.width file.height file.params in
    never_14 (is_unknown (model file.name)) (wrong_count (model file.name) (length file.params))
    (sym n ∙ sym (ap (λ (o : Option CameraFile). (told_file (asked_if o)).number) r) ∙ e)

not_written : (text : List ℕ) (t : Bool) → is_file text ≡ t → ((file : CameraFile) → Form file → text_of file ≡ text → ⊥)
    → (told_file (asked_if (cond t (Some (file_of text)) None))).number ≡ 14
not_written text true e h = absurd (h (file_of text) (form_back text e) (sym (text_back text e)))
not_written text false e h = refl

-- A text that is the text of no camera file of the form is refused with 14.
pub form_refused : (text : List ℕ) → ((file : CameraFile) → Form file → text_of file ≡ text → ⊥) → (told_file (parsed text)).number ≡ 14
unfolding read
form_refused text h = not_written text (is_file text) refl h

-- A camera file of the form, written and parsed, gives what it asks for: its camera and size, or 1 or 3.
pub written_parsed : (file : CameraFile) → Form file → parsed (text_of file) ≡ asked file
written_parsed file form = ap asked_if (written_read file form)

-- ---- the contract permits one answer

told_apart : (a : Asked) (r : Refusal) → told_file (Ok a) ≡ told_file (Err r) → ⊥
told_apart a r e = omega (arith, ap (λ (t : ToldFile). t.number) e, number_within r)

-- What is told of an answer determines it: two that tell the same number, camera and size are equal.
pub told_file_one_to_one : (a b : Result Asked Refusal) → told_file a ≡ told_file b → a ≡ b
told_file_one_to_one (Ok a) (Ok b) e = ap (λ (t : ToldFile). Ok record { camera = t.camera; width = t.width; height = t.height }) e
told_file_one_to_one (Ok a) (Err r) e = absurd (told_apart a r e)
told_file_one_to_one (Err r) (Ok a) e = absurd (told_apart a r (sym e))
told_file_one_to_one (Err q) (Err r) e = ap Err (number_one_to_one q r (ap (λ (t : ToldFile). t.number) e))

-- Any two answers to one call that the contract of `parse` permits are equal.
pub parse_determined : Determined parse-contract.Post
parse_determined κ a s s' r r' p q = p ∙ sym q
