-- What the fields of a text decide. Assumes nothing.
use mathlib.Core.Path.{◌≡◌, refl, sym, ap, ap₂, ◌∙◌}
use mathlib.Core.Bool.{Bool, true, false, cond, ◌&&◌}
use mathlib.Core.List.{List}
use Prim.Native.Nat.{ℕ, ◌≤◌, ◌<◌}
use native.Mathlib.Omega.{arith}
use borrow.Author.Tests.{lt-ltb, le-ltb, le-leb, lt-leb}
use lib.Dec.{leb}
use lib.ListN.{length}
use Rattle.std.proofs.Common.{Some, None, Err}
use Rattle.lens.specs.declared.Refusal.TheVariants.{NotTheForm}
use Rattle.decimal.specs.Decimal.{worth, number_in, is_number}
use Rattle.decimal.specs.Text.{tab, newline, all, same, before, past}
use Rattle.decimal.proofs.Numbers.{number_is, number_isnt}
use Rattle.params_line.specs.Params.{is_params, params_of}
use Rattle.camera_file.specs.Text.{camera_word, letter, longest}
use Rattle.camera_file.specs.Reading.{is_name, is_high, is_wide, is_named, is_file, file_of, read}
use Rattle.camera_file.specs.Asked.{model, asked_of, asked, asked_if, parsed}

-- ---- a name

module _ (field : List ℕ) where
  pub name_letters : (r : Bool) → 0 < length field → length field ≤ 16 → r ≡ all letter field → r ≡ is_name field
  unfolding is_name
  name_letters r full short e = simp (lt-ltb 0 (length field) full, le-leb (length field) 16 short) e

  pub name_long : 16 < length field → false ≡ is_name field
  unfolding is_name
  name_long long = simp (lt-ltb 0 (length field) (omega arith), lt-leb (length field) 16 long)

  pub name_empty : length field ≤ 0 → false ≡ is_name field
  unfolding is_name
  name_empty h = simp (le-ltb 0 (length field) h)

-- ---- the fields of a text

pub record Fields (text word named name sized width high height line : List ℕ) : Type 0 where
  pub word_is : word ≡ before tab text
  pub named_is : named ≡ past tab text
  pub name_is : name ≡ before tab named
  pub sized_is : sized ≡ past tab named
  pub width_is : width ≡ before tab sized
  pub high_is : high ≡ past tab sized
  pub height_is : height ≡ before newline high
  pub line_is : line ≡ past newline high

-- Fields that are cut off already, and by refl those that are not yet.
pub fields :
    {text word named name sized width high height line : List ℕ}
    → word ≡ before tab text → named ≡ past tab text
    → name ≡ before tab named → sized ≡ past tab named
    → width ≡ before tab sized → high ≡ past tab sized
    → height ≡ before newline high → line ≡ past newline high
    → Fields text word named name sized width high height line
fields a b c d e f g h = record {
  word_is = a;
  named_is = b;
  name_is = c;
  sized_is = d;
  width_is = e;
  high_is = f;
  height_is = g;
  line_is = h;
}

module _ {text word named name sized width high height line : List ℕ} (f : Fields text word named name sized width high height line) where
  tests : is_file text ≡ (leb (length text) longest && (same word camera_word && (is_name name && (is_number width && (is_number height && is_params line)))))
  unfolding is_file is_named is_wide is_high
  tests = rw (f.word_is, f.line_is, f.height_is, f.high_is, f.width_is, f.sized_is, f.name_is, f.named_is)

  told : file_of text ≡ record { name = name; width = worth 0 width; height = worth 0 height; params = params_of line }
  unfolding file_of
  told = rw (f.line_is, f.height_is, f.high_is, f.width_is, f.sized_is, f.name_is, f.named_is)

  refused : is_file text ≡ false → Err NotTheForm ≡ parsed text
  unfolding read
  refused e = ap (λ (t : Bool). asked_if (cond t (Some (file_of text)) None)) (sym e)

  -- where one of the tests fails, the text is refused
  pub not_short : longest < length text → Err NotTheForm ≡ parsed text
  not_short h = refused (tests ∙ simp (lt-leb (length text) longest h))

  module _ (short : length text ≤ longest) where
    pub other_word : same word camera_word ≡ false → Err NotTheForm ≡ parsed text
    other_word e = refused (tests ∙ simp (le-leb (length text) longest short, e))

    module _ (w : same word camera_word ≡ true) where
      pub no_name : is_name name ≡ false → Err NotTheForm ≡ parsed text
      no_name e = refused (tests ∙ simp (le-leb (length text) longest short, w, e))

      module _ (n : is_name name ≡ true) where
        rest : (is_number width && (is_number height && is_params line)) ≡ false → Err NotTheForm ≡ parsed text
        rest e = refused (tests ∙ simp (le-leb (length text) longest short, w, n, e))

        pub no_params : is_params line ≡ false → Err NotTheForm ≡ parsed text
        no_params e = rest (ap (λ (t : Bool). is_number width && (is_number height && t)) e ∙ ends (is_number width) (is_number height))
          where
            ends : (t u : Bool) → (t && (u && false)) ≡ false
            ends true true = refl
            ends true false = refl
            ends false u = refl

        pub no_width : number_in width ≡ None → Err NotTheForm ≡ parsed text
        no_width e = rest (simp (number_isnt width e))

        pub no_height : number_in height ≡ None → Err NotTheForm ≡ parsed text
        no_height e = rest (simp (number_isnt height e) (ends (is_number width)))
          where
            ends : (t : Bool) → (t && false) ≡ false
            ends true = refl
            ends false = refl

        -- where all hold, what is asked for is told
        pub of_form : (w h : ℕ) → number_in width ≡ Some w → number_in height ≡ Some h → is_params line ≡ true → asked_of (model name) w h (params_of line) ≡ parsed text
        unfolding read
        of_form x y e d p =
            let a = number_is width x e in
            let b = number_is height y d in
            let t : is_file text ≡ true = tests ∙ simp (le-leb (length text) longest short, w, n, a.0, b.0, p) in
            ap₂ (λ (i j : ℕ). asked_of (model name) i j (params_of line)) (sym a.1) (sym b.1)
            ∙ ap asked (sym told)
            ∙ ap (λ (t : Bool). asked_if (cond t (Some (file_of text)) None)) (sym t)
