-- The model of a name, and its count. Assumes nothing.
use mathlib.Core.Path.{◌≡◌, refl, sym, ap, ◌∙◌}
use mathlib.Core.Bool.{Bool, true, false, not, true≢false, false≢true}
use mathlib.Core.List.{List}
use Prim.Native.Nat.{ℕ}
use borrow.Author.Tests.{eq-eqb, ne_eqb}
use lib.ListN.{length}
use Rattle.std.proofs.Common.{Some, None, Ok, Err}
use Rattle.lens.specs.declared.Refusal.TheVariants.{WrongCount}
use Rattle.camera.specs.Numbers.{count}
use Rattle.camera.specs.declared.Camera.{Camera}
use Rattle.decimal.specs.Text.{same}
use Rattle.params_line.specs.Params.{many, params_of}
use Rattle.params_line.proofs.Params.{params_length}
use Rattle.camera_file.specs.Asked.{affine_word, eucm_word, kb_word, bc_word, bc12_word, model, camera_of, asked_of}

-- ---- the model's count

module _ (line : List ℕ) (width height m n k : ℕ) (f : n ≡ many line) (g : k ≡ count m) where
  long : length (params_of line) ≡ n
  long = params_length line ∙ sym f

  pub asked_right : n ≡ k → (camera : Camera) → camera ≡ camera_of m (params_of line) → Ok record { camera = camera; width = width; height = height } ≡ asked_of (Some m) width height (params_of line)
  asked_right h camera c =
      ap (λ (x : Camera). Ok record { camera = x; width = width; height = height }) c
      ∙ simp (eq-eqb (length (params_of line)) (count m) (long ∙ h ∙ g))

  pub asked_wrong : (n ≡ k → ⊥) → Err WrongCount ≡ asked_of (Some m) width height (params_of line)
  asked_wrong h = simp (ne_eqb (length (params_of line)) (count m) (λ z. h (sym long ∙ z ∙ sym g)))

-- ---- the model of a name, once it is compared so far

-- what `==` tells of a word, which the code has as a slice
pub told : (name : List ℕ) {word slice : List ℕ} {r b : Bool} → slice ≡ word → r ≡ same name slice → r ≡ b → same name word ≡ b
told name e f g = ap (same name) (sym e) ∙ sym f ∙ g

-- and what `!=` tells
pub unlike : (name : List ℕ) {word slice : List ℕ} {r : Bool} → slice ≡ word → r ≡ not (same name slice) → r ≡ true → same name word ≡ false
unlike name {word} {slice} e f g = ap (same name) (sym e) ∙ by_value (same name slice) (sym f ∙ g)
  where
    by_value : (t : Bool) → not t ≡ true → t ≡ false
    by_value false d = refl
    by_value true d = absurd (false≢true d)

pub alike : (name : List ℕ) {word slice : List ℕ} {r : Bool} → slice ≡ word → r ≡ not (same name slice) → r ≡ false → same name word ≡ true
alike name {word} {slice} e f g = ap (same name) (sym e) ∙ by_value (same name slice) (sym f ∙ g)
  where
    by_value : (t : Bool) → not t ≡ false → t ≡ true
    by_value true d = refl
    by_value false d = absurd (true≢false d)

module _ (name : List ℕ) where
  pub is_affine : same name affine_word ≡ true → Some 0 ≡ model name
  unfolding model
  is_affine a = simp a

  module _ (a : same name affine_word ≡ false) where
    pub is_eucm : same name eucm_word ≡ true → Some 1 ≡ model name
    unfolding model
    is_eucm b = simp (a, b)

    module _ (b : same name eucm_word ≡ false) where
      pub is_kb : same name kb_word ≡ true → Some 2 ≡ model name
      unfolding model
      is_kb c = simp (a, b, c)

      module _ (c : same name kb_word ≡ false) where
        pub is_bc : same name bc_word ≡ true → Some 3 ≡ model name
        unfolding model
        is_bc d = simp (a, b, c, d)

        module _ (d : same name bc_word ≡ false) where
          pub is_bc12 : same name bc12_word ≡ true → Some 4 ≡ model name
          unfolding model
          is_bc12 e = simp (a, b, c, d, e)

          pub is_none : same name bc12_word ≡ false → None ≡ model name
          unfolding model
          is_none e = simp (a, b, c, d, e)
