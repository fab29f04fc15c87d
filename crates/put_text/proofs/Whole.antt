-- Texts that fit are put as one text. Assumes nothing.
use mathlib.Core.Path.{◌≡◌, refl, sym, ap, ap₂, ◌∙◌}
use mathlib.Core.List.{List, [], ◌∷◌, ◌++◌, append_assoc, append-nil}
use Prim.Native.Nat.{ℕ, ◌+◌, ◌≤◌}
use native.Mathlib.Nat.{add-zero}
use native.Mathlib.Omega.{arith}
use borrow.Author.Tests.{le-leb}
use lib.ListN.{length, take, drop, length-append, length-drop, take-append-drop}
use lib.Seq.{take_at, drop_at, drop-drop, length-take-le}
use Rattle.put_text.specs.Placed.{Written, written, with_text, placed, placed_all, each_placed, joined}
use Rattle.put_text.proofs.Putting.{is_placed}

module _ (out : List ℕ) (at : ℕ) (text : List ℕ) (h : at + length text ≤ length out) where
  front_length : length (take at out ++ text) ≡ at + length text
  front_length = length-append (take at out) text ∙ ap (λ (k : ℕ). k + length text) (length-take-le at out (omega arith))

  pub front_is : take (at + length text) (with_text (written out at) text).out ≡ take at out ++ text
  front_is = take_at (take at out ++ text) (drop (at + length text) out) (at + length text) front_length

  pub back_is : drop (at + length text) (with_text (written out at) text).out ≡ drop (at + length text) out
  back_is = drop_at (take at out ++ text) (drop (at + length text) out) (at + length text) front_length

  pub as_long : length (with_text (written out at) text).out ≡ length out
  as_long =
      length-append (take at out ++ text) (drop (at + length text) out)
      ∙ ap₂ (λ (x y : ℕ). x + y) front_length (length-drop (at + length text) out)
      ∙ omega arith

  -- a text and then another is the two as one
  pub two_texts : (more : List ℕ) → with_text (with_text (written out at) text) more ≡ with_text (written out at) (text ++ more)
  two_texts more =
      let n : at + length text + length more ≡ at + length (text ++ more) = omega (arith, length-append text more) in
      let b : drop (at + length text + length more) (with_text (written out at) text).out ≡ drop (at + length text + length more) out =
      sym (drop-drop (length more) (at + length text) (with_text (written out at) text).out)
      ∙ ap (drop (length more)) back_is
      ∙ drop-drop (length more) (at + length text) out in
      ap₂ (λ (x y : List ℕ). written (x ++ more ++ y) (at + length text + length more)) front_is b
      ∙ ap (λ (l : List ℕ). written (l ++ drop (at + length text + length more) out) (at + length text + length more)) (append_assoc (take at out) text more)
      ∙ ap (λ (k : ℕ). written (take at out ++ (text ++ more) ++ drop k out) k) n

none_put : (out : List ℕ) (at : ℕ) → with_text (written out at) [] ≡ written out at
none_put out at =
    ap₂ (λ (l : List ℕ) (k : ℕ). written (l ++ drop k out) k) (append-nil (take at out)) (add-zero at)
    ∙ ap (λ (l : List ℕ). written l at) (take-append-drop at out)

-- texts, and then more
pub each_more : (w : Written) (texts more : List (List ℕ)) → each_placed w (texts ++ more) ≡ each_placed (each_placed w texts) more
unfolding each_placed
each_more w [] more = refl
each_more w (text ∷ texts) more = each_more (placed w text) texts more

pub each_put :
    (out : List ℕ) (at : ℕ) (texts : List (List ℕ)) →
    at + length (joined texts) ≤ length out →
    each_placed (written out at) texts ≡ with_text (written out at) (joined texts)
unfolding each_placed joined
each_put out at [] h = sym (none_put out at)
each_put out at (text ∷ texts) h =
    let n : length (text ++ joined texts) ≡ length text + length (joined texts) = length-append text (joined texts) in
    let i : at + length text ≤ length out = omega arith in
    let j : at + length text + length (joined texts) ≤ length (with_text (written out at) text).out = omega (arith, as_long out at text i) in
    ap (λ (w : Written). each_placed w texts) (is_placed out at text i)
    ∙ each_put (with_text (written out at) text).out (at + length text) texts j
    ∙ two_texts out at text i (joined texts)

-- where all fit, none is the first that does not
none_left_out :
    (out : List ℕ) (at : ℕ) (texts : List (List ℕ)) →
    at + length (joined texts) ≤ length out →
    placed_all (written out at) texts ≡ each_placed (written out at) texts
unfolding placed_all each_placed joined
none_left_out out at [] h = refl
none_left_out out at (text ∷ texts) h =
    let n : length (text ++ joined texts) ≡ length text + length (joined texts) = length-append text (joined texts) in
    let i : at + length text ≤ length out = omega arith in
    let j : at + length text + length (joined texts) ≤ length (with_text (written out at) text).out = omega (arith, as_long out at text i) in
    let e = is_placed out at text i in
    simp (le-leb (at + length text) (length out) i)
    (ap (λ (w : Written). placed_all w texts) e
    ∙ none_left_out (with_text (written out at) text).out (at + length text) texts j
    ∙ ap (λ (w : Written). each_placed w texts) (sym e))

pub all_placed : (out : List ℕ) (at : ℕ) (texts : List (List ℕ)) → at + length (joined texts) ≤ length out → placed_all (written out at) texts ≡ placed (written out at) (joined texts)
all_placed out at texts h = none_left_out out at texts h ∙ each_put out at texts h ∙ sym (is_placed out at (joined texts) h)
