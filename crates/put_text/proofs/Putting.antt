-- A text put into a buffer where it fits. Assumes nothing.
use mathlib.Core.Path.{◌≡◌, refl, sym, ap, ◌∙◌}
use mathlib.Core.Bool.{Bool, true, false, cond}
use mathlib.Core.List.{List, ◌∷◌, ◌++◌}
use Prim.Native.Nat.{ℕ, ◌+◌, ◌≤◌, ◌<◌}
use native.Mathlib.Omega.{arith}
use borrow.Author.Tests.{le-leb, lt-leb}
use lib.Dec.{leb}
use lib.ListN.{length, take, drop}
use lib.Seq.{take-length}
use borrow.Rule.Slice.PartMut.{put_mid}
use Rattle.std.proofs.lemmas.Slice.{put_mid-paste}
use Rattle.put_text.specs.Placed.{Written, written, with_text, placed, placed_all}

-- ---- putting

module _ (out : List ℕ) (at : ℕ) (text : List ℕ) where
  pub not_placed : length out < at + length text → written out at ≡ placed (written out at) text
  unfolding placed
  not_placed h = simp (lt-leb (at + length text) (length out) h)

  pub is_placed : at + length text ≤ length out → placed (written out at) text ≡ with_text (written out at) text
  unfolding placed
  is_placed h = simp (le-leb (at + length text) (length out) h)

  -- a text copied over the part from at on
  pub copy_placed :
      (part : List ℕ) (k : ℕ) →
      at + length text ≤ length out →
      part ≡ text →
      k ≡ length text →
      written (put_mid at k out part) (at + length text) ≡ placed (written out at) text
  copy_placed part k h e f =
      ap (λ (l : List ℕ). written l (at + length text))
      (put_mid-paste at k out part text (length text) e (sym f) refl
      ∙ ap (λ (l : List ℕ). take at out ++ l ++ drop (at + length text) out) (take-length text))
      ∙ sym (is_placed h)

pub put_same : (w w' : Written) (s t : List ℕ) → w ≡ placed w' s → s ≡ t → w ≡ placed w' t
put_same w w' s t e f = e ∙ ap (placed w') f

-- ---- one text after the other

module _ (w : Written) (text : List ℕ) (texts : List (List ℕ)) (out : List ℕ) (r : ℕ) (some : 0 < length text) (e : written out r ≡ placed w text) where
  by_room :
      (t : Bool) →
      written out r ≡ cond t (with_text w text) w →
      (r ≡ w.at → written out r ≡ cond t (placed_all (placed w text) texts) w)
      × ((r ≡ w.at → ⊥) → placed_all (written out r) texts ≡ cond t (placed_all (placed w text) texts) w)
  by_room true f =
      let n : r ≡ w.at + length text = ap (λ (v : Written). v.at) f in
      ((λ s. absurd (omega (arith, n, s))), (λ ne. ap (λ (v : Written). placed_all v texts) e))
  by_room false f = ((λ s. f), (λ ne. absurd (ne (ap (λ (v : Written). v.at) f))))

  -- a place that stays says that the text did not fit
  pub stopped : r ≡ w.at → written out r ≡ placed_all w (text ∷ texts)
  unfolding placed placed_all
  stopped s = (by_room (leb (w.at + length text) (length w.out)) e).0 s

  -- another place says that it did
  pub went_on : (r ≡ w.at → ⊥) → placed_all (written out r) texts ≡ placed_all w (text ∷ texts)
  unfolding placed placed_all
  went_on ne = (by_room (leb (w.at + length text) (length w.out)) e).1 ne
