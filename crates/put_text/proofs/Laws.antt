-- What a caller may rely on, of the definitions of specs/ and of the contract of src/. Assumes nothing.
use mathlib.Core.Path.{◌≡◌, sym, ap, ◌∙◌}
use mathlib.Core.List.{List, ◌++◌}
use Prim.Native.Nat.{ℕ, ◌+◌, ◌≤◌, ◌<◌}
use lib.ListN.{length, take, drop}
use Rattle.exact.specs.Determined.{DeterminedWith}
use Rattle.put_text.specs.Placed.{Written, written, with_text, placed, placed_all, each_placed, joined}
use Rattle.put_text.proofs.Putting.{not_placed, is_placed}
use Rattle.put_text.proofs.Whole.{front_is, back_is, each_put, all_placed}
use Rattle.put_text.proofs.put.Reads as put-contract

-- Two buffers and places that are written alike are alike, each by itself.
pub both : {o o' : List ℕ} {r r' : ℕ} → written o r ≡ written o' r' → (r ≡ r') × (o ≡ o')
both e = (ap (λ (w : Written). w.at) e, ap (λ (w : Written). w.out) e)

-- Any two answers that the contract of `put` permits to one call are equal, and so are any two buffers at the return.
pub put_determined : DeterminedWith put-contract.Post (λ κ s. s.0.now)
put_determined κ a s s' r r' p q = both (p ∙ sym q)

-- ---- a text in a buffer

module _ (out : List ℕ) (at : ℕ) (text : List ℕ) (h : at + length text ≤ length out) where
  -- Where a text fits, the bytes up to its end are those that stood before it, and then the text.
  pub text_in_place : take (at + length text) (placed (written out at) text).out ≡ take at out ++ text
  text_in_place = ap (λ (w : Written). take (at + length text) w.out) (is_placed out at text h) ∙ front_is out at text h

  -- What follows it is as it was.
  pub rest_as_it_was : drop (at + length text) (placed (written out at) text).out ≡ drop (at + length text) out
  rest_as_it_was = ap (λ (w : Written). drop (at + length text) w.out) (is_placed out at text h) ∙ back_is out at text h

  -- The place after it is as many bytes further as the text has.
  pub place_behind : (placed (written out at) text).at ≡ at + length text
  place_behind = ap (λ (w : Written). w.at) (is_placed out at text h)

-- Where it does not fit, the buffer and the place are as they were.
pub no_room_nothing_put : (out : List ℕ) (at : ℕ) (text : List ℕ) → length out < at + length text → placed (written out at) text ≡ written out at
no_room_nothing_put out at text h = sym (not_placed out at text h)

-- Where texts fit one after the other, what is put text by text is all of them put as one.
pub texts_in_place :
    (out : List ℕ) (at : ℕ) (texts : List (List ℕ)) →
    at + length (joined texts) ≤ length out →
    placed_all (written out at) texts ≡ placed (written out at) (joined texts)
texts_in_place = all_placed

-- The same where a text that does not fit would be left out: where all fit, they stand there as one.
pub each_in_place :
    (out : List ℕ) (at : ℕ) (texts : List (List ℕ)) →
    at + length (joined texts) ≤ length out →
    each_placed (written out at) texts ≡ with_text (written out at) (joined texts)
each_in_place = each_put
