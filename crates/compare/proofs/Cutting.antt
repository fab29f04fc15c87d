-- A text is cut into the lines that it is made of, where none is too long; and whatever it is cut into makes up the
-- text. Assumes nothing.
use mathlib.Core.Path.{◌≡◌, refl, ap, ◌∙◌}
use mathlib.Core.Bool.{Bool, true, false, cond}
use mathlib.Core.List.{List, [], ◌∷◌, ◌++◌}
use Prim.Native.Nat.{ℕ, zero, suc, ◌≤◌}
use native.Mathlib.Omega.{arith}
use borrow.Author.Tests.{eq-eqb, ne_eqb}
use lib.Dec.{eqb}
use lib.ListN.{length}
use Rattle.put_text.specs.Placed.{joined}
use Rattle.listing_lines.specs.Line.{line}
use Rattle.listing_lines.specs.Read.{onto}
use Rattle.listing_lines.proofs.Back.{Plain, Plains}
use Rattle.compare.specs.Judged.{longest, cut}

-- ---- the pieces make up the text

joined_onto : (b : ℕ) (ls : List (List ℕ)) → joined (onto b ls) ≡ b ∷ joined ls
unfolding joined
joined_onto b [] = refl
joined_onto b (l ∷ ls) = refl

pub joined_cut : (room : ℕ) (text : List ℕ) → joined (cut room text) ≡ text
unfolding cut joined
joined_cut room [] = refl
joined_cut zero (b ∷ text) = ap (λ (t : List ℕ). b ∷ t) (joined_cut longest text)
joined_cut (suc zero) (b ∷ text) = ap (λ (t : List ℕ). b ∷ t) (joined_cut longest text)
joined_cut (suc (suc room)) (b ∷ text) = by_end (eqb b 10) (joined_cut longest text) (joined_cut (suc room) text)
  where
    by_end :
        (t : Bool) →
        joined (cut longest text) ≡ text →
        joined (cut (suc room) text) ≡ text →
        joined (cond t ((b ∷ []) ∷ cut longest text) (onto b (cut (suc room) text))) ≡ b ∷ text
    by_end true e f = ap (λ (t : List ℕ). b ∷ t) e
    by_end false e f = joined_onto b (cut (suc room) text) ∙ ap (λ (t : List ℕ). b ∷ t) f

-- ---- a line that is ended, and not before

abbrev pub Ended : List ℕ → Type 0
Ended [] = ⊥
Ended (b ∷ []) = b ≡ 10
Ended (b ∷ c ∷ text) = (b ≡ 10 → ⊥) × Ended (c ∷ text)

behind : (b : ℕ) (t : List ℕ) → (b ≡ 10 → ⊥) → Ended t → Ended (b ∷ t)
behind b [] ne e = absurd e
behind b (c ∷ t) ne e = (ne, e)

plain_ended : (s t : List ℕ) → Plain s → Ended t → Ended (s ++ t)
plain_ended [] t p e = e
plain_ended (b ∷ s) t p e = behind b (s ++ t) (λ f. omega (arith, p.0, f)) (plain_ended s t p.1 e)

pub line_ended : (word : List ℕ) (texts : List (List ℕ)) → Plain word → Plains texts → Ended (line word texts)
unfolding line
line_ended word [] p q = plain_ended word (10 ∷ []) p refl
line_ended word (text ∷ texts) p q =
    plain_ended word (9 ∷ line text texts) p (behind 9 (line text texts) (λ e. omega (arith, e)) (line_ended text texts q.0 q.1))

-- ---- cut at its end

cut_ended : (s rest : List ℕ) (room : ℕ) → Ended s → length s ≤ suc room → cut (suc room) (s ++ rest) ≡ s ∷ cut longest rest
unfolding cut
cut_ended [] rest room e h = absurd e
cut_ended (b ∷ []) rest zero e h = refl
cut_ended (b ∷ []) rest (suc room) e h = simp (eq-eqb b 10 e)
cut_ended (b ∷ c ∷ s) rest zero e h = absurd (omega arith)
cut_ended (b ∷ c ∷ s) rest (suc room) e h =
    simp (ne_eqb b 10 e.0) (ap (onto b) (cut_ended (c ∷ s) rest room e.1 (omega arith)))

-- lines that are held whole
abbrev pub Held : List (List ℕ) → Type 0
Held [] = Unit {0}
Held (text ∷ texts) = (Ended text × (length text ≤ longest)) × Held texts

pub cut_joined : (texts : List (List ℕ)) → Held texts → cut longest (joined texts) ≡ texts
unfolding cut joined
cut_joined [] h = refl
cut_joined (text ∷ texts) h =
    cut_ended text (joined texts) 95 h.0.0 h.0.1 ∙ ap (λ (l : List (List ℕ)). text ∷ l) (cut_joined texts h.1)
