-- A line that starts with a word, and one that does not. Assumes nothing.
use mathlib.Core.Path.{◌≡◌, refl, sym, ap, ◌∙◌}
use mathlib.Core.Bool.{Bool, true, false, cond, true≢false}
use mathlib.Core.List.{List, [], ◌∷◌}
use Prim.Native.Nat.{ℕ}
use native.Mathlib.Omega.{arith}
use borrow.Author.Tests.{eq-eqb, eqb-true}
use lib.Dec.{eqb}
use lib.ListN.{length, take, drop}
use Rattle.std.proofs.Common.{Option, None}
use Rattle.std.specs.Str.{bytes_eq}
use Rattle.std.proofs.lemmas.Slice.Eq.{bytes_eq-Decides}
use Rattle.hexadecimal.specs.Hex.{spelled, after}

never : {w : ℕ} {word : List ℕ} → [] ≡ w ∷ word → ⊥
never e = omega (arith, ap length e)

head : {a b : ℕ} {s t : List ℕ} → a ∷ s ≡ b ∷ t → a ≡ b
head e = cc

tail : {a b : ℕ} {s t : List ℕ} → a ∷ s ≡ b ∷ t → s ≡ t
tail e = cc

at_word : (word line : List ℕ) → take (length word) line ≡ word → spelled (drop (length word) line) ≡ after word line
unfolding after
at_word [] line e = refl
at_word (w ∷ word) [] e = absurd (never e)
at_word (w ∷ word) (b ∷ line) e = simp (eq-eqb w b (sym (head e))) (at_word word line (tail e))

-- the rest of the line, as `strip_prefix` gives it
pub after_word :
    (word line rest : List ℕ) → bytes_eq (take (length word) line) word ≡ true → rest ≡ drop (length word) line → spelled rest ≡ after word line
after_word word line rest t e = ap spelled e ∙ at_word word line ((bytes_eq-Decides (take (length word) line) word).0 t)

-- the first bytes are equal, by their test, or not
first :
    {w b : ℕ} {word line : List ℕ} {rest : Option ℕ} (t : Bool) →
    eqb w b ≡ t →
    ((line ≡ word → ⊥) → None ≡ rest) →
    (b ∷ line ≡ w ∷ word → ⊥) →
    None ≡ cond t rest None
first {w} {b} true e more ne = more (λ f. ne (cc (eqb-true w b e)))
first false e more ne = refl

pub after_other : (word line : List ℕ) → (take (length word) line ≡ word → ⊥) → None ≡ after word line
unfolding after
after_other [] line ne = absurd (ne refl)
after_other (w ∷ word) [] ne = refl
after_other (w ∷ word) (b ∷ line) ne = first (eqb w b) refl (after_other word line) ne

pub after_unlike : (word line : List ℕ) → bytes_eq (take (length word) line) word ≡ false → None ≡ after word line
after_unlike word line t =
    after_other word line (λ e. true≢false (sym ((bytes_eq-Decides (take (length word) line) word).1 e) ∙ t))
