-- What a caller may rely on, of the definitions of specs/ and of the contracts of src/. Assumes nothing.
use mathlib.Core.Path.{◌≡◌, refl, sym, ap, ◌∙◌}
use mathlib.Core.Bool.{Bool, true, false, cond}
use mathlib.Core.List.{List}
use Prim.Native.Nat.{ℕ, ◌≤◌, ◌<◌}
use native.Mathlib.Omega.{arith}
use borrow.Author.Tests.{eq-eqb, ne_eqb, eqb-false, lt-ltb, le-ltb}
use lib.Dec.{eqb, ltb}
use lib.ListN.{length}
use Rattle.exact.specs.Determined.{Determined}
use Rattle.given.specs.Given.{Given, given, code, answered}
use Rattle.given.proofs.Giving.{right_length}
use Rattle.given.proofs.code.Reads as code-contract
use Rattle.given.proofs.flag_number.Reads as flag-number-contract

-- Any two answers to one call that the contract of `code` permits are equal, and so for `flag_number`.
pub determined : Determined code-contract.Post × Determined flag-number-contract.Post
determined = (λ κ a s s' r r' p q. p ∙ sym q, λ κ a s s' r r' p q. p ∙ sym q)

-- What is given back is a number and a buffer.
pub both : {o o' : List ℕ} {r r' : ℕ} → given r o ≡ given r' o' → (r ≡ r') × (o ≡ o')
both e = (ap (λ (g : Given). g.code) e, ap (λ (g : Given). g.answer) e)

-- ---- the number and the buffer

-- The buffer as it was, unless the number is 0.
abbrev pub Untouched : Given → List ℕ → Type 0
Untouched g lent = (g.code ≡ 0 → ⊥) → g.answer ≡ lent

lower : (own : ℕ) (right : Bool) → 0 < own → own < 7 → code own right ≡ own
unfolding code
lower own true h l = refl
lower own false h l =
    ap (λ (b : Bool). cond b 7 (cond (ltb own 7) own 7)) (ne_eqb own 0 (omega arith)) ∙ ap (λ (b : Bool). cond b own 7) (lt-ltb own 7 l)

seven : (own : ℕ) (z : Bool) → eqb own 0 ≡ z → (0 < own → 7 ≤ own) → code own false ≡ 7
unfolding code
seven own true e o = ap (λ (b : Bool). cond b 7 (cond (ltb own 7) own 7)) e
seven own false e o =
    let above : 7 ≤ own = o (omega (arith, eqb-false own 0 e)) in
    ap (λ (b : Bool). cond b 7 (cond (ltb own 7) own 7)) e ∙ ap (λ (b : Bool). cond b own 7) (le-ltb own 7 above)

module _ (size own : ℕ) (new lent : List ℕ) where
  -- Unless the number is 0, the buffer is as it was.
  pub refused_kept : Untouched (answered size own new lent) lent
  unfolding answered
  refused_kept n = ap (λ (b : Bool). cond b new lent) (ne_eqb (code own (eqb (length lent) size)) 0 n)

  -- An operation that answers, before a buffer of its length: 0 and the answer's bytes, all of them.
  pub filled : own ≡ 0 → length lent ≡ size → answered size own new lent ≡ given 0 new
  unfolding answered code
  filled e f =
      let right : eqb (length lent) size ≡ true = eq-eqb (length lent) size f in
      let told : code own (eqb (length lent) size) ≡ 0 = ap (code own) right ∙ e in
      ap (λ (n : ℕ). given n (cond (eqb n 0) new lent)) told

  -- 0 is told in no other case.
  pub told_zero : (answered size own new lent).code ≡ 0 → (own ≡ 0) × (length lent ≡ size)
  unfolding answered code
  told_zero e =
      let f : length lent ≡ size = right_length own size lent e in
      (sym (ap (code own) (eq-eqb (length lent) size f)) ∙ e, f)

  -- Before a buffer of the right length the operation's own number is told; before another a refusal below 7, and else 7.
  pub told_own : length lent ≡ size → (answered size own new lent).code ≡ own
  unfolding answered code
  told_own f = ap (code own) (eq-eqb (length lent) size f)

  pub told_lower : 0 < own → own < 7 → (answered size own new lent).code ≡ own
  unfolding answered
  told_lower h l = lower own (eqb (length lent) size) h l

  pub told_7 : (0 < own → 7 ≤ own) → (length lent ≡ size → ⊥) → (answered size own new lent).code ≡ 7
  unfolding answered
  told_7 o f = ap (code own) (ne_eqb (length lent) size f) ∙ seven own (eqb own 0) refl o
