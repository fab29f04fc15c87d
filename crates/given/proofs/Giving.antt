-- From the parts of a call to what it gives back. Assumes nothing.
use mathlib.Core.Path.{◌≡◌, refl, sym, ap, ap₂, ◌∙◌}
use mathlib.Core.Bool.{Bool, true, false, cond}
use mathlib.Core.List.{List}
use Prim.Native.Nat.{ℕ}
use native.Mathlib.Omega.{arith}
use borrow.Author.Tests.{eq-eqb, ne_eqb, eqb-true, eqb-false}
use lib.Dec.{eqb, ltb}
use lib.ListN.{length}
use Rattle.given.specs.Given.{given, code, answered}

-- ---- the number told

by_own : (own : ℕ) (z l : Bool) → eqb own 0 ≡ z → cond z 7 (cond l own 7) ≡ 0 → ⊥
by_own own true l e h = absurd (omega (arith, h))
by_own own false true e h = eqb-false own 0 e h
by_own own false false e h = absurd (omega (arith, h))

by_right : (own : ℕ) (right : Bool) → cond right own (cond (eqb own 0) 7 (cond (ltb own 7) own 7)) ≡ 0 → right ≡ true
by_right own true h = refl
by_right own false h = absurd (by_own own (eqb own 0) (ltb own 7) refl h)

-- 0 is told only where nothing refuses
pub zero_told : (own : ℕ) (right : Bool) → code own right ≡ 0 → (own ≡ 0) × (right ≡ true)
unfolding code
zero_told own right h =
    let e : right ≡ true = by_right own right h in
    (sym (ap (λ (b : Bool). cond b own (cond (eqb own 0) 7 (cond (ltb own 7) own 7))) e) ∙ h, e)

-- 0 is told only before a buffer of the right length
pub right_length : (own size : ℕ) (lent : List ℕ) → code own (eqb (length lent) size) ≡ 0 → length lent ≡ size
right_length own size lent h = eqb-true (length lent) size (zero_told own (eqb (length lent) size) h).1

-- ---- a buffer that is written, and one that is not

module _ (size own : ℕ) (new lent : List ℕ) (r : ℕ) (e : r ≡ code own (eqb (length lent) size)) where
  pub written : (after : List ℕ) → r ≡ 0 → (length lent ≡ size → after ≡ new) → given r after ≡ answered size own new lent
  unfolding answered
  written after z f =
      let c : code own (eqb (length lent) size) ≡ 0 = sym e ∙ z in
      ap₂ given e (f (right_length own size lent c) ∙ sym (ap (λ (b : Bool). cond b new lent) (eq-eqb (code own (eqb (length lent) size)) 0 c)))

  pub left_alone : (r ≡ 0 → ⊥) → given r lent ≡ answered size own new lent
  unfolding answered
  left_alone n =
      ap₂ given e (sym (ap (λ (b : Bool). cond b new lent) (ne_eqb (code own (eqb (length lent) size)) 0 (λ z. n (e ∙ z)))))
