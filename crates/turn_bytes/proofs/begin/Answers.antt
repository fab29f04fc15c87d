-- `turn_bytes::begin` meets its contract. Assumes nothing.
use mathlib.Core.Path.{◌≡◌, refl, sym, ap, ◌∙◌}
use mathlib.Core.Bool.{Bool, true, false, cond}
use Prim.Native.Nat.{ℕ, ◌<◌}
use native.Mathlib.Omega.{arith}
use borrow.Author.Tests.{eq-eqb, ne_eqb}
use lib.Dec.{eqb, ltb}
use Rattle.lens.proofs.Laws.{number_within}
use Rattle.given.specs.Given.{code}
use Rattle.turn_bytes.specs.Turn.{answer_length}
use Rattle.turn_bytes.proofs.begin.Goals as goal

above : (n : ℕ) (right : Bool) → 0 < n → code n right ≡ 0 → ⊥
unfolding code
above n true h e = omega (arith, h, e)
above n false h e = go (eqb n 0) (ltb n 7) e
  where
    go : (z l : Bool) → cond z 7 (cond l n 7) ≡ 0 → ⊥
    go true l e = omega (arith, e)
    go false true e = omega (arith, h, e)
    go false false e = omega (arith, e)

right_so : (n : ℕ) {right : Bool} → right ≡ true → code n right ≡ n
unfolding code
right_so n h = rw h refl

wrong_so : {n : ℕ} {right : Bool} → n ≡ 0 → right ≡ false → code n right ≡ 7
unfolding code
wrong_so e h = rw (h, e) refl

pub returns-in-Err : goal.returns-in-Err
returns-in-Err c =
    let right = eqb c.args.room answer_length in
    let told = rw c.in-Err.is at c.taken.ensures in
    let e = c.code.ensures ∙ ap (λ (n : ℕ). code n right) c.number.ensures in
    (e ∙ ap (λ (n : ℕ). code n right) (sym told), λ z. above _ right (number_within c.in-Err.refusal).0 (sym e ∙ z))

pub returns-in-Ok : goal.returns-in-Ok
returns-in-Ok c =
    let told = rw c.in-Ok.is at c.taken.ensures in
    (right_so _ (eq-eqb _ _ c.if-right.true) ∙ told.0, told.1)

pub returns-in-Ok-2 : goal.returns-in-Ok-2
returns-in-Ok-2 c =
    let told = rw c.in-Ok-2.is at c.taken.ensures in
    let e = c.number-in-Ok-2.ensures in
    (e ∙ sym (wrong_so told.0 (ne_eqb _ _ c.if-right.false)), λ z. omega (arith, e, z))
