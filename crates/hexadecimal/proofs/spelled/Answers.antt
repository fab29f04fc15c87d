-- `hexadecimal::spelled` meets its contract. Assumes nothing.
use mathlib.Core.Path.{sym, ◌∙◌}
use native.Mathlib.Omega.{arith}
use Rattle.hexadecimal.proofs.Reading.{room, one_passed, not_passed, all_passed, no_number}
use Rattle.hexadecimal.proofs.Written.{glyph_digit}
use Rattle.hexadecimal.proofs.spelled.Goals as goal

pub returns-then-text-ne16 : goal.returns-then-text-ne16
returns-then-text-ne16 c = no_number _ c.if-text-ne16.true

pub overflow_mul-number : goal.overflow_mul-number
overflow_mul-number c = let r = room _ _ _ c.loop-b.invariant c.loop-b-test.true in omega arith

pub overflow_add-number : goal.overflow_add-number
overflow_add-number c =
    let r = room _ _ _ c.loop-b.invariant c.loop-b-test.true in
    let g = glyph_digit _ _ (sym c.digit.ensures ∙ c.in_ok-digit.was) in
    omega (arith, g.0)

pub returns-in_err-digit : goal.returns-in_err-digit
returns-in_err-digit c = c.from_residual.ensures ∙ not_passed _ _ _ c.loop-b.invariant c.loop-b-test.true (sym c.digit.ensures ∙ c.in_err-digit.was)

pub loop-b-preserved : goal.loop-b-preserved
loop-b-preserved c = rw c.from.ensures (one_passed _ _ _ c.loop-b.invariant c.loop-b-test.true _ (sym c.digit.ensures ∙ c.in_ok-digit.was))

pub returns : goal.returns
returns c = all_passed _ _ _ c.loop-b.invariant c.loop-b-test.false
