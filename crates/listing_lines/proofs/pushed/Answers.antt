-- `listing_lines::pushed` meets its contract. Assumes nothing.
use mathlib.Core.Path.{sym, ◌∙◌}
use Prim.Native.Nat.{◌*◌, ◌≤◌}
use native.Mathlib.Nat.{mul-le-mul_left}
use native.Mathlib.Omega.{arith}
use Rattle.hexadecimal.proofs.Written.{glyph_digit}
use Rattle.listing_lines.proofs.Passing.{pushed_room, pushed_full, pushed_none}
use Rattle.listing_lines.proofs.pushed.Goals as goal

pub overflow_add-result : goal.overflow_add-result
overflow_add-result c =
    let a = c.args in
    let m : a.n * a.base ≤ a.n * 16 = mul-le-mul_left a.n c.requires in
    omega (arith, (glyph_digit _ _ (sym c.digit.ensures ∙ c.in-Some.is)).0)

pub returns-in-Some : goal.returns-in-Some
returns-in-Some c = rw c.from.ensures (pushed_room _ _ _ _ (sym c.digit.ensures ∙ c.in-Some.is) c.if-n-lt-FULL.true)

pub returns-in_default : goal.returns-in_default
returns-in_default c = pushed_full _ _ _ c.if-n-lt-FULL.false

pub returns-in_default-2 : goal.returns-in_default-2
returns-in_default-2 c = pushed_none _ _ _ (sym c.digit.ensures ∙ c.in_default.is)
