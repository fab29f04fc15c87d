-- `border::border_pixel` meets its contract. Assumes nothing.
use mathlib.Core.Path.{sym}
use native.Mathlib.Omega.{arith}
use Rattle.border.proofs.Sides.{first_sides, other_sides, no_side}
use Rattle.border.proofs.border_pixel.Goals as goal

pub returns-then-n-width : goal.returns-then-n-width
returns-then-n-width c =
    let a = c.args in
    rw (c.across.ensures, c.along.ensures) (sym (first_sides a.width a.height a.n (omega arith)))

pub returns-then-m-height : goal.returns-then-m-height
returns-then-m-height c =
    let a = c.args in
    rw (c.along-then-m-height.ensures, c.across-then-m-height.ensures) (sym (other_sides a.width a.height a.n _ (omega arith) (omega arith) (omega arith)))

pub returns : goal.returns
returns c = let a = c.args in sym (no_side a.width a.height a.n (omega arith) (omega arith))
