-- `distortion_table::filler::next_place` meets its contract. Assumes nothing.
use native.Mathlib.Nat.{suc-mul}
use native.Mathlib.Omega.{arith}
use Rattle.distortion_table.proofs.filler.next_place.Goals as goal

pub returns-then-u-width : goal.returns-then-u-width
returns-then-u-width c = (c.if-u-width.true, omega arith)

pub returns : goal.returns
returns c = let a = c.args in (omega arith, omega (arith, suc-mul a.place.v a.width))
