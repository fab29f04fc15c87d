-- `job::sound` meets its contract. Assumes nothing.
use mathlib.Core.Path.{refl}
use Prim.Native.Nat.{◌*◌}
use native.Mathlib.Omega.{arith}
use borrow.Author.Tests.{eq-eqb, ne_eqb}
use Rattle.region.proofs.Size.{bounded}
use Rattle.job.proofs.sound.Goals as goal

pub overflow_mul-width : goal.overflow_mul-width
overflow_mul-width c = omega (arith, bounded _ _ c.requires)

pub overflow_mul-width-2 : goal.overflow_mul-width-2
overflow_mul-width-2 c = omega (arith, bounded _ _ c.requires)

pub returns-then-places-width : goal.returns-then-places-width
returns-then-places-width c = let a = c.args in rw (ne_eqb a.places (2 * (a.width * a.height)) c.if-places-width.true) refl

pub returns-then-possible : goal.returns-then-possible
returns-then-possible c = let a = c.args in rw (eq-eqb a.places (2 * (a.width * a.height)) (omega (arith, c.if-places-width.false)), ← c.possible.ensures, c.if-possible.true) refl

pub returns : goal.returns
returns c = let a = c.args in rw (eq-eqb a.places (2 * (a.width * a.height)) (omega (arith, c.if-places-width.false)), ← c.possible.ensures, c.if-possible.false) refl
