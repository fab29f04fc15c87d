-- `distortion_table::reached` meets its contract. Assumes nothing.
use mathlib.Core.Path.{refl}
use borrow.Author.Tests.{lt-ltb, le-ltb}
use Rattle.distortion_table.proofs.reached.Goals as goal

pub returns-then-done-all : goal.returns-then-done-all
returns-then-done-all c = rw (lt-ltb _ _ c.if-done-all.true) refl

pub returns-else-done-all : goal.returns-else-done-all
returns-else-done-all c = rw (le-ltb _ _ c.if-done-all.false) refl
