-- `given::code` meets its contract. Assumes nothing.
use mathlib.Core.Path.{refl}
use borrow.Author.Tests.{eq-eqb, ne_eqb, lt-ltb, le-ltb}
use Rattle.given.specs.Given.{code}
use Rattle.given.proofs.code.Goals as goal

pub returns-then-right : goal.returns-then-right
unfolding code
returns-then-right c = rw c.if-right.true refl

pub returns-then-own-eq0 : goal.returns-then-own-eq0
unfolding code
returns-then-own-eq0 c = rw (c.if-right.false, eq-eqb _ _ c.if-own-eq0.true) refl

pub returns-then-own-lt7 : goal.returns-then-own-lt7
unfolding code
returns-then-own-lt7 c = rw (c.if-right.false, ne_eqb _ _ c.if-own-eq0.false, lt-ltb _ _ c.if-own-lt7.true) refl

pub returns-else-own-lt7 : goal.returns-else-own-lt7
unfolding code
returns-else-own-lt7 c = rw (c.if-right.false, ne_eqb _ _ c.if-own-eq0.false, le-ltb _ _ c.if-own-lt7.false) refl
