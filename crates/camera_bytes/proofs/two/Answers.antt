-- `camera_bytes::two` meets its contract. Assumes nothing.
use mathlib.Core.Path.{refl}
use Rattle.camera_bytes.proofs.Patterns.{two_put, first_odd, second_odd}
use Rattle.camera_bytes.proofs.two.Goals as goal

pub returns-then-a-ge-INFINITY : goal.returns-then-a-ge-INFINITY
returns-then-a-ge-INFINITY c = let a = c.args in first_odd a.params.now a.i _ _ c.word-a.ensures c.word-b.ensures c.requires.0 c.if-a-ge-INFINITY.true

pub returns-then-b-ge-INFINITY : goal.returns-then-b-ge-INFINITY
returns-then-b-ge-INFINITY c = let a = c.args in second_odd a.params.now a.i _ _ c.word-a.ensures c.word-b.ensures c.requires.0 c.if-b-ge-INFINITY.true

pub returns : goal.returns
returns c =
    let a = c.args in
    two_put a.params.now a.i _ _ c.word-a.ensures c.word-b.ensures a.n.now _ c.if-a-ge-INFINITY.false c.if-b-ge-INFINITY.false c.raw.ensures c.raw-2.ensures refl
