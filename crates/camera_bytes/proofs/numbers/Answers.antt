-- `camera_bytes::numbers` meets its contract. The loop's invariant: so many numbers are the bytes'. Assumes nothing.
use mathlib.Core.Path.{refl, ◌∙◌}
use native.Mathlib.Omega.{arith}
use lib.ListN.{length-set}
use Rattle.camera_bytes.proofs.Patterns.{one_more}
use Rattle.camera_bytes.proofs.numbers.Goals as goal

pub loop-i-init : goal.loop-i-init
loop-i-init c = (refl, λ k h. absurd (omega (arith, h)))

pub loop-i-preserved : goal.loop-i-preserved
loop-i-preserved c =
    let l = c.loop-i in
    (length-set l.n l.i _ ∙ l.invariant.0, one_more c.args.params.now l.n l.i (omega (arith, l.invariant.0)) c.float.ensures l.invariant.1)

pub returns : goal.returns
returns c = λ k h. c.loop-i.invariant.1 k (omega (arith, h, c.loop-i.auto.i-end, c.loop-i-test.false))
