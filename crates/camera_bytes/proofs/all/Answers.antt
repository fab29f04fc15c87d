-- `camera_bytes::all` meets its contract. The loop's invariant: so many numbers are put, all finite. Assumes nothing.
use mathlib.Core.Path.{subst}
use Prim.Native.Nat.{ℕ, ◌*◌}
use native.Mathlib.Omega.{arith}
use Rattle.camera_bytes.proofs.Patterns.{Filled, next_filled, all_there}
use Rattle.camera_bytes.proofs.all.Goals as goal

pub returns-then-params-i : goal.returns-then-params-i
returns-then-params-i c =
    let f = c.loop-k.invariant in
    all_there _ _ _ f (omega (arith, c.if-params-i.true, f.even, c.requires.0))

pub loop-k-preserved : goal.loop-k-preserved
loop-k-preserved c =
    let k = c.loop-k.k in
    subst (λ (i : ℕ). Filled c.args.params.now i c.two.new.n) (omega arith)
    (next_filled _ (2 * k) _ _ c.loop-k.invariant (omega (arith, c.loop-k-test.true, c.loop-k.auto.k-end))
    (rw (c.in_ok-two.was) at c.two.ensures))
