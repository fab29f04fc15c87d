-- `put_text::put` meets its contract: a text that does not fit is not copied. Assumes nothing.
use native.Mathlib.Omega.{arith}
use Rattle.put_text.proofs.Putting.{not_placed, copy_placed}
use Rattle.put_text.proofs.put.Goals as goal
use Rattle.put_text.proofs.put.Goals.{then-out-at-via-then-out-at, then-out-at-via-else-out-at+then-out-at-2}

pub returns-then-out-at : goal.returns-then-out-at
returns-then-out-at c = not_placed _ _ _ (elim c.then-out-at.branch [ then-out-at-via-then-out-at w ↦ omega (arith, w.if-out-at.true) | then-out-at-via-else-out-at+then-out-at-2 w ↦ omega (arith, w.if-out-at.false, w.if-out-at-2.true) ])

pub returns : goal.returns
returns c = copy_placed _ _ _ _ _ (omega arith) c.copy_from_slice.ensures.after (omega arith)
