-- `opencv::is_fixed` meets its contract. Assumes nothing.
use mathlib.Core.Path.{ap}
use lib.Dec.{eqb}
use Rattle.opencv.specs.Moved.{one, fixed}
use Rattle.opencv.proofs.Judging.{no, yes, zero_told}
use Rattle.opencv.proofs.is_fixed.Goals as goal
use Rattle.opencv.proofs.is_fixed.Goals.{then-not-is_zero-via-then-not-is_zero, then-not-is_zero-via-else-not-is_zero+then-not-is_zero-2, then-not-is_zero-via-else-not-is_zero+else-not-is_zero-2+then-not-is_zero-3, then-not-is_zero-via-else-not-is_zero+else-not-is_zero-2+else-not-is_zero-3+then-not-is_zero-4}

pub returns-then-not-is_zero : goal.returns-then-not-is_zero
unfolding fixed
returns-then-not-is_zero c =
    elim c.then-not-is_zero.branch [
      | then-not-is_zero-via-then-not-is_zero w ↦ no _ (zero_told c.is_zero.ensures c.bits_at.ensures w.if-not-is_zero.true)
      | then-not-is_zero-via-else-not-is_zero+then-not-is_zero-2 w ↦
          yes (zero_told c.is_zero.ensures c.bits_at.ensures w.if-not-is_zero.false)
          (no _ (zero_told w.is_zero-else-not-is_zero.ensures w.bits_at-else-not-is_zero.ensures w.if-not-is_zero-2.true))
      | then-not-is_zero-via-else-not-is_zero+else-not-is_zero-2+then-not-is_zero-3 w ↦
          yes (zero_told c.is_zero.ensures c.bits_at.ensures w.if-not-is_zero.false)
          (yes (zero_told w.is_zero-else-not-is_zero.ensures w.bits_at-else-not-is_zero.ensures w.if-not-is_zero-2.false)
          (no _ (zero_told w.is_zero-else-not-is_zero-2.ensures w.bits_at-else-not-is_zero-2.ensures w.if-not-is_zero-3.true)))
      | then-not-is_zero-via-else-not-is_zero+else-not-is_zero-2+else-not-is_zero-3+then-not-is_zero-4 w ↦
          yes (zero_told c.is_zero.ensures c.bits_at.ensures w.if-not-is_zero.false)
          (yes (zero_told w.is_zero-else-not-is_zero.ensures w.bits_at-else-not-is_zero.ensures w.if-not-is_zero-2.false)
          (yes (zero_told w.is_zero-else-not-is_zero-2.ensures w.bits_at-else-not-is_zero-2.ensures w.if-not-is_zero-3.false)
          (no _ (zero_told w.is_zero-else-not-is_zero-3.ensures w.bits_at-else-not-is_zero-3.ensures w.if-not-is_zero-4.true))))
    ]

pub returns : goal.returns
unfolding fixed
returns c =
    yes (zero_told c.is_zero.ensures c.bits_at.ensures c.if-not-is_zero.false)
    (yes (zero_told c.is_zero-else-not-is_zero.ensures c.bits_at-else-not-is_zero.ensures c.if-not-is_zero-2.false)
    (yes (zero_told c.is_zero-else-not-is_zero-2.ensures c.bits_at-else-not-is_zero-2.ensures c.if-not-is_zero-3.false)
    (yes (zero_told c.is_zero-else-not-is_zero-3.ensures c.bits_at-else-not-is_zero-3.ensures c.if-not-is_zero-4.false)
    (ap (λ x. eqb x one) c.bits_at-2.ensures))))
