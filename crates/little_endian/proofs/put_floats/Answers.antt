-- `little_endian::put_floats` meets its contract. Assumes nothing.
use mathlib.Core.Path.{sym, ◌∙◌}
use native.Mathlib.Omega.{arith}
use Rattle.little_endian.specs.Bytes.{floats}
use Rattle.little_endian.proofs.Writing.{length_floats, fitting, not_fitting, next_float, every_float}
use Rattle.little_endian.proofs.put_floats.Goals as goal
use Rattle.little_endian.proofs.put_floats.Goals.{else-at-out-via-then-at-out+else-numbers-out, else-at-out-via-else-at-out}

pub loop-i-preserved : goal.loop-i-preserved
loop-i-preserved c = next_float _ _ _ _ _ _ _ _ c.loop-i.invariant c.loop-i-test.true c.to_bits.ensures c.write_eight.ensures

pub returns-after-loop-i : goal.returns-after-loop-i
returns-after-loop-i c =
    every_float _ _ _ _ _ c.loop-i.invariant c.loop-i-test.false
    ∙ sym (fitting c.args.at (floats c.args.numbers.now) c.args.out.now (omega (arith, length_floats c.args.numbers.now, c.loop-i.invariant.fits)))

pub returns-else-at-out : goal.returns-else-at-out
returns-else-at-out c =
    elim c.else-at-out.branch [
      | else-at-out-via-then-at-out+else-numbers-out w ↦
          not_fitting c.args.at (floats c.args.numbers.now) c.args.out.now (omega (arith, length_floats c.args.numbers.now, w.if-numbers-out.false, w.if-at-out.true))
      | else-at-out-via-else-at-out w ↦
          not_fitting c.args.at (floats c.args.numbers.now) c.args.out.now (omega (arith, length_floats c.args.numbers.now, w.if-at-out.false))
    ]
