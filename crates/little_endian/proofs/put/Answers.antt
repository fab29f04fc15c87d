-- `little_endian::put` meets its contract. Assumes nothing.
use mathlib.Core.Path.{◌∙◌, ap, sym}
use Prim.Native.Nat.{ℕ}
use native.Mathlib.Omega.{arith}
use Rattle.little_endian.specs.Bytes.{bytes}
use Rattle.little_endian.proofs.Writing.{length_bytes, not_fitting, put_there, put_each, eight_bytes, first_four}
use Rattle.little_endian.proofs.put.Goals as goal
use Rattle.little_endian.proofs.put.Goals.{else-at-out-via-then-at-out+else-count-out, else-at-out-via-else-at-out}

pub returns-in-8 : goal.returns-in-8
returns-in-8 c =
    put_there c.args.at c.args.count c.args.number c.args.out.now c.if-count-out.true c.if-at-out.true _
    (c.copy_from_slice.ensures.after ∙ c.to_le_bytes.ensures ∙ eight_bytes c.args.number ∙ ap (λ (k : ℕ). bytes k c.args.number) (sym c.in-8.is))

pub returns-in-4 : goal.returns-in-4
returns-in-4 c =
    put_there c.args.at c.args.count c.args.number c.args.out.now c.if-count-out.true c.if-at-out.true _
    (c.copy_from_slice-in-4.ensures.after
    ∙ first_four c.args.number c.to_le_bytes-in-4.ensures
    ∙ ap (λ (k : ℕ). bytes k c.args.number) (sym c.in-4.is))

pub returns-in_default : goal.returns-in_default
returns-in_default c = put_each c.args.at c.args.count c.args.number c.args.out.now c.if-count-out.true c.if-at-out.true _ c.write.ensures

pub returns-else-at-out : goal.returns-else-at-out
returns-else-at-out c =
    elim c.else-at-out.branch [
      | else-at-out-via-then-at-out+else-count-out w ↦
          not_fitting c.args.at (bytes c.args.count c.args.number) c.args.out.now (omega (arith, length_bytes c.args.count c.args.number, w.if-count-out.false, w.if-at-out.true))
      | else-at-out-via-else-at-out w ↦
          not_fitting c.args.at (bytes c.args.count c.args.number) c.args.out.now (omega (arith, length_bytes c.args.count c.args.number, w.if-at-out.false))
    ]
