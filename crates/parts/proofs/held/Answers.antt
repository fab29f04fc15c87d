-- `parts::held` meets its contract. Assumes nothing.
use mathlib.Core.Path.{refl, sym}
use native.Mathlib.Omega.{arith}
use lib.ListN.{length}
use lib.Seq.{length-take-le}
use borrow.Author.Tests.{lt-ltb, le-ltb}
use Rattle.parts.proofs.held.Goals as goal

pub returns-then-buf-n : goal.returns-then-buf-n
returns-then-buf-n c =
    let h = lt-ltb (length c.args.buf.now) c.args.n (omega (arith, c.if-buf-n.true)) in
    record { value = simp h; prefix_len = (omega arith, refl) }

pub returns-else-buf-n : goal.returns-else-buf-n
returns-else-buf-n c =
    let h = le-ltb (length c.args.buf.now) c.args.n (omega (arith, c.if-buf-n.false)) in
    record {
      value = simp h;
      prefix_len = (omega (arith, c.if-buf-n.false), sym (length-take-le _ _ (omega (arith, c.if-buf-n.false))));
    }
