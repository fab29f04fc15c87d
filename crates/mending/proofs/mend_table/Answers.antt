-- `mending::mend_table` meets its contract. Assumes nothing.
use mathlib.Core.Path.{sym, ◌∙◌}
use Prim.Native.Nat.{ℕ}
use native.Mathlib.Omega.{arith}
use lib.ListN.{length-replicate}
use Rattle.mending.proofs.Asked.{table_mended}
use Rattle.mending.proofs.mend_table.Goals as goal

pub slice_bounds-feed-end : goal.slice_bounds-feed-end
slice_bounds-feed-end c = sym (length-replicate {A = ℕ} 12288 0)

pub slice_bounds-feed-end-2 : goal.slice_bounds-feed-end-2
slice_bounds-feed-end-2 c = sym (length-replicate {A = ℕ} 64 0)

pub slice_bounds-write_mended-end : goal.slice_bounds-write_mended-end
slice_bounds-write_mended-end c = sym (c.feed.auto.map ∙ length-replicate {A = ℕ} 12288 0)

pub returns : goal.returns
returns c =
    c.write_mended.ensures.result_after
    ∙ table_mended c.args.width c.args.height c.args.updates c.args.region c.args.table.now c.args.text.now c.args.out.now
    c.requires.sized.0
    c.requires.sized.1
    12288
    64
    _ _ _
    c.feed.ensures
    (omega arith)
    (omega arith)
    (c.feed.auto.map ∙ length-replicate {A = ℕ} 12288 0)
    (omega (arith, c.requires.table_len.0, c.requires.sized.1))
    c.requires.table_len.1
