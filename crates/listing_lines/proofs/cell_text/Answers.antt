-- `listing_lines::cell_text` meets its contract. Assumes nothing.
use mathlib.Core.Path.{sym}
use native.Mathlib.Omega.{arith}
use lib.Seq.{length-take-le}
use Rattle.listing_lines.proofs.Lines.{cell_made}
use Rattle.put_text.proofs.Putting.{put_same}
use Rattle.listing_lines.proofs.cell_text.Goals as goal

pub slice_bounds-line-end : goal.slice_bounds-line-end
slice_bounds-line-end c = omega (arith, c.grow-end.ensures.long)

pub slice_bounds-put-end : goal.slice_bounds-put-end
slice_bounds-put-end c = sym (length-take-le _ _ (omega (arith, c.grow-end.ensures.long)))

pub returns : goal.returns
returns c =
    put_same _ _ _ _ c.put.ensures
    (cell_made _ _ _ _ c.grow-word.ensures c.grow_decimal-first.ensures c.grow_decimal-second.ensures c.grow_single-third.ensures.grown c.grow_single-fourth.ensures.grown c.grow-end.ensures)
