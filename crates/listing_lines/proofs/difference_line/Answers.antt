-- `listing_lines::difference_line` meets its contract. Assumes nothing.
use mathlib.Core.Path.{sym}
use native.Mathlib.Omega.{arith}
use lib.Seq.{length-take-le}
use Rattle.put_text.proofs.Putting.{put_same}
use Rattle.listing_lines.proofs.Lines.{difference_made}
use Rattle.listing_lines.proofs.difference_line.Goals as goal

pub slice_bounds-put-end : goal.slice_bounds-put-end
slice_bounds-put-end c = sym (length-take-le _ _ (omega (arith, c.grow-end.ensures.long, c.grow-end.ensures.next)))

pub returns : goal.returns
returns c =
    put_same _ _ _ _ c.put.ensures
    (difference_made _ _ _ _ _ _
    c.grow_first-column.ensures
    c.grow_decimal-row.ensures
    c.grow_single-first.ensures.grown
    c.grow_single-second.ensures.grown
    c.grow_single-third.ensures.grown
    c.grow_single-last.ensures.grown
    c.grow-end.ensures)
