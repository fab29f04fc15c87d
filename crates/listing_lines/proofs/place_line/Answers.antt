-- `listing_lines::place_line` meets its contract. Assumes nothing.
use mathlib.Core.Path.{sym}
use native.Mathlib.Omega.{arith}
use lib.Seq.{length-take-le}
use Rattle.put_text.proofs.Putting.{put_same}
use Rattle.listing_lines.proofs.Lines.{made2}
use Rattle.listing_lines.proofs.place_line.Goals as goal

pub slice_bounds-put-end : goal.slice_bounds-put-end
slice_bounds-put-end c = sym (length-take-le _ _ (omega (arith, c.grow-end.ensures.long)))

pub returns : goal.returns
returns c =
    put_same _ _ _ _ c.put.ensures
    (made2
    c.grow-start.ensures
    c.grow_decimal-column.ensures
    c.grow_decimal-row.ensures
    c.grow-end.ensures)
