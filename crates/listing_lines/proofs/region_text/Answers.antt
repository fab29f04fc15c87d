-- `listing_lines::region_text` meets its contract. Assumes nothing.
use mathlib.Core.Path.{sym}
use native.Mathlib.Omega.{arith}
use lib.Seq.{length-take-le}
use Rattle.listing_lines.proofs.Lines.{region_made}
use Rattle.put_text.proofs.Putting.{put_same}
use Rattle.listing_lines.proofs.region_text.Goals as goal

pub slice_bounds-line-end : goal.slice_bounds-line-end
slice_bounds-line-end c = omega (arith, c.grow-end.ensures.long)

pub slice_bounds-put-end : goal.slice_bounds-put-end
slice_bounds-put-end c = sym (length-take-le _ _ (omega (arith, c.grow-end.ensures.long)))

pub returns : goal.returns
returns c =
    put_same _ _ _ _ c.put.ensures
    (region_made _ _ _ _ c.grow-word.ensures c.grow_double-first.ensures c.grow_double-second.ensures c.grow_double-third.ensures c.grow_double-fourth.ensures c.grow-end.ensures)
