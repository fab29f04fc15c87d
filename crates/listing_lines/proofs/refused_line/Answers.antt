-- `listing_lines::refused_line` meets its contract. Assumes nothing.
use mathlib.Core.Path.{ap, sym, ◌∙◌}
use native.Mathlib.Omega.{arith}
use lib.Seq.{length-take-le}
use Rattle.listing_lines.specs.Line.{refused_line}
use Rattle.listing_lines.proofs.Lines.{refused_made}
use Rattle.put_text.proofs.Putting.{put_same}
use Rattle.listing_lines.proofs.refused_line.Goals as goal

pub slice_bounds-line-end : goal.slice_bounds-line-end
slice_bounds-line-end c = omega (arith, c.grow-end.ensures.long)

pub slice_bounds-put-end : goal.slice_bounds-put-end
slice_bounds-put-end c = sym (length-take-le _ _ (omega (arith, c.grow-end.ensures.long)))

pub returns : goal.returns
returns c =
    put_same _ _ _ _ c.put.ensures
    (refused_made _ c.grow-word.ensures c.grow_decimal-first.ensures c.grow-end.ensures ∙ ap refused_line c.number.ensures)
