-- `listing_lines::is_region` meets its contract. Assumes nothing.
use mathlib.Core.Path.{sym, ap, ◌∙◌}
use borrow.Author.Rules.{rules}
use lib.Seq.{length-take-le}
use Rattle.decimal.specs.Text.{same}
use Rattle.listing_lines.proofs.Lines.{region_whole}
use Rattle.listing_lines.proofs.is_region.Goals as goal

pub slice_bounds-line-end : goal.slice_bounds-line-end
slice_bounds-line-end c =
    let w = region_whole _ _ _ _ _ _ _ c.region_text-end.ensures (search rules) in
    search rules

pub slice_bounds-eq-end : goal.slice_bounds-eq-end
slice_bounds-eq-end c =
    let w = region_whole _ _ _ _ _ _ _ c.region_text-end.ensures (search rules) in
    sym (length-take-le _ _ (search rules))

pub returns : goal.returns
returns c =
    let w = region_whole _ _ _ _ _ _ _ c.region_text-end.ensures (search rules) in
    c.eq.ensures ∙ ap (same _) w.is
