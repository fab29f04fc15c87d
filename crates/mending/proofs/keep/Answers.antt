-- `mending::keep` meets its contract. Assumes nothing.
use mathlib.Core.Path.{sym, ap, ◌∙◌}
use Rattle.listing_lines.specs.declared.CellLine.{CellLine}
use Rattle.std.proofs.Common.{Option}
use Rattle.mending.specs.Kept.{keep_read, keep}
use Rattle.mending.proofs.keep.Goals as goal

pub returns-in-Some : goal.returns-in-Some
unfolding keep
returns-in-Some c =
    let a = c.args in
    c.keep_cell.ensures ∙ ap (λ (o : Option CellLine). keep_read a.width a.height a.map.now o) (sym c.in-Some.is ∙ c.read_cell.ensures)

pub returns-in_default : goal.returns-in_default
unfolding keep
returns-in_default c =
    let a = c.args in
    ap (λ (o : Option CellLine). keep_read a.width a.height a.map.now o) (sym c.in_default.is ∙ c.read_cell.ensures)
