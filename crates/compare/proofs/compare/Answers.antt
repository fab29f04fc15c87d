-- `compare::compare` meets its contract. Assumes nothing.
use mathlib.Core.Path.{sym, ap₂, ◌∙◌}
use Rattle.compare.specs.Told.{cells_told, told}
use Rattle.compare.proofs.compare.Goals as goal

pub returns-then-eq : goal.returns-then-eq
unfolding told
returns-then-eq c = simp (sym c.eq.ensures ∙ c.if-eq.true)

pub returns : goal.returns
unfolding told
returns c = simp (sym c.eq.ensures ∙ c.if-eq.false) (c.cells_told.ensures ∙ ap₂ cells_told c.read_cell.ensures c.read_cell-2.ensures)
