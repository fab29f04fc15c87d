-- `compare::step` meets its contract. Assumes nothing.
use mathlib.Core.Path.{ap, ◌∙◌}
use Rattle.compare.specs.Judged.{after_table, after_region, after_cell, step}
use Rattle.compare.proofs.step.Goals as goal

pub returns-in-Start : goal.returns-in-Start
unfolding step
returns-in-Start c = simp c.in-Start.is (c.after_table.ensures ∙ ap after_table c.read_table.ensures)

pub returns-in-Sized : goal.returns-in-Sized
unfolding step
returns-in-Sized c = simp c.in-Sized.is (c.after_region.ensures ∙ ap (after_region _ _) c.read_region.ensures)

pub returns-in-Cells : goal.returns-in-Cells
unfolding step
returns-in-Cells c = simp c.in-Cells.is (c.after_cell.ensures ∙ ap (after_cell _ _ _ _) c.read_cell.ensures)

pub returns-in-Bad : goal.returns-in-Bad
unfolding step
returns-in-Bad c = simp c.in-Bad.is
