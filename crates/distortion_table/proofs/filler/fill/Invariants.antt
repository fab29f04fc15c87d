-- `distortion_table::filler::fill` meets its contract. Its loop is the filler's of plans, whatever a cell holds two of. Assumes nothing.
use Rattle.engine.specs.Engine.{distort}
use Rattle.plans.proofs.Filler.{Filled}
use Rattle.cell.specs.Cell.{cell_by}
use Rattle.distortion_table.proofs.filler.fill.Given as goal

abbrev pub invariant-loop-i : goal.invariant-loop-i
invariant-loop-i g l = Filled (cell_by (distort l.camera l.short) g.N.CellNumber.kind.holds l.region l.by) l.width l.first l.count l.initial.rest l.place.u l.place.v l.i l.rest
