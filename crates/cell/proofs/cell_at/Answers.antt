-- `cell::cell_at` meets its contract: the cell is made from its point (`by_point`). Assumes nothing.
use mathlib.Core.Path.{refl, sym, ap, ◌∙◌}
use Rattle.lens.specs.Distorted.{finite_pixel}
use Rattle.lens.specs.declared.Pixel.{Pixel}
use Rattle.engine.specs.Engine.{pixel_by}
use Rattle.cell.specs.Cell.{of_pixel}
use Rattle.cell.proofs.Made.{by_point}
use Rattle.cell.proofs.cell_at.Goals as goal

pub returns-then-both_finite : goal.returns-then-both_finite
returns-then-both_finite g c =
    let kind = g.N.CellNumber.kind.holds in
    let a = c.args in
    by_point kind (pixel_by a.camera a.short) a.region a.by a.u a.v c.point_at-point.ensures (sym c.if-both_finite.true ∙ c.both_finite.ensures)
    (c.from_pixel.ensures ∙ ap (λ (p : Pixel). of_pixel kind (finite_pixel p)) c.distort.ensures)

pub returns : goal.returns
returns g c =
    let a = c.args in
    by_point g.N.CellNumber.kind.holds (pixel_by a.camera a.short) a.region a.by a.u a.v c.point_at-point.ensures (sym c.if-both_finite.false ∙ c.both_finite.ensures) refl
