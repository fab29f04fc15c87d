-- `distortion_table::filler::lend` meets its contract. Assumes nothing.
use native.Mathlib.Omega.{arith}
use Rattle.distortion_table.proofs.Parts.{lent_whole}
use Rattle.distortion_table.proofs.filler.lend.Goals as goal

pub returns : goal.returns
returns g c =
    let a = c.args in
    lent_whole g.N.CellNumber.kind a.job a.run.at.region a.run.first a.run.count a.table.now c.fill.new.rest c.fill.result c.short_for-short.result c.increments_of-by.result c.short_for-short.ensures c.increments_of-by.ensures (omega (arith, c.requires.2)) c.fill.ensures
