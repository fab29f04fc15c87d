-- `arctan::angle` meets its contract. Assumes nothing.
use Rattle.std.proofs.Common.{ℕ, ◌^◌, ◌≤◌, T, sym, ap, ◌∙◌, subst, le_trans}
use Rattle.arctan.specs.Whole.{series}
use Rattle.arctan.specs.Arctangent.{counted}
use Rattle.arctan.proofs.Counts.{counted_near}
use Rattle.arctan.proofs.Whole.{series_small}
use Rattle.arctan.proofs.angle.Goals as goal

pub series-requires : goal.series-requires
series-requires c = subst (λ (n : ℕ). n ≤ 2 ^ 59) (sym c.counted.ensures) ((counted_near c.args.z (subst T (sym c.well_formed.0.1) tt) c.requires.number c.requires.low c.requires.high).most)

pub returns : goal.returns
returns c =
    let e = c.series.ensures ∙ ap series c.counted.ensures in
    (e, subst (λ (n : ℕ). n ≤ 2 ^ 59) (sym e) (le_trans (series_small (counted c.args.z)) ((counted_near c.args.z (subst T (sym c.well_formed.0.1) tt) c.requires.number c.requires.low c.requires.high).most)))
