-- `arctan::lower` meets its contract: what is counted is at most 13/32, as proofs/Solving.antt says. Assumes nothing.
use Rattle.std.proofs.Common.{ℕ, T, sym, ap, ◌∙◌, subst}
use Rattle.arctan.specs.Tangent.{solution, ratio, leaving, unity, two_fifths_cut, three_sevenths_cut}
use Rattle.arctan.proofs.Choice.{so, so_not, lower_first, lower_second}
use Rattle.arctan.proofs.Solving.{ready_low, few_low, ready_high, few_high}
use Rattle.arctan.proofs.lower.Goals as goal

pub counted-requires : goal.counted-requires
counted-requires c = let s = c in ready_low s.args.x (subst T (sym s.well_formed.0.1) tt) s.requires (so c.if-x.true)

pub solution-requires : goal.solution-requires
solution-requires c = let s = c in rw c.counted.ensures (few_low s.args.x (subst T (sym s.well_formed.0.1) tt) s.requires (so c.if-x.true))

pub returns-then-x : goal.returns-then-x
returns-then-x c =
    let d = c in
    c.ratio.ensures ∙ ap (λ (w : ℕ). ratio w unity) (c.solution.ensures.0 ∙ ap (solution two_fifths_cut) c.counted.ensures) ∙ lower_first d.args.x d.if-x.true

pub counted-requires-2 : goal.counted-requires-2
counted-requires-2 c = let s = c in ready_high s.args.x (subst T (sym s.well_formed.0.1) tt) s.requires (so_not c.if-x.false)

pub solution-requires-2 : goal.solution-requires-2
solution-requires-2 c = let s = c in rw c.counted-2.ensures (few_high s.args.x (subst T (sym s.well_formed.0.1) tt) s.requires (so_not c.if-x.false))

pub returns : goal.returns
returns c =
    let d = c in
    c.leaving.ensures ∙ ap leaving (c.solution-2.ensures.0 ∙ ap (solution three_sevenths_cut) c.counted-2.ensures) ∙ lower_second d.args.x d.if-x.false
