-- `lookup::spread` meets its contract. Assumes nothing.
use Rattle.std.proofs.Common.{sym, refl, ◌∙◌, subst, rules}
use Rattle.lookup.specs.Asked.{Number}
use Rattle.lookup.proofs.Steps.{spread_so, indices}
use Rattle.lookup.proofs.spread.Goals as goal

pub looked_up-requires : goal.looked_up-requires
looked_up-requires c =
    let p = c.requires in
    let by = c.increments_of-by.result in
    let n = indices by p (sym c.wrong.ensures ∙ c.in_ok-wrong.was) in
    (p.whole, subst Number (sym c.index.ensures) n.0, subst Number (sym c.index-2.ensures) n.1)

pub returns-in_err-wrong : goal.returns-in_err-wrong
returns-in_err-wrong c =
    let a = c.args in
    let e = spread_so a.table.now a.region a.width a.height a.point c.increments_of-by.ensures (sym c.in_err-wrong.was ∙ c.wrong.ensures) refl in
    search rules

pub returns : goal.returns
returns c =
    spread_so _ _ _ _ _
    c.increments_of-by.ensures
    (sym c.in_ok-wrong.was ∙ c.wrong.ensures)
    (c.looked_up.ensures ∙ rw (c.index-2.ensures, c.index.ensures) refl)
