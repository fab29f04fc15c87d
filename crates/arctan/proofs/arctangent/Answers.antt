-- `arctan::arctangent` meets its contract: it is the definition by the same tests, and the definition is near the series (proofs/Near.antt). Assumes nothing.
use Rattle.std.proofs.Common.{◌≡◌, T, sym, ap, ◌∙◌, subst}
use lib.Ieee.{Float, binary64, fits, neg}
use Rattle.arctan.specs.Series.{Arctangent}
use Rattle.arctan.specs.Arctangent.{arctangent}
use Rattle.arctan.proofs.Near.{arctangent_near, when_below, when_not_below, when_nan, minus_above, not_minus}
use Rattle.arctan.proofs.arctangent.Goals as goal

-- what is the definition's is near the series
abbrev Both : Float → Float → Type 0
Both x r = record { is : r ≡ arctangent x; near : Arctangent x r }

both : (x r : Float) → T (fits binary64 x) → r ≡ arctangent x → Both x r
both x r f e = record { is = e; near = subst (λ (y : Float). Arctangent x y) (sym e) (arctangent_near x f) }

pub forward-requires : goal.forward-requires
forward-requires c = minus_above c.args.x c.if-x.true

pub returns-then-x : goal.returns-then-x
returns-then-x c =
    let s = c in
    both s.args.x (neg c.forward.result) (subst T (sym s.well_formed.0.1) tt) (ap neg c.forward.ensures ∙ sym (when_below s.args.x c.if-x.true))

pub forward-requires-then-x-2 : goal.forward-requires-then-x-2
forward-requires-then-x-2 c = not_minus c.args.x c.if-x.false c.if-x-2.true

pub returns-then-x-2 : goal.returns-then-x-2
returns-then-x-2 c =
    let s = c in
    both s.args.x c.forward-then-x-2.result (subst T (sym s.well_formed.0.1) tt) (c.forward-then-x-2.ensures ∙ sym (when_not_below s.args.x c.if-x.false c.if-x-2.true))

pub returns : goal.returns
returns c =
    let s = c in
    both s.args.x s.args.x (subst T (sym s.well_formed.0.1) tt) (when_nan s.args.x c.if-x.false c.if-x-2.false)
