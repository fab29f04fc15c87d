-- `arctan::tangent` meets its contract: it is the definition by the same tests, and the definition owes what specs/Owed.antt says (proofs/Answers.antt). Assumes nothing.
use Rattle.std.proofs.Common.{◌≡◌, Bool, T, sym, refl, ap, ◌∙◌, subst}
use lib.Ieee.{Float, nan, binary64, fits, neg, lt, le, div, of_bits}
use Rattle.exact.specs.F64.{f64, magnitude, ◌⊘◌}
use Rattle.arctan.specs.Arctangent.{tiny}
use Rattle.arctan.specs.Owed.{Tangent}
use Rattle.arctan.specs.Tangent.{steep, limit_end, tangent}
use Rattle.std.specs.Prelude.{Option, Some, None}
use Rattle.arctan.proofs.Choice.{so, so_not, tangent_tiny, tangent_minus, tangent_plus, tangent_refused, tangent_none}
use Rattle.arctan.proofs.Answers.{number_between, between, tangent_near}
use Rattle.arctan.proofs.tangent.Goals as goal

-- what is the definition's owes what it owes
abbrev Both : Float → Option Float → Type 0
Both theta r = record { is : r ≡ tangent theta; near : Tangent theta r }

both : (theta : Float) (r : Option Float) → T (fits binary64 theta) → r ≡ tangent theta → Both theta r
both theta r f e = record { is = e; near = subst (λ (s : Option Float). Tangent theta s) (sym e) (tangent_near theta f) }

-- the tests are the size's
below : (x y : Float) {b : Bool} → x ≡ y → lt x tiny ≡ b → lt y tiny ≡ b
below x y e h = ap (λ (z : Float). lt z tiny) (sym e) ∙ h

within : (x y : Float) {b : Bool} → x ≡ y → le x limit_end ≡ b → le y limit_end ≡ b
within x y e h = ap (λ (z : Float). le z limit_end) (sym e) ∙ h

no_number : f64 0 ⊘ f64 0 ≡ nan
unfolding div of_bits
no_number = refl

pub returns-then-size : goal.returns-then-size
returns-then-size c =
    let s = c in
    let theta = s.args.theta in
    both theta (Some theta) (subst T (sym s.well_formed.0.1) tt) (tangent_tiny theta (below c.magnitude-size.result (magnitude theta) c.magnitude-size.ensures c.if-size.true))

pub steep-t-requires : goal.steep-t-requires
steep-t-requires c =
    let size = c.magnitude-size.result in
    between size (number_between size c.if-size.false c.if-size-2.true) (so_not c.if-size.false) (so c.if-size-2.true)

pub returns-then-theta : goal.returns-then-theta
returns-then-theta c =
    let d = c in
    let theta = d.args.theta in
    let size = magnitude theta in
    both theta (Some (neg c.steep-t.result)) (subst T (sym d.well_formed.0.1) tt)
    (ap (λ (t : Float). Some (neg t)) (c.steep-t.ensures ∙ ap steep c.magnitude-size.ensures) ∙ tangent_minus theta (below c.magnitude-size.result (magnitude c.args.theta) c.magnitude-size.ensures c.if-size.false) (within d.magnitude-size.result size d.magnitude-size.ensures c.if-size-2.true) c.if-theta.true)

pub returns-then-size-2 : goal.returns-then-size-2
returns-then-size-2 c =
    let d = c in
    let theta = d.args.theta in
    let size = magnitude theta in
    both theta (Some c.steep-t.result) (subst T (sym d.well_formed.0.1) tt)
    (ap Some (c.steep-t.ensures ∙ ap steep c.magnitude-size.ensures) ∙ tangent_plus theta (below c.magnitude-size.result (magnitude c.args.theta) c.magnitude-size.ensures c.if-size.false) (within d.magnitude-size.result size d.magnitude-size.ensures c.if-size-2.true) c.if-theta.false)

pub returns-then-is_finite : goal.returns-then-is_finite
returns-then-is_finite c =
    let d = c in
    let theta = d.args.theta in
    both theta None (subst T (sym d.well_formed.0.1) tt)
    (tangent_refused theta (below c.magnitude-size.result (magnitude c.args.theta) c.magnitude-size.ensures c.if-size.false) (within d.magnitude-size.result (magnitude theta) d.magnitude-size.ensures c.if-size-2.false) (sym c.is_finite.ensures ∙ c.if-is_finite.true))

pub returns : goal.returns
returns c =
    let d = c in
    let theta = d.args.theta in
    both theta (Some (f64 0 ⊘ f64 0)) (subst T (sym d.well_formed.0.1) tt)
    (ap Some no_number ∙ tangent_none theta (below c.magnitude-size.result (magnitude c.args.theta) c.magnitude-size.ensures c.if-size.false) (within d.magnitude-size.result (magnitude theta) d.magnitude-size.ensures c.if-size-2.false) (sym c.is_finite.ensures ∙ c.if-is_finite.false))
