-- `params_line::fielded` meets its contract. Assumes nothing.
use mathlib.Core.Bool.{not}
use mathlib.Core.Path.{ap, ◌∙◌}
use Prim.Native.Nat.{◌*◌}
use native.Mathlib.Omega.{arith}
use lib.ListN.{drop}
use Rattle.std.proofs.Common.{Option, ℕ, is_some}
use Rattle.decimal.specs.Text.{same}
use Rattle.params_line.proofs.Params.{cut, no_field, a_field, all_fielded, whole_from}
use Rattle.params_line.proofs.fielded.Goals as goal

pub returns-then-not-is_field : goal.returns-then-not-is_field
returns-then-not-is_field c =
    let l = c.loop-i in
    let e = c.is_field.ensures ∙ ap (λ (o : Option ℕ). is_some o) (cut (drop (l.i * 17) c.args.line.now) _ (omega arith)) in
    no_field _ _ l.i c.loop-i-test.true _ e l.invariant (ap not c.if-not-is_field.true)

pub loop-i-preserved : goal.loop-i-preserved
loop-i-preserved c =
    let l = c.loop-i in
    let e = c.is_field.ensures ∙ ap (λ (o : Option ℕ). is_some o) (cut (drop (l.i * 17) c.args.line.now) _ (omega arith)) in
    a_field _ _ l.i c.loop-i-test.true _ e l.invariant (ap not c.if-not-is_field.false)

pub returns : goal.returns
returns c =
    c.eq.ensures
    ∙ ap (same _) c.as_slice.ensures
    ∙ whole_from c.args.line.now (c.args.n * 17)
    ∙ all_fielded _ _ _ c.loop-i-test.false c.loop-i.auto.i-end c.loop-i.invariant
