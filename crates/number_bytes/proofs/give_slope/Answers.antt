-- `number_bytes::give_slope` meets its contract. Assumes nothing.
use mathlib.Core.Path.{ap, sym, ◌∙◌}
use mathlib.Core.List.{[], ◌∷◌}
use Prim.Native.Nat.{ℕ}
use native.Mathlib.Omega.{arith}
use lib.Dec.{eqb}
use lib.ListN.{length}
use Rattle.little_endian.specs.Bytes.{floats}
use Rattle.little_endian.proofs.Laws.{length_floats, put_whole}
use Rattle.given.specs.Given.{code}
use Rattle.given.proofs.Giving.{zero_told, written, left_alone}
use Rattle.lens.specs.Constants.{zeros}
use Rattle.number_bytes.proofs.give_slope.Goals as goal

pub returns-in_default : goal.returns-in_default
returns-in_default c =
    let lent = c.args.answer.now in
    rw c.in_default.is
    (left_alone 8 10 (floats (zeros ∷ [])) lent _ (c.code.ensures ∙ ap (λ (n : ℕ). code n (eqb (length lent) 8)) c.number.ensures)
    (λ e. omega (arith, c.number.ensures, (zero_told c.number.result (eqb (length lent) 8) (sym c.code.ensures ∙ e)).0)))

pub returns-then-code-eq0 : goal.returns-then-code-eq0
returns-then-code-eq0 c =
    let t = c.in-Some.slope in
    let lent = c.args.answer.now in
    rw c.in-Some.is
    (written 8 0 (floats (t ∷ [])) lent _ c.code-code.ensures _ c.if-code-eq0.true
    (λ e. c.put_floats.ensures ∙ put_whole (floats (t ∷ [])) lent (omega (arith, e, length_floats (t ∷ [])))))

pub returns-else-code-eq0 : goal.returns-else-code-eq0
returns-else-code-eq0 c = rw c.in-Some.is (left_alone 8 0 (floats (c.in-Some.slope ∷ [])) c.args.answer.now _ c.code-code.ensures c.if-code-eq0.false)
