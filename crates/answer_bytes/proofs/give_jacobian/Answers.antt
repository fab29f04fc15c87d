-- `answer_bytes::give_jacobian` meets its contract. Assumes nothing.
use mathlib.Core.Path.{◌≡◌, sym, ap, ◌∙◌}
use mathlib.Core.List.{[]}
use Rattle.given.specs.Given.{code}
use Prim.Native.Nat.{ℕ}
use native.Mathlib.Omega.{arith}
use lib.Dec.{eqb}
use lib.ListN.{length}
use borrow.Author.Rules.{rules}
use Rattle.little_endian.specs.Bytes.{bytes, put}
use Rattle.lens.specs.Jacobian.{entries, two_rows}
use Rattle.lens.specs.Refusal.{number}
use Rattle.given.proofs.Giving.{zero_told, right_length, written, left_alone}
use Rattle.answer_bytes.proofs.Entries.{none}
use Rattle.answer_bytes.proofs.Giving.{jacobian_put}
use Rattle.answer_bytes.specs.Answer.{jacobian_bytes, columns_place, jacobian_length}
use Rattle.answer_bytes.proofs.give_jacobian.Goals as goal

pub put_entries-requires : goal.put_entries-requires
put_entries-requires c =
    let lent = c.args.answer.now in
    let zero = sym c.code-code.ensures ∙ c.if-code-eq0.true in
    let n : length c.in-Ok.jacobian.entries ≡ entries = search rules in
    (omega (arith, right_length 0 jacobian_length lent zero), (n, rw c.in-Ok.is at c.requires))

pub returns-then-code-eq0 : goal.returns-then-code-eq0
returns-then-code-eq0 c =
    let j = c.in-Ok.jacobian in
    let lent = c.args.answer.now in
    let n : length j.entries ≡ entries = search rules in
    rw c.in-Ok.is
    (written jacobian_length 0 (jacobian_bytes j) lent _ c.code-code.ensures _ c.if-code-eq0.true
    (λ e. c.put.ensures ∙ ap (put columns_place (bytes 8 j.columns)) c.put_entries.ensures ∙ jacobian_put j lent n e))

pub returns-else-code-eq0 : goal.returns-else-code-eq0
returns-else-code-eq0 c = rw c.in-Ok.is (left_alone jacobian_length 0 (jacobian_bytes c.in-Ok.jacobian) c.args.answer.now _ c.code-code.ensures c.if-code-eq0.false)

pub returns-in-Err : goal.returns-in-Err
returns-in-Err c =
    let r = c.in-Err.refusal in
    let lent = c.args.answer.now in
    let own : c.number.result ≡ number r = c.number.ensures in
    rw c.in-Err.is
    (left_alone jacobian_length (number r) (jacobian_bytes (two_rows [] [])) lent _ (c.code.ensures ∙ ap (λ (n : ℕ). code n (eqb (length lent) jacobian_length)) own)
    (λ e. none r (sym own ∙ (zero_told c.number.result (eqb (length lent) jacobian_length) (sym c.code.ensures ∙ e)).0)))
