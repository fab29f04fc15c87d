-- `camera_bytes::read_finite` meets its contract. Assumes nothing.
use Rattle.std.proofs.Common.{rules}
use mathlib.Core.Path.{sym, ap, ◌∙◌}
use Rattle.camera_bytes.specs.Reading.{finite_only}
use Rattle.camera_bytes.proofs.Counted.{read_refused, read_taken, judged_taken}
use Rattle.camera_bytes.proofs.read_finite.Goals as goal

pub returns-in_err-judged : goal.returns-in_err-judged
returns-in_err-judged c =
    let a = c.args in
    let e = read_refused a.model a.params.now (sym c.judged.ensures ∙ c.in_err-judged.was) in
    search rules

pub whole-requires : goal.whole-requires
whole-requires c = let a = c.args in judged_taken a.model a.params.now (sym c.judged.ensures ∙ c.in_ok-judged.was)

pub returns : goal.returns
returns c =
    let a = c.args in
    c.whole.ensures ∙ sym (ap finite_only (read_taken a.model a.params.now (sym c.judged.ensures ∙ c.in_ok-judged.was)))
