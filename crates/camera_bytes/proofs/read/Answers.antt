-- `camera_bytes::read` meets its contract. Assumes nothing.
use Rattle.std.proofs.Common.{rules}
use mathlib.Core.Path.{sym, ap, ◌∙◌}
use Rattle.std.specs.declared.result.Result.TheVariants.{Ok}
use Rattle.camera_bytes.proofs.Counted.{read_refused, read_taken}
use Rattle.camera_bytes.proofs.read.Goals as goal

pub returns-in_err-judged : goal.returns-in_err-judged
returns-in_err-judged c =
    let a = c.args in
    let e = read_refused a.model a.params.now (sym c.judged.ensures ∙ c.in_err-judged.was) in
    search rules

pub returns : goal.returns
returns c =
    let a = c.args in
    ap Ok c.camera_of.ensures ∙ sym (read_taken a.model a.params.now (sym c.judged.ensures ∙ c.in_ok-judged.was))
