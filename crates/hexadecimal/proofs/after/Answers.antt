-- `hexadecimal::after` meets its contract. Assumes nothing.
use mathlib.Core.Path.{◌∙◌}
use Rattle.hexadecimal.proofs.Word.{after_word, after_unlike}
use Rattle.hexadecimal.proofs.after.Goals as goal

pub returns-in_err-strip_prefix : goal.returns-in_err-strip_prefix
returns-in_err-strip_prefix c = c.from_residual.ensures ∙ after_unlike _ _ c.in_err-strip_prefix.ensures.cases

pub returns : goal.returns
returns c =
    let p = c.in_ok-strip_prefix.ensures.cases in
    c.spelled.ensures ∙ after_word _ _ _ p.0 p.1
