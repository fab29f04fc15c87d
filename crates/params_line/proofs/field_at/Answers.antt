-- `params_line::field_at` meets its contract: the k-th field stands k times 17 bytes after the word. Assumes nothing.
use mathlib.Core.Path.{refl, ◌∙◌}
use Rattle.params_line.proofs.Params.{param_at}
use Rattle.params_line.proofs.field_at.Goals as goal

pub returns : goal.returns
returns c = c.unwrap_or.ensures ∙ param_at _ _ _ _ c.requires refl refl _ c.after.ensures
