-- `opencv::judge_params` meets its contract. Assumes nothing.
use mathlib.Core.Path.{sym, ap, ◌∙◌}
use mathlib.Core.Bool.{not}
use borrow.Author.Tests.{eq-eqb, ne_eqb}
use Rattle.lens.specs.Rows.{first}
use lib.ListN.{length}
use Rattle.params_line.specs.Params.{params_of}
use Rattle.params_line.proofs.Params.{params_length}
use Rattle.opencv.specs.Moved.{number_rows}
use Rattle.opencv.specs.declared.Twelve.{Twelve}
use Rattle.opencv.proofs.Judging.{holds, past}
use Rattle.opencv.proofs.judge_params.Goals as goal

pub returns-then-many-eq12 : goal.returns-then-many-eq12
returns-then-many-eq12 c = past 3 (ap not (eq-eqb (length (params_of c.args.line.now)) 12 (params_length c.args.line.now ∙ sym c.many.ensures ∙ c.if-many-eq12.true))) (c.judge_numbers.ensures ∙ ap (λ (n : Twelve). first (number_rows n)) c.from_params.ensures)

pub returns-else-many-eq12 : goal.returns-else-many-eq12
returns-else-many-eq12 c = holds 3 _ (ap not (ne_eqb (length (params_of c.args.line.now)) 12 (λ e. c.if-many-eq12.false (c.many.ensures ∙ sym (params_length c.args.line.now) ∙ e))))
