-- `opencv::convert` meets its contract. Assumes nothing.
use mathlib.Core.Path.{◌∙◌}
use Rattle.opencv.proofs.Short.{no_room, all_room, counts}
use Rattle.opencv.proofs.convert.Goals as goal

pub returns-then-out-lt-OUTPUT : goal.returns-then-out-lt-OUTPUT
returns-then-out-lt-OUTPUT c = let e = no_room c.args.text.now c.args.out.now c.if-out-lt-OUTPUT.true in record { result_after = e; prefix_len = counts c.args.text.now c.args.out.now _ _ e }

pub returns : goal.returns
returns c = let e = c.answer.ensures ∙ all_room c.args.text.now c.args.out.now c.if-out-lt-OUTPUT.false in record { result_after = e; prefix_len = counts c.args.text.now c.args.out.now _ _ e }
