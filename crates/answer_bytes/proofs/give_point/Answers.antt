-- `answer_bytes::give_point` meets its contract. Assumes nothing.
use mathlib.Core.Path.{ap, ap₂, ◌∙◌}
use mathlib.Core.List.{List}
use Prim.Native.Nat.{ℕ}
use Rattle.little_endian.specs.Bytes.{bytes, put}
use Rattle.given.proofs.Giving.{written, left_alone}
use Rattle.answer_bytes.proofs.Giving.{point_put}
use Rattle.answer_bytes.specs.Answer.{point_bytes}
use Rattle.answer_bytes.proofs.give_point.Goals as goal

pub returns-then-code-eq0 : goal.returns-then-code-eq0
returns-then-code-eq0 c = let t = c.args.told in let s = t.settled in let lent = c.args.answer.now in written 24 t.number (point_bytes s) lent _ c.code-code.ensures _ c.if-code-eq0.true (λ e. c.put-then-code-eq0.ensures ∙ ap₂ (λ (w : ℕ) (l : List ℕ). put 20 (bytes 4 w) l) c.flag_number.ensures (c.put.ensures ∙ ap (put 16 (bytes 4 s.updates)) c.put_floats.ensures) ∙ point_put s lent e)

pub returns-else-code-eq0 : goal.returns-else-code-eq0
returns-else-code-eq0 c = let t = c.args.told in left_alone 24 t.number (point_bytes t.settled) c.args.answer.now _ c.code-code.ensures c.if-code-eq0.false
