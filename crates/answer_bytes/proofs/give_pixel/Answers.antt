-- `answer_bytes::give_pixel` meets its contract. Assumes nothing.
use mathlib.Core.Path.{refl, ◌∙◌}
use mathlib.Core.List.{[], ◌∷◌}
use Rattle.given.proofs.Giving.{written, left_alone}
use Rattle.answer_bytes.proofs.Giving.{numbers_put}
use Rattle.answer_bytes.specs.Answer.{pixel_bytes}
use Rattle.answer_bytes.proofs.give_pixel.Goals as goal

pub returns-then-code-eq0 : goal.returns-then-code-eq0
returns-then-code-eq0 c = let t = c.args.told in let lent = c.args.answer.now in written 16 t.number (pixel_bytes t.pixel) lent _ c.code-code.ensures _ c.if-code-eq0.true (λ e. c.put_floats.ensures ∙ numbers_put (t.pixel.0 ∷ t.pixel.1 ∷ []) lent 16 refl e)

pub returns-else-code-eq0 : goal.returns-else-code-eq0
returns-else-code-eq0 c = let t = c.args.told in left_alone 16 t.number (pixel_bytes t.pixel) c.args.answer.now _ c.code-code.ensures c.if-code-eq0.false
