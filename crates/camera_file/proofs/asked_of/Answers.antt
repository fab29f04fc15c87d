-- `camera_file::asked_of` meets its contract. Assumes nothing.
use mathlib.Core.Path.{sym, ap, ◌∙◌}
use Prim.Native.Nat.{ℕ}
use Rattle.std.proofs.Common.{Option}
use Rattle.params_line.specs.Params.{params_of}
use Rattle.camera_file.specs.Asked.{asked_of}
use Rattle.camera_file.proofs.Models.{asked_right, asked_wrong}
use Rattle.camera_file.proofs.asked_of.Goals as goal

pub returns-then-many-from : goal.returns-then-many-from
returns-then-many-from c =
    asked_wrong _ _ _ _ _ _ c.many.ensures (c.from.ensures ∙ c.count.ensures) c.if-many-from.true
    ∙ ap (λ (m : Option ℕ). asked_of m c.args.width c.args.height (params_of c.args.line.now)) (sym c.in_ok-model.ensures.ok_part)

pub returns : goal.returns
returns c =
    asked_right _ _ _ _ _ _ c.many.ensures (c.from.ensures ∙ c.count.ensures) c.if-many-from.false _ c.camera_of.ensures
    ∙ ap (λ (m : Option ℕ). asked_of m c.args.width c.args.height (params_of c.args.line.now)) (sym c.in_ok-model.ensures.ok_part)
