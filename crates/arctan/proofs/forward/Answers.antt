-- `arctan::forward` meets its contract: each way through its tests is one case of the definition (proofs/Ways.antt). Assumes nothing.
use Rattle.std.proofs.Common.{ℕ, ◌+◌, ◌-◌, T, sym, ap, ◌∙◌, subst}
use Rattle.arctan.specs.Whole.{quarter, half}
use Rattle.arctan.specs.Arctangent.{back}
use Rattle.arctan.proofs.Ways.{ready_first, ready_second, ready_fourth, ready_far, is_tiny, is_first, is_second, is_fourth, is_far}
use Rattle.arctan.proofs.forward.Goals as goal

pub returns-then-x : goal.returns-then-x
returns-then-x c = is_tiny c.args.x c.if-x.true

pub angle-requires : goal.angle-requires
angle-requires c = let s = c in ready_first s.args.x (subst T (sym s.well_formed.0.1) tt) s.requires c.if-x-2.true

pub returns-then-x-2 : goal.returns-then-x-2
returns-then-x-2 c =
    let d = c in
    c.back.ensures ∙ ap back c.angle.ensures.0 ∙ is_first d.args.x d.if-x.false d.if-x-2.true

pub angle-requires-then-x-3 : goal.angle-requires-then-x-3
angle-requires-then-x-3 c = let s = c in ready_second s.args.x (subst T (sym s.well_formed.0.1) tt) s.requires c.if-x-2.false c.if-x-3.true

pub returns-then-x-3 : goal.returns-then-x-3
returns-then-x-3 c =
    let d = c in
    c.back-then-x-3.ensures
    ∙ ap (λ (n : ℕ). back (quarter - n)) c.angle-then-x-3.ensures.0
    ∙ is_second d.args.x d.if-x.false d.if-x-2.false d.if-x-3.true

pub angle-requires-then-x-4 : goal.angle-requires-then-x-4
angle-requires-then-x-4 c = let s = c in ready_fourth s.args.x (subst T (sym s.well_formed.0.1) tt) s.requires c.if-x-3.false c.if-x-4.true

pub returns-then-x-4 : goal.returns-then-x-4
returns-then-x-4 c =
    let d = c in
    c.back-then-x-4.ensures
    ∙ ap (λ (n : ℕ). back (quarter + n)) c.angle-then-x-4.ensures.0
    ∙ is_fourth d.args.x d.if-x.false d.if-x-2.false d.if-x-3.false d.if-x-4.true

pub angle-requires-2 : goal.angle-requires-2
angle-requires-2 c = let s = c in ready_far s.args.x (subst T (sym s.well_formed.0.1) tt) s.requires c.if-x-4.false

pub returns : goal.returns
returns c =
    let d = c in
    c.back-2.ensures
    ∙ ap (λ (n : ℕ). back (half - n)) c.angle-2.ensures.0
    ∙ is_far d.args.x d.if-x.false d.if-x-2.false d.if-x-3.false d.if-x-4.false
