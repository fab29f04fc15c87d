-- `short_brown_conrady::pass` meets its contract: the definition goes the same way at the test. Assumes nothing.
use mathlib.Core.Path.{◌≡◌, refl, sym, ap, ◌∙◌}
use mathlib.Core.Bool.{Bool, true, false, cond, not, ◌&&◌}
use Prim.Native.Nat.{◌+◌}
use lib.Ieee.{Float, is_nan}
use Rattle.exact.specs.F64.{◌⊕◌, ◌⊖◌}
use Rattle.lens.specs.declared.Point.{Point}
use Rattle.brown_conrady.specs.BrownConrady.{small, past, pass_by}
use Rattle.brown_conrady.specs.declared.BrownConradyParams.{BrownConradyParams}
use Rattle.brown_conrady.specs.declared.Search.{Search}
use Rattle.short_brown_conrady.specs.ShortBrownConrady.{step_from, squared_norm, pass}
use Rattle.short_brown_conrady.specs.declared.Step.{Step}
use Rattle.short_brown_conrady.specs.declared.Tracked.{Tracked}
use Rattle.short_brown_conrady.proofs.pass.Goals as goal

-- a NaN stays and a small step stays, or: what is neither moves
either_stays : {A : Type 0} (a b : Bool) (stays moves : A) → cond (not a && not b) moves stays ≡ cond a stays (cond b stays moves)
either_stays true b stays moves = refl
either_stays false true stays moves = refl
either_stays false false stays moves = refl

module _ (params : BrownConradyParams) (distorted : Point) (at : Tracked) {step : Step} (is : step ≡ step_from params distorted at.search.xy) where
  abbrev moved : Step → Search
  moved step = record { xy = record { 0 = at.search.xy.0 ⊖ step.by.0; 1 = at.search.xy.1 ⊖ step.by.1 }; updates = at.search.updates + 1; ended = false }

  abbrev stayed : Search
  stayed = record { xy = at.search.xy; updates = at.search.updates; ended = true }

  abbrev made : Step → Float → Bool → Tracked
  made step norm b = record { search = cond b (moved step) stayed; last = step.det ⊕ norm }

  by_definition : let s = step_from params distorted at.search.xy in made s (squared_norm s.by) (past s.by) ≡ pass params distorted at
  unfolding pass pass_by
  by_definition =
      let s = step_from params distorted at.search.xy in
      ap (λ (x : Search). record { search = x; last = s.det ⊕ squared_norm s.by }) (either_stays (is_nan (squared_norm s.by)) (small s.by) stayed (moved s))

  -- by what the test says
  tested : {norm : Float} → norm ≡ squared_norm step.by → {b : Bool} → b ≡ past step.by → {t : Bool} → b ≡ t → made step norm t ≡ pass params distorted at
  tested {norm} n f e =
      ap (made step norm) (sym e ∙ f) ∙ ap (λ (x : Float). made step x (past step.by)) n
      ∙ ap (λ (s : Step). made s (squared_norm s.by) (past s.by)) is
      ∙ by_definition

pub returns-then-past : goal.returns-then-past
returns-then-past c =
    let i = c in
    let n = i in
    let a = n.args in
    tested a.params a.distorted a.at n.step_from-step.ensures n.squared_radius.ensures i.past.ensures i.if-past.true

pub returns : goal.returns
returns c =
    let n = c in
    let a = n.args in
    tested a.params a.distorted a.at n.step_from-step.ensures n.squared_radius.ensures c.past.ensures c.if-past.false
