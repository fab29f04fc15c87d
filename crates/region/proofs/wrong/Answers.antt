-- `region::wrong` meets its contract. Assumes nothing.
use Rattle.lens.specs.Judgement.{accepted}
use Rattle.std.proofs.Common.{◌≡◌, Bool, cond, ◌&&◌, ◌||◌, sym, refl, ◌∙◌}
use Rattle.std.specs.declared.result.Result.TheVariants.{Err}
use lib.Ieee.Scale.{finite}
use Rattle.lens.specs.declared.Refusal.TheVariants.{IncrementNotPositive, AnswerNotFinite}
use Rattle.region.specs.Region.{flat, wrong}
use Rattle.region.specs.declared.Increments.{Increments}
use Rattle.region.proofs.wrong.Goals as goal
use Rattle.region.proofs.wrong.Goals.{then-flat-via-then-flat, then-flat-via-else-flat+then-flat-2}

-- by what the tests say
judged_so : (by : Increments) {f g b : Bool} → f ≡ flat by.0 → g ≡ flat by.1 → b ≡ (finite by.0 && finite by.1)
    → cond (f || g) (Err IncrementNotPositive) (cond b accepted (Err AnswerNotFinite)) ≡ wrong by
unfolding wrong
judged_so by f g b = rw (f, g, b) refl

pub returns-then-flat : goal.returns-then-flat
returns-then-flat c =
    elim c.then-flat.branch [
      | then-flat-via-then-flat w ↦ judged_so _ (sym w.if-flat.true ∙ c.flat.ensures) refl refl
      | then-flat-via-else-flat+then-flat-2 w ↦ judged_so _ (sym w.if-flat.false ∙ c.flat.ensures) (sym w.if-flat-2.true ∙ w.flat-else-flat.ensures) refl
    ]

pub returns-then-both_finite : goal.returns-then-both_finite
returns-then-both_finite c =
    let d = c in
    judged_so _ (sym d.if-flat.false ∙ d.flat.ensures) (sym c.if-flat-2.false ∙ d.flat-else-flat.ensures) (sym c.if-both_finite.true ∙ c.both_finite.ensures)

pub returns-else-both_finite : goal.returns-else-both_finite
returns-else-both_finite c =
    let d = c in
    judged_so _ (sym d.if-flat.false ∙ d.flat.ensures) (sym c.if-flat-2.false ∙ d.flat-else-flat.ensures) (sym c.if-both_finite.false ∙ c.both_finite.ensures)
