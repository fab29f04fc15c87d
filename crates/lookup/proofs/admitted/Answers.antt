-- `lookup::admitted` meets its contract. Assumes nothing.
use Rattle.std.proofs.Common.{◌≡◌, Bool, not, sym, refl, ap, ◌∙◌}
use Rattle.lookup.proofs.Steps.{admitted_so}
use Rattle.lookup.proofs.admitted.Goals as goal
use Rattle.lookup.proofs.admitted.Goals.{
  then-not-finite_region-via-then-not-finite_region,
  then-not-finite_region-via-else-not-finite_region+then-not-both_finite,
}

-- the opposite of what a test said is the opposite of what the contract says it is
opposites : {answer value is : Bool} → answer ≡ value → answer ≡ is → not value ≡ not is
opposites a e = sym (ap not a) ∙ ap not e

pub returns-then-not-finite_region : goal.returns-then-not-finite_region
returns-then-not-finite_region c =
    elim c.then-not-finite_region.branch [
      | then-not-finite_region-via-then-not-finite_region w ↦ admitted_so _ _ _ _ _ (opposites w.if-not-finite_region.true c.finite_region.ensures) refl refl refl
      | then-not-finite_region-via-else-not-finite_region+then-not-both_finite w ↦
          admitted_so _ _ _ _ _ (opposites w.if-not-finite_region.false c.finite_region.ensures) (opposites w.if-not-both_finite.true w.both_finite.ensures) refl refl
    ]

pub returns-then-not-sized : goal.returns-then-not-sized
returns-then-not-sized c = admitted_so _ _ _ _ _ (opposites c.if-not-finite_region.false c.finite_region.ensures) (opposites c.if-not-both_finite.false c.both_finite.ensures) (opposites c.if-not-sized.true c.sized.ensures) refl

pub returns-then-measured : goal.returns-then-measured
returns-then-measured c =
    admitted_so _ _ _ _ _ (opposites c.if-not-finite_region.false c.finite_region.ensures) (opposites c.if-not-both_finite.false c.both_finite.ensures) (opposites c.if-not-sized.false c.sized.ensures) (sym c.if-measured.true ∙ c.measured.ensures)

pub returns-else-measured : goal.returns-else-measured
returns-else-measured c =
    admitted_so _ _ _ _ _ (opposites c.if-not-finite_region.false c.finite_region.ensures) (opposites c.if-not-both_finite.false c.both_finite.ensures) (opposites c.if-not-sized.false c.sized.ensures) (sym c.if-measured.false ∙ c.measured.ensures)
