-- `job::opens` meets its contract. Assumes nothing.
use mathlib.Core.Path.{◌≡◌, refl, sym, ◌∙◌}
use mathlib.Core.Bool.{Bool, cond, ◌&&◌}
use Prim.Native.Nat.{ℕ}
use Rattle.std.specs.declared.result.Result.TheVariants.{Err}
use Rattle.lens.specs.Finite.{all_finite}
use Rattle.lens.specs.Judgement.{accepted}
use Rattle.lens.specs.declared.Refusal.TheVariants.{NotFinite, ZeroFocalLength, WrongSize}
use Rattle.region.specs.Region.{four}
use Rattle.region.specs.Size.{sized}
use Rattle.region.specs.declared.Region.{Region}
use Rattle.camera.specs.Camera.{parameters, zero_focal}
use Rattle.camera.specs.declared.Camera.{Camera}
use Rattle.table_plans.specs.Tables.{opens_for}
use Rattle.job.proofs.opens.Goals as goal
use Rattle.job.proofs.opens.Goals.{
  then-not-finite_parameters-via-then-not-finite_parameters,
  then-not-finite_parameters-via-else-not-finite_parameters+then-not-finite_region,
}

-- by what the four tests say
judged_so :
    (camera : Camera) (width height : ℕ) (region : Region) {p q z s : Bool}
    → all_finite (parameters camera) ≡ p → all_finite (four region) ≡ q → zero_focal camera ≡ z → sized width height ≡ s
    → cond (p && q) (cond z (Err ZeroFocalLength) (cond s accepted (Err WrongSize))) (Err NotFinite) ≡ opens_for camera width height region
unfolding opens_for
judged_so camera width height region e f g h = rw (e, f, g, h) refl

pub returns-then-not-finite_parameters : goal.returns-then-not-finite_parameters
returns-then-not-finite_parameters c =
    let a = c.args in
    let p = sym c.finite_parameters.ensures in
    elim c.then-not-finite_parameters.branch [
      | then-not-finite_parameters-via-then-not-finite_parameters w ↦ judged_so a.camera a.width a.height a.region (p ∙ w.if-not-finite_parameters.true) refl refl refl
      | then-not-finite_parameters-via-else-not-finite_parameters+then-not-finite_region w ↦
          judged_so a.camera a.width a.height a.region (p ∙ w.if-not-finite_parameters.false) (sym w.finite_region.ensures ∙ w.if-not-finite_region.true) refl refl
    ]

pub returns-then-zero_focal : goal.returns-then-zero_focal
returns-then-zero_focal c =
    let a = c.args in
    let e = sym c.finite_parameters.ensures ∙ c.if-not-finite_parameters.false in
    let f = sym c.finite_region.ensures ∙ c.if-not-finite_region.false in
    judged_so a.camera a.width a.height a.region e f (sym c.zero_focal.ensures ∙ c.if-zero_focal.true) refl

pub returns-then-not-sized : goal.returns-then-not-sized
returns-then-not-sized c =
    let a = c.args in
    let e = sym c.finite_parameters.ensures ∙ c.if-not-finite_parameters.false in
    let f = sym c.finite_region.ensures ∙ c.if-not-finite_region.false in
    judged_so a.camera a.width a.height a.region e f (sym c.zero_focal.ensures ∙ c.if-zero_focal.false) (sym c.sized.ensures ∙ c.if-not-sized.true)

pub returns : goal.returns
returns c =
    let a = c.args in
    let e = sym c.finite_parameters.ensures ∙ c.if-not-finite_parameters.false in
    let f = sym c.finite_region.ensures ∙ c.if-not-finite_region.false in
    judged_so a.camera a.width a.height a.region e f (sym c.zero_focal.ensures ∙ c.if-zero_focal.false) (sym c.sized.ensures ∙ c.if-not-sized.false)
