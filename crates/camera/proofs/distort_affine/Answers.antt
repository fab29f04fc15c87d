-- `camera::distort_affine` meets its contract. Assumes nothing.
use mathlib.Core.Path.{refl, sym, ap, ◌∙◌}
use Rattle.lens.specs.Distorted.{finite_pixel}
use Rattle.camera.specs.declared.Camera.TheVariants.{Affine}
use Rattle.camera.proofs.Given.{judged_zero, judged_taken, given_finite, found_told, told_by_tests}
use Rattle.camera.proofs.distort_affine.Goals as goal

pub returns-then-zero_focal : goal.returns-then-zero_focal
returns-then-zero_focal c =
    let a = c.args in
    rw (judged_zero (Affine a.p) a.point.0 a.point.1 (given_finite a.p a.point c.distort-pixel.ensures c.both_finite.ensures c.if-both_finite.true) (sym c.zero_focal.ensures ∙ c.if-zero_focal.true)) refl

pub returns-then-both_finite : goal.returns-then-both_finite
returns-then-both_finite c =
    let a = c.args in
    rw (judged_taken (Affine a.p) a.point.0 a.point.1 (given_finite a.p a.point c.distort-pixel.ensures c.both_finite.ensures c.if-both_finite.true) (sym c.zero_focal.ensures ∙ c.if-zero_focal.false))
    (found_told c.both_finite.ensures c.if-both_finite.true ∙ ap finite_pixel c.distort-pixel.ensures)

pub returns : goal.returns
returns c = let a = c.args in told_by_tests (Affine a.p) a.point c.mark.ensures c.zero_focal-2.ensures c.distort-pixel.ensures c.judged_pixel.ensures
