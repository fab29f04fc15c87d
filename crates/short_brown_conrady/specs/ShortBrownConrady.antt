-- The operations of the short engine: brown_conrady's, with the polynomials (Polynomial) in the place of its quotients,
-- and the test that hands a point over to brown_conrady, which is called full here. Definitions only.
use Rattle.std.specs.Prelude.{Bool, true, cond, ◌&&◌, [], ◌∷◌, Float}
use Rattle.std.specs.Float.Ieee.{is_nan}
use Rattle.std.specs.Float.Ieee.Scale.{finite}
use Rattle.exact.specs.F64.{◌⊕◌, ◌⊖◌, ◌⊗◌, is_zero}
use Rattle.formula.specs.Term.{rounded}
use Rattle.lens.specs.Constants.{ones}
use Rattle.lens.specs.Jacobian.{two_rows}
use Rattle.lens.specs.Passes.{passes}
use Rattle.lens.specs.Radius.{squared_radius}
use Rattle.lens.specs.declared.Jacobian.{Jacobian}
use Rattle.lens.specs.declared.Pixel.{Pixel}
use Rattle.lens.specs.declared.Point.{Point}
use Rattle.lens.specs.declared.Settled.{Settled}
use Rattle.affine.specs.Affine as affine
use Rattle.brown_conrady.specs.BrownConrady as full
use Rattle.brown_conrady.specs.Formula.{at}
use Rattle.brown_conrady.specs.declared.BrownConradyParams.{BrownConradyParams}
use Rattle.brown_conrady.specs.declared.Offset.{Offset}
use Rattle.short_brown_conrady.specs.Polynomial.{xd0, yd0, ux, uy, vx, vy}
use Rattle.short_brown_conrady.specs.declared.Slopes.{Slopes}
use Rattle.short_brown_conrady.specs.declared.Step.{Step}
use Rattle.short_brown_conrady.specs.declared.Tracked.{Tracked}

-- the cameras that this is for
abbrev pub no_quotient : BrownConradyParams → Bool
no_quotient params = is_zero params.k4 && is_zero params.k5 && is_zero params.k6

-- ---- distort

unfoldable pub distortion : BrownConradyParams → Point → Point
distortion params point = record { 0 = rounded (at params point) xd0; 1 = rounded (at params point) yd0 }

-- a sum is finite only where both of its sides are
abbrev pub distort : BrownConradyParams → Point → Pixel
distort params point =
    let pixel = affine.distort (full.affine_params params) (distortion params point) in
    cond (finite (pixel.0 ⊕ pixel.1)) pixel (full.distort params point)

-- ---- the slopes

unfoldable pub slopes_at : BrownConradyParams → Point → Slopes
slopes_at params point = record {
  ux = rounded (at params point) ux;
  uy = rounded (at params point) uy;
  vx = rounded (at params point) vx;
  vy = rounded (at params point) vy;
}

abbrev pub dx_distort_x : BrownConradyParams → Point → Jacobian
dx_distort_x params point =
    let s = slopes_at params point in
    let ux = params.fx ⊗ s.ux in
    let uy = params.fx ⊗ s.uy in
    let vx = params.fy ⊗ s.vx in
    let vy = params.fy ⊗ s.vy in
    cond (finite (ux ⊕ uy ⊕ vx ⊕ vy)) (two_rows (ux ∷ uy ∷ []) (vx ∷ vy ∷ [])) (full.dx_distort_x params point)

-- ---- undistort

-- what the lens makes of xy, less the distorted point
abbrev pub f_xy : BrownConradyParams → Point → Point → Offset
f_xy params distorted xy = record {
  0 = (distortion params xy).0 ⊖ distorted.0;
  1 = (distortion params xy).1 ⊖ distorted.1;
}

-- the step solves with the slopes as they are: the full one's c7 is 1
unfoldable pub step_from : BrownConradyParams → Point → Point → Step
step_from params distorted xy =
    let s = slopes_at params xy in
    record {
      by = full.solve s.ux s.uy s.vx s.vy (f_xy params distorted xy);
      det = s.ux ⊗ s.vy ⊖ s.uy ⊗ s.vx;
    }

abbrev pub by_step : BrownConradyParams → Point → Point → Offset
by_step params distorted xy = (step_from params distorted xy).by

abbrev pub squared_norm : Offset → Float
squared_norm by = squared_radius by.0 by.1

-- brown_conrady's pass by these steps, which a NaN ends too; and the determinant of this one with the step's norm
unfoldable pub pass : BrownConradyParams → Point → Tracked → Tracked
pass params distorted at =
    let step = step_from params distorted at.search.xy in
    record {
      search =
          cond (is_nan (squared_norm step.by))
          (record { xy = at.search.xy; updates = at.search.updates; ended = true })
          (full.pass_by (by_step params distorted) at.search);
      last = step.det ⊕ squared_norm step.by;
    }

abbrev pub start : Point → Tracked
start distorted = record { search = full.start distorted; last = ones }

abbrev pub ended : Tracked → Bool
ended at = full.ended at.search

abbrev pub newton : BrownConradyParams → Point → Tracked
newton params distorted = passes (pass params distorted) ended full.limit (start distorted)

-- where Newton starts
abbrev pub distorted_of : BrownConradyParams → Pixel → Point
distorted_of params pixel = (affine.undistort (full.affine_params params) pixel).point

-- what Newton leaves and its last pass are tested: a number of the search that isn't finite makes one of them so
abbrev pub undistort : BrownConradyParams → Pixel → Settled
undistort params pixel =
    let distorted = distorted_of params pixel in
    let at = newton params distorted in
    let f = f_xy params distorted at.search.xy in
    cond (finite (f.0 ⊕ f.1 ⊕ at.last))
    (record { point = at.search.xy; updates = at.search.updates; flag = full.small f })
    (full.undistort params pixel)
