-- The operations of bc12: what brown_conrady's definitions give, with the prism added. Each product, sum, difference
-- and quotient rounds once. The Rust has none of this: the order is OpenCV's, left to right. Definitions only.
use Rattle.std.specs.Prelude.{◌≡◌, true, [], ◌∷◌, map}
use Rattle.exact.specs.F64.{◌⊕◌, ◌⊖◌, ◌⊗◌, is_zero}
use Rattle.formula.specs.Term.{rounded}
use Rattle.lens.specs.Constants.{int}
use Rattle.lens.specs.Jacobian.{two_rows}
use Rattle.lens.specs.Passes.{passes}
use Rattle.lens.specs.Radius.{squared_radius}
use Rattle.lens.specs.declared.Jacobian.{Jacobian}
use Rattle.lens.specs.declared.Pixel.{Pixel}
use Rattle.lens.specs.declared.Point.{Point}
use Rattle.lens.specs.declared.Settled.{Settled}
use Rattle.affine.specs.Affine as affine
use Rattle.brown_conrady.specs.BrownConrady as bc
use Rattle.brown_conrady.specs.BrownConrady.{affine_params, slopes_at, small, solve, pass_by, limit, start, ended}
use Rattle.brown_conrady.specs.declared.Offset.{Offset}
use Rattle.brown_conrady.specs.declared.Search.{Search}
use Rattle.thin_prism.specs.Formula.{at, u_params, v_params}
use Rattle.thin_prism.specs.declared.PrismSlopes.{PrismSlopes}
use Rattle.thin_prism.specs.declared.ThinPrismParams.{ThinPrismParams}

-- a prism that does nothing: its four are zeros, of either sign
pub record NoPrism (params : ThinPrismParams) : Type 0 where
  pub s1 : is_zero params.s1 ≡ true
  pub s2 : is_zero params.s2 ≡ true
  pub s3 : is_zero params.s3 ≡ true
  pub s4 : is_zero params.s4 ≡ true

-- ---- distort

-- With s1 = 1, s4 = 2, the rest 0, and (1, 1): r2 = 2, r4 = 4, and it is (1 + 2, 1 + 2 · 4)
unfoldable pub distortion : ThinPrismParams → Point → Point
distortion params point =
    let d = bc.distortion params.bc point in
    let r2 = squared_radius point.0 point.1 in
    let r4 = r2 ⊗ r2 in
    record {
      0 = d.0 ⊕ params.s1 ⊗ r2 ⊕ params.s2 ⊗ r4;
      1 = d.1 ⊕ params.s3 ⊗ r2 ⊕ params.s4 ⊗ r4;
    }

abbrev pub distort : ThinPrismParams → Point → Pixel
distort params point = affine.distort (affine_params params.bc) (distortion params point)

-- ---- the slopes

-- what the prism adds to bc's, on the z=1 plane. With s2 = 1, the rest 0, and (1, 0): ux = 2 · 2 = 4, as the
-- derivative of x⁴ at 1 is
unfoldable pub prism_slopes_at : ThinPrismParams → Point → PrismSlopes
prism_slopes_at params point =
    let r2 = squared_radius point.0 point.1 in
    let u = int 2 ⊗ (params.s1 ⊕ int 2 ⊗ params.s2 ⊗ r2) in
    let v = int 2 ⊗ (params.s3 ⊕ int 2 ⊗ params.s4 ⊗ r2) in
    record { ux = u ⊗ point.0; uy = u ⊗ point.1; vx = v ⊗ point.0; vy = v ⊗ point.1 }

abbrev pub dx_distort_x : ThinPrismParams → Point → Jacobian
dx_distort_x params point =
    let fx = params.bc.fx in
    let fy = params.bc.fy in
    let s = slopes_at params.bc point in
    let t = prism_slopes_at params point in
    two_rows
    ((s.c7 ⊗ fx ⊗ s.ux ⊕ t.ux ⊗ fx) ∷ (s.c7 ⊗ fx ⊗ s.uy ⊕ t.uy ⊗ fx) ∷ [])
    ((s.c7 ⊗ fy ⊗ s.vx ⊕ t.vx ⊗ fy) ∷ (s.c7 ⊗ fy ⊗ s.vy ⊕ t.vy ⊗ fy) ∷ [])

unfoldable pub dx_distort_params : ThinPrismParams → Point → Jacobian
dx_distort_params params point =
    two_rows (map (rounded (at params point)) u_params) (map (rounded (at params point)) v_params)

-- ---- undistort: bc's Newton, with the step of this lens

-- what the lens makes of xy, less the distorted point
abbrev pub f_xy : ThinPrismParams → Point → Point → Offset
f_xy params distorted xy = record {
  0 = (distortion params xy).0 ⊖ distorted.0;
  1 = (distortion params xy).1 ⊖ distorted.1;
}

unfoldable pub step_from : ThinPrismParams → Point → Point → Offset
step_from params distorted xy =
    let s = slopes_at params.bc xy in
    let t = prism_slopes_at params xy in
    solve
    (s.c7 ⊗ s.ux ⊕ t.ux) (s.c7 ⊗ s.uy ⊕ t.uy) (s.c7 ⊗ s.vx ⊕ t.vx) (s.c7 ⊗ s.vy ⊕ t.vy)
    (f_xy params distorted xy)

abbrev pub pass : ThinPrismParams → Point → Search → Search
pass params distorted = pass_by (step_from params distorted)

abbrev pub newton : ThinPrismParams → Point → Search
newton params distorted = passes (pass params distorted) ended limit (start distorted)

abbrev pub undistort : ThinPrismParams → Pixel → Settled
undistort params pixel =
    let distorted = (affine.undistort (affine_params params.bc) pixel).point in
    let at = newton params distorted in
    record { point = at.xy; updates = at.updates; flag = small (f_xy params distorted at.xy) }
