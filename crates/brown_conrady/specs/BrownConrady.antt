-- The operations of brown_conrady.rs by its local names: each product, sum, difference and quotient rounds once, in
-- the Rust's order. Numbers in comments are lines of that file; `past` is ours. Definitions only.
use Rattle.std.specs.Prelude.{Bool, true, false, cond, not, ◌&&◌, [], ◌∷◌, ℕ, ◌+◌, Float}
use Rattle.std.specs.Float.Ieee.{le, is_nan}
use Rattle.exact.specs.F64.{minus, ◌⊕◌, ◌⊖◌, ◌⊗◌, ◌⊘◌}
use Rattle.root.specs.Root.{root}
use Rattle.lens.specs.Constants.{ones, eps, int}
use Rattle.lens.specs.Jacobian.{two_rows}
use Rattle.lens.specs.Passes.{passes}
use Rattle.lens.specs.Radius.{squared_radius}
use Rattle.lens.specs.declared.Jacobian.{Jacobian}
use Rattle.lens.specs.declared.Pixel.{Pixel}
use Rattle.lens.specs.declared.Point.{Point}
use Rattle.lens.specs.declared.Settled.{Settled}
use Rattle.affine.specs.Affine as affine
use Rattle.affine.specs.declared.AffineParams.{AffineParams}
use Rattle.brown_conrady.specs.declared.BrownConradyParams.{BrownConradyParams}
use Rattle.brown_conrady.specs.declared.Search.{Search}
use Rattle.brown_conrady.specs.declared.Offset.{Offset}
use Rattle.brown_conrady.specs.declared.Shared.{Shared}
use Rattle.brown_conrady.specs.declared.Slopes.{Slopes}

-- a camera by its numbers
abbrev pub camera :
    Float → Float → Float → Float → Float → Float → Float → Float → Float → Float → Float → Float → BrownConradyParams
camera fx fy cx cy k1 k2 p1 p2 k3 k4 k5 k6 = record {
  fx = fx;
  fy = fy;
  cx = cx;
  cy = cy;
  k1 = k1;
  k2 = k2;
  p1 = p1;
  p2 = p2;
  k3 = k3;
  k4 = k4;
  k5 = k5;
  k6 = k6;
}

-- ---- distort

-- the first four parameters
abbrev pub affine_params : BrownConradyParams → AffineParams
affine_params params = record { fx = params.fx; fy = params.fy; cx = params.cx; cy = params.cy }

-- The Rust's distortion_impl; its d0 d1 d2 k3 d4 d5 d6 d7 are k1 k2 p1 p2 k3 k4 k5 k6.
-- With p1 = 1, the rest 0, and (1, 1): r2 = 2, a1 = 2, a3 = 2 + 2 = 4, cdist = icdist2 = 1, and it is (1 + 2, 1 + 4)
unfoldable pub distortion : BrownConradyParams → Point → Point
distortion params point =
    let x = point.0 in
    let y = point.1 in
    -- 84 to 89
    let r2 = squared_radius x y in
    let r4 = r2 ⊗ r2 in
    let r6 = r4 ⊗ r2 in
    let a1 = int 2 ⊗ x ⊗ y in
    let a2 = r2 ⊕ int 2 ⊗ x ⊗ x in
    let a3 = r2 ⊕ int 2 ⊗ y ⊗ y in
    -- 90 to 95
    let cdist = ones ⊕ params.k1 ⊗ r2 ⊕ params.k2 ⊗ r4 ⊕ params.k3 ⊗ r6 in
    let icdist2 = ones ⊘ (ones ⊕ params.k4 ⊗ r2 ⊕ params.k5 ⊗ r4 ⊕ params.k6 ⊗ r6) in
    let xd0 = x ⊗ cdist ⊗ icdist2 ⊕ params.p1 ⊗ a1 ⊕ params.p2 ⊗ a2 in
    let yd0 = y ⊗ cdist ⊗ icdist2 ⊕ params.p1 ⊗ a3 ⊕ params.p2 ⊗ a1 in
    record { 0 = xd0; 1 = yd0 }

-- 243 to 249
abbrev pub distort : BrownConradyParams → Point → Pixel
distort params point = affine.distort (affine_params params) (distortion params point)

-- ---- the slopes, by the names of the Rust's Newton. Its dx_distort_x has them a second time (AsWritten); the law
-- `second_copy` has the two equal.

-- In dx_distort_x c5 c6 c15 c16 c17 c20 are c7 c8 c14 c15 c16 c21.
-- With k1 = 1, the rest 0, and (1, 0): c2 = 1, c5 = 1, c17 = 2, c15 = 0, c16 = 2
unfoldable pub shared_at : BrownConradyParams → Point → Shared
shared_at params point =
    -- 154 to 158
    let c2 = squared_radius point.0 point.1 in
    let c3 = c2 ⊗ c2 in
    let c4 = c3 ⊗ c2 in
    let c5 = c2 ⊗ params.k4 ⊕ c3 ⊗ params.k5 ⊕ c4 ⊗ params.k6 ⊕ ones in
    -- 162 to 173; 164 to 166 are in c17, which 169 has a second time
    let c10 = int 2 ⊗ c2 in
    let c11 = int 3 ⊗ c3 in
    let c17 = c2 ⊗ params.k1 ⊕ c3 ⊗ params.k2 ⊕ c4 ⊗ params.k3 ⊕ ones in
    let c15 = int 2 ⊗ (c10 ⊗ params.k5 ⊕ c11 ⊗ params.k6 ⊕ params.k4) ⊗ c17 in
    let c16 = int 2 ⊗ c10 ⊗ params.k2 ⊕ int 2 ⊗ c11 ⊗ params.k3 ⊕ int 2 ⊗ params.k1 in
    -- 175 and 176
    let c19 = point.0 ⊗ point.1 in
    let c20 = minus c15 ⊗ c19 ⊕ c16 ⊗ c19 ⊗ c5 in
    record { c5 = c5; c6 = c5 ⊗ c5; c15 = c15; c16 = c16; c17 = c17; c20 = c20 }

-- du_dx, du_dy, dv_dx and dv_dy, each before c7 (there c17) multiplies it. In the example ux = 1 · (1 · 2 + 2) = 4, as
-- the derivative of x + x³ at 1 is
unfoldable pub slopes_at : BrownConradyParams → Point → Slopes
slopes_at params point =
    let a = point.0 in
    let b = point.1 in
    let s = shared_at params point in
    -- 152 and 153
    let c0 = a ⊗ a in
    let c1 = b ⊗ b in
    -- 160, 161 and 174
    let c8 = a ⊗ params.p2 in
    let c9 = int 2 ⊗ params.p1 in
    let c18 = b ⊗ params.p2 in
    -- 159 and 177 to 184
    record {
      c7 = ones ⊘ s.c6;
      ux = minus c0 ⊗ s.c15 ⊕ s.c5 ⊗ (c0 ⊗ s.c16 ⊕ s.c17) ⊕ s.c6 ⊗ (b ⊗ c9 ⊕ int 6 ⊗ c8);
      uy = s.c20 ⊕ s.c6 ⊗ (a ⊗ c9 ⊕ int 2 ⊗ c18);
      vx = s.c20 ⊕ s.c6 ⊗ (int 2 ⊗ a ⊗ params.p1 ⊕ int 2 ⊗ c18);
      vy = minus c1 ⊗ s.c15 ⊕ s.c5 ⊗ (c1 ⊗ s.c16 ⊕ s.c17) ⊕ s.c6 ⊗ (int 6 ⊗ b ⊗ params.p1 ⊕ int 2 ⊗ c8);
    }

abbrev pub dx_distort_x : BrownConradyParams → Point → Jacobian
dx_distort_x params point =
    let s = slopes_at params point in
    -- 318, 322 and 324 to 332
    let c18 = s.c7 ⊗ params.fx in
    let c22 = s.c7 ⊗ params.fy in
    two_rows
    (c18 ⊗ s.ux ∷ c18 ⊗ s.uy ∷ [])
    (c22 ⊗ s.vx ∷ c22 ⊗ s.vy ∷ [])

-- ---- undistort

-- 140: what the lens makes of xy, less the distorted point
abbrev pub f_xy : BrownConradyParams → Point → Point → Offset
f_xy params distorted xy = record {
  0 = (distortion params xy).0 ⊖ distorted.0;
  1 = (distortion params xy).1 ⊖ distorted.1;
}

-- 205 to 209, 219 to 223: the norm is at most EPS
abbrev pub small : Offset → Bool
small offset = le (root (squared_radius offset.0 offset.1)) eps

-- it is past EPS: no NaN, and not small. Here a step that isn't small is taken, NaN or not; the short engine asks this
abbrev pub past : Offset → Bool
past offset = not (is_nan (squared_radius offset.0 offset.1)) && not (small offset)

-- 200 to 203: the inverse of the matrix a b above c d, which is d -b above -c a with each entry scaled by z; then its
-- rows times f
abbrev pub solve : Float → Float → Float → Float → Offset → Offset
solve a b c d f =
    let z = ones ⊘ (a ⊗ d ⊖ b ⊗ c) in
    record {
      0 = d ⊗ z ⊗ f.0 ⊕ minus b ⊗ z ⊗ f.1;
      1 = minus c ⊗ z ⊗ f.0 ⊕ a ⊗ z ⊗ f.1;
    }

unfoldable pub step_from : BrownConradyParams → Point → Point → Offset
step_from params distorted xy =
    let s = slopes_at params xy in
    solve (s.c7 ⊗ s.ux) (s.c7 ⊗ s.uy) (s.c7 ⊗ s.vx) (s.c7 ⊗ s.vy) (f_xy params distorted xy)

-- 137 to 215: one pass of a Newton whose step at a point is `step_at`; a small step ends it and is not taken
unfoldable pub pass_by : (Point → Offset) → Search → Search
pass_by step_at at =
    let xy = at.xy in
    let step = step_at xy in
    cond (small step)
    (record { xy = xy; updates = at.updates; ended = true })
    (record { xy = record { 0 = xy.0 ⊖ step.0; 1 = xy.1 ⊖ step.1 }; updates = at.updates + 1; ended = false })

abbrev pub pass : BrownConradyParams → Point → Search → Search
pass params distorted = pass_by (step_from params distorted)

-- 136: how many updates there may be
abbrev pub limit : ℕ
limit = 50

-- 125
abbrev pub start : Point → Search
start distorted = record { xy = distorted; updates = 0; ended = false }

abbrev pub ended : Search → Bool
ended at = at.ended

abbrev pub newton : BrownConradyParams → Point → Search
newton params distorted = passes (pass params distorted) ended limit (start distorted)

-- 218 to 226: whether the lens sends xy to the distorted point, but for EPS; if so, the Rust does not warn
abbrev pub flag : BrownConradyParams → Point → Point → Bool
flag params distorted xy = small (f_xy params distorted xy)

-- 259 to 269
abbrev pub undistort : BrownConradyParams → Pixel → Settled
undistort params pixel =
    let distorted = (affine.undistort (affine_params params) pixel).point in
    let at = newton params distorted in
    record { point = at.xy; updates = at.updates; flag = flag params distorted at.xy }
