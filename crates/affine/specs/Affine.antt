-- The four operations of affine.rs: each product, sum, difference and quotient rounds once, in the Rust's order.
-- Numbers in comments are lines of that file. Definitions only.
use Rattle.std.specs.Prelude.{[], ◌∷◌, Float}
use Rattle.exact.specs.F64.{◌⊕◌, ◌⊖◌, ◌⊗◌, ◌⊘◌}
use Rattle.lens.specs.Constants.{zeros, ones}
use Rattle.lens.specs.Jacobian.{two_rows}
use Rattle.lens.specs.Undistorted.{direct}
use Rattle.lens.specs.declared.Jacobian.{Jacobian}
use Rattle.lens.specs.declared.Pixel.{Pixel}
use Rattle.lens.specs.declared.Point.{Point}
use Rattle.lens.specs.declared.Settled.{Settled}
use Rattle.affine.specs.declared.AffineParams.{AffineParams}

-- a camera by its numbers
abbrev pub camera : Float → Float → Float → Float → AffineParams
camera fx fy cx cy = record { fx = fx; fy = fy; cx = cx; cy = cy }

-- 57 to 60. The camera 600 600 1 0.5 sends (0.5, -0.25) to (0.5 · 600 + 1, -0.25 · 600 + 0.5) = (301, -149.5)
abbrev pub distort : AffineParams → Point → Pixel
distort params point = record {
  0 = point.0 ⊗ params.fx ⊕ params.cx;
  1 = point.1 ⊗ params.fy ⊕ params.cy;
}

-- 71 to 74
abbrev pub undistort : AffineParams → Pixel → Settled
undistort params pixel = direct record {
  0 = (pixel.0 ⊖ params.cx) ⊘ params.fx;
  1 = (pixel.1 ⊖ params.cy) ⊘ params.fy;
}

-- 84
abbrev pub dx_distort_x : AffineParams → Point → Jacobian
dx_distort_x params point =
    two_rows
    (params.fx ∷ zeros ∷ [])
    (zeros ∷ params.fy ∷ [])

-- 94 to 107: columns fx, fy, cx, cy
abbrev pub dx_distort_params : AffineParams → Point → Jacobian
dx_distort_params params point =
    two_rows
    (point.0 ∷ zeros ∷ ones ∷ zeros ∷ [])
    (zeros ∷ point.1 ∷ zeros ∷ ones ∷ [])
