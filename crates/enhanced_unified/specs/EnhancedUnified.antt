-- The four operations of enhanced_unified.rs by its local names: each product, sum, difference and quotient rounds
-- once, in the Rust's order. Numbers in comments are lines of that file. Definitions only.
use Rattle.std.specs.Prelude.{Bool, cond, [], ◌∷◌, Float, Ok, Err}
use Rattle.std.specs.Float.Ieee.{le}
use Rattle.exact.specs.F64.{minus, ◌⊕◌, ◌⊖◌, ◌⊗◌, ◌⊘◌}
use Rattle.root.specs.Root.{root}
use Rattle.lens.specs.Constants.{zeros, ones, int}
use Rattle.lens.specs.Jacobian.{two_rows}
use Rattle.lens.specs.Radius.{squared_radius}
use Rattle.lens.specs.Undistorted.{direct}
use Rattle.lens.specs.declared.Jacobian.{Jacobian}
use Rattle.lens.specs.declared.Pixel.{Pixel}
use Rattle.lens.specs.declared.Point.{Point}
use Rattle.lens.specs.declared.Refusal.TheVariants.{RayNotForward}
use Rattle.lens.specs.declared.Settled.{Settled}
use Rattle.lens.specs.Undistorted.{Undistorted}
use Rattle.enhanced_unified.specs.declared.EnhancedUnifiedParams.{EnhancedUnifiedParams}

-- a camera by its numbers
abbrev pub camera : Float → Float → Float → Float → Float → Float → EnhancedUnifiedParams
camera fx fy cx cy alpha beta = record { fx = fx; fy = fy; cx = cx; cy = cy; alpha = alpha; beta = beta }

-- ---- what distort and both derivatives begin with

-- 80 and 81; again 169 and 170, 210 and 211
abbrev pub rho_of : Float → Float → Float
rho_of beta r2 = root (beta ⊗ r2 ⊕ ones)

-- 83; again 172, 213
abbrev pub norm_of : Float → Float → Float
norm_of alpha rho = alpha ⊗ rho ⊕ (ones ⊖ alpha)

-- ---- distort

-- With 1 1 0 0 0.5 1 and (2, 2): r2 = 8, rho = root 9 = 3, norm = 0.5 · 3 + 0.5 = 2, and the pixel is (1, 1)
abbrev pub distort : EnhancedUnifiedParams → Point → Pixel
distort params point =
    -- 79 to 83
    let r2 = squared_radius point.0 point.1 in
    let norm = norm_of params.alpha (rho_of params.beta r2) in
    -- 85 to 88
    let mx = point.0 ⊘ norm in
    let my = point.1 ⊘ norm in
    record { 0 = params.fx ⊗ mx ⊕ params.cx; 1 = params.fy ⊗ my ⊕ params.cy }

-- ---- undistort

-- 109 to 114: the z of the observed ray
abbrev pub k_of : Float → Float → Float → Float
k_of alpha beta r2 =
    let gamma = ones ⊖ alpha in
    let nominator = ones ⊖ alpha ⊗ alpha ⊗ beta ⊗ r2 in
    let denominator = alpha ⊗ root (ones ⊖ (alpha ⊖ gamma) ⊗ beta ⊗ r2) ⊕ gamma in
    nominator ⊘ denominator

-- 105 and 106: a pixel's offsets from the centre, over the focal lengths
abbrev pub mx_of : EnhancedUnifiedParams → Pixel → Float
mx_of params pixel = (pixel.0 ⊖ params.cx) ⊘ params.fx

abbrev pub my_of : EnhancedUnifiedParams → Pixel → Float
my_of params pixel = (pixel.1 ⊖ params.cy) ⊘ params.fy

-- 108 to 114: the z of a pixel's ray
abbrev pub ray_z : EnhancedUnifiedParams → Pixel → Float
ray_z params pixel =
    k_of params.alpha params.beta (squared_radius (mx_of params pixel) (my_of params pixel))

-- 105 to 116, whatever the z: as the Rust has it, and as undistort was before request P6
abbrev pub undistort_before : EnhancedUnifiedParams → Pixel → Settled
undistort_before params pixel =
    let k = ray_z params pixel in
    direct record { 0 = mx_of params pixel ⊘ k; 1 = my_of params pixel ⊘ k }

-- a z of zero, be it -0, whose ray meets the plane z = 1 nowhere, or a negative one, whose ray meets it behind the
-- camera and on the wrong side of the centre. A NaN isn't ≤ 0
abbrev pub not_forward : Float → Bool
not_forward k = le k zeros

-- With 1 1 0 0 0.5 1 and (2, 2): r2 = 8, and k = (1 - 0.25 · 8) / 1 = -1
abbrev pub undistort : EnhancedUnifiedParams → Pixel → Undistorted
undistort params pixel =
    cond (not_forward (ray_z params pixel)) (Err RayNotForward) (Ok (undistort_before params pixel))

-- ---- the derivatives

-- 175, 178 and 181 for x, 176, 179 and 182 for y: of norm by a coordinate x
abbrev pub dnorm_of : Float → Float → Float → Float → Float
dnorm_of alpha beta rho x = alpha ⊗ (int 2 ⊗ beta ⊗ x ⊘ (int 2 ⊗ rho))

-- 185 and 187, 225 to 229: of x / norm, where norm moves by dnorm and x stays
abbrev pub turned : Float → Float → Float → Float
turned x norm dnorm = minus x ⊗ dnorm ⊘ (norm ⊗ norm)

abbrev pub dx_distort_x : EnhancedUnifiedParams → Point → Jacobian
dx_distort_x params point =
    let x = point.0 in
    let y = point.1 in
    -- 168 to 172
    let rho = rho_of params.beta (squared_radius x y) in
    let norm = norm_of params.alpha rho in
    -- 175 to 182
    let dnorm-dx = dnorm_of params.alpha params.beta rho x in
    let dnorm-dy = dnorm_of params.alpha params.beta rho y in
    -- 184 to 190
    let dmx-dx = (norm ⊖ x ⊗ dnorm-dx) ⊘ (norm ⊗ norm) in
    let dmx-dy = turned x norm dnorm-dy in
    let dmy-dx = turned y norm dnorm-dx in
    let dmy-dy = (norm ⊖ y ⊗ dnorm-dy) ⊘ (norm ⊗ norm) in
    two_rows
    (params.fx ⊗ dmx-dx ∷ params.fx ⊗ dmx-dy ∷ [])
    (params.fy ⊗ dmy-dx ∷ params.fy ⊗ dmy-dy ∷ [])

-- columns fx, fy, cx, cy, alpha, beta
abbrev pub dx_distort_params : EnhancedUnifiedParams → Point → Jacobian
dx_distort_params params point =
    let x = point.0 in
    let y = point.1 in
    -- 209 to 213
    let r2 = squared_radius x y in
    let rho = rho_of params.beta r2 in
    let norm = norm_of params.alpha rho in
    -- 216 to 220
    let dnorm-dalpha = rho ⊖ ones in
    let dnorm-dbeta = params.alpha ⊗ (r2 ⊘ (int 2 ⊗ rho)) in
    -- 222 to 248
    let ua = params.fx ⊗ turned x norm dnorm-dalpha in
    let ub = params.fx ⊗ turned x norm dnorm-dbeta in
    let va = params.fy ⊗ turned y norm dnorm-dalpha in
    let vb = params.fy ⊗ turned y norm dnorm-dbeta in
    two_rows
    (x ⊘ norm ∷ zeros ∷ ones ∷ zeros ∷ ua ∷ ub ∷ [])
    (zeros ∷ y ⊘ norm ∷ zeros ∷ ones ∷ va ∷ vb ∷ [])
