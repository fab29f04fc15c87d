-- The four operations of kannala_brandt.rs by its local names: each product, sum, difference and quotient rounds once,
-- in the Rust's order; the derivatives leave out what changes no bit (AsWritten has the Rust's lines, and the law
-- `as_written` has both equal). `select` is `cond`. The arctangent and the tangent are named by who cites a definition:
-- `atan` and `tan` stand for any two functions. Numbers in comments are lines of that file. Definitions only.
use Rattle.std.specs.Prelude.{Bool, false, cond, ◌&&◌, [], ◌∷◌, ℕ, ◌+◌, Float, Option, Ok, Err, Some, None}
use Rattle.std.specs.Float.Ieee.{lt, le}
use Rattle.exact.specs.F64.{minus, magnitude, ◌⊕◌, ◌⊖◌, ◌⊗◌, ◌⊘◌}
use Rattle.root.specs.Root.{root}
use Rattle.lens.specs.Constants.{zeros, ones, eps, int}
use Rattle.lens.specs.Jacobian.{two_rows}
use Rattle.lens.specs.Passes.{passes}
use Rattle.lens.specs.Radius.{squared_radius}
use Rattle.lens.specs.Undistorted.{direct}
use Rattle.lens.specs.declared.Jacobian.{Jacobian}
use Rattle.lens.specs.declared.Pixel.{Pixel}
use Rattle.lens.specs.declared.Point.{Point}
use Rattle.lens.specs.declared.Refusal.TheVariants.{AngleTooLarge}
use Rattle.lens.specs.Undistorted.{Undistorted}
use Rattle.kannala_brandt.specs.declared.KannalaBrandtParams.{KannalaBrandtParams}
use Rattle.kannala_brandt.specs.declared.Reached.{Reached}
use Rattle.kannala_brandt.specs.declared.EvenPowers.{EvenPowers}
use Rattle.kannala_brandt.specs.declared.Terms.{Terms}

-- a camera by its numbers
abbrev pub camera : Float → Float → Float → Float → Float → Float → Float → Float → KannalaBrandtParams
camera fx fy cx cy k0 k1 k2 k3 = record { fx = fx; fy = fy; cx = cx; cy = cy; k0 = k0; k1 = k1; k2 = k2; k3 = k3 }

-- ---- the polynomial of the angle

-- 74 to 77; again 123 to 126, 198 to 204, 255 to 258
unfoldable pub powers : Float → EvenPowers
powers theta =
    let theta2 = theta ⊗ theta in
    let theta4 = theta2 ⊗ theta2 in
    record { theta2 = theta2; theta4 = theta4; theta6 = theta2 ⊗ theta4; theta8 = theta4 ⊗ theta4 }

-- 80, 128, 273
unfoldable pub polynomial : KannalaBrandtParams → EvenPowers → Float
polynomial params t =
    ones ⊕ params.k0 ⊗ t.theta2 ⊕ params.k1 ⊗ t.theta4 ⊕ params.k2 ⊗ t.theta6 ⊕ params.k3 ⊗ t.theta8

-- ---- distort

-- With k0 = 1.5, the rest 0, radius-sq 25, and an arctangent that is 1 at 5: r-distorted = 1 · (1 + 1.5 · 1) = 2.5, and
-- the scaling is 2.5 · (1/5) = 1/2
abbrev pub scaling_of : (Float → Float) → KannalaBrandtParams → Float → Float
scaling_of atan params radius-sq =
    -- 71 to 80
    let radius = root radius-sq in
    let radius-inverse = ones ⊘ radius in
    let theta = atan radius in
    let r-distorted = theta ⊗ polynomial params (powers theta) in
    -- 81 to 85
    cond (le radius-sq eps) ones (r-distorted ⊗ radius-inverse)

-- With 10 10 1 2 before them, and (3, 4): (1/2 · 3 · 10 + 1, 1/2 · 4 · 10 + 2) = (16, 22)
abbrev pub distort : (Float → Float) → KannalaBrandtParams → Point → Pixel
distort atan params point =
    -- 67 to 69, 87 to 90
    let scaling = scaling_of atan params (squared_radius point.0 point.1) in
    record { 0 = scaling ⊗ point.0 ⊗ params.fx ⊕ params.cx; 1 = scaling ⊗ point.1 ⊗ params.fy ⊕ params.cy }

-- ---- undistort: Newton

-- 129 to 133
unfoldable pub d_thd_wtr_th : KannalaBrandtParams → EvenPowers → Float
d_thd_wtr_th params t =
    ones
    ⊕ int 3 ⊗ params.k0 ⊗ t.theta2
    ⊕ int 5 ⊗ params.k1 ⊗ t.theta4
    ⊕ int 7 ⊗ params.k2 ⊗ t.theta6
    ⊕ int 9 ⊗ params.k3 ⊗ t.theta8

-- 128 and 135
unfoldable pub step_from : KannalaBrandtParams → Float → Float → Float
step_from params rth th =
    let thd = th ⊗ polynomial params (powers th) in
    (thd ⊖ rth) ⊘ d_thd_wtr_th params (powers th)

-- 149: the most updates
abbrev pub limit : ℕ
limit = 20

-- 135 to 147: a pass updates first and then tests its step
unfoldable pub pass : KannalaBrandtParams → Float → Reached → Reached
pass params rth at =
    let step = step_from params rth at.th in
    record { th = at.th ⊖ step; updates = at.updates + 1; ended = le (magnitude step) eps }

-- 119 and 121
abbrev pub start : Float → Reached
start rth = record { th = root rth; updates = 0; ended = false }

abbrev pub ended : Reached → Bool
ended at = at.ended

-- 122 to 153
unfoldable pub newton : KannalaBrandtParams → Float → Reached
newton params rth = passes (pass params rth) ended limit (start rth)

-- ---- undistort: the answer

-- 138 to 145: its last step passed its test, which is all that the Rust asks
abbrev pub flag_before : Reached → Bool
flag_before at = at.ended

-- it settled if the last step passed its test and the angle is above 0: below 0 lies the lens's mirrored branch
abbrev pub flag : Reached → Bool
flag at = flag_before at && lt zeros at.th

-- 157 to 159
abbrev pub sign_of : Float → Float
sign_of radius-undistorted = cond (le radius-undistorted zeros) (minus ones) ones

-- 155 to 167, from the tangent's result: past its limit there is no point. `settles` is the rule for the flag
abbrev pub outward_by : (Reached → Bool) → Option Float → Reached → Float → Float → Float → Undistorted
outward_by settles None at rth un vn = Err AngleTooLarge
outward_by settles (Some radius-undistorted) at rth un vn =
    let sign = sign_of radius-undistorted in
    Ok record {
      point = record { 0 = sign ⊗ radius-undistorted ⊗ un ⊘ rth; 1 = sign ⊗ radius-undistorted ⊗ vn ⊘ rth };
      updates = at.updates;
      flag = settles at;
    }

abbrev pub outward : Option Float → Reached → Float → Float → Float → Undistorted
outward = outward_by flag

-- 110 to 112
abbrev pub un_of : KannalaBrandtParams → Pixel → Float
un_of params pixel = (pixel.0 ⊖ params.cx) ⊘ params.fx

abbrev pub vn_of : KannalaBrandtParams → Pixel → Float
vn_of params pixel = (pixel.1 ⊖ params.cy) ⊘ params.fy

abbrev pub rth2 : KannalaBrandtParams → Pixel → Float
rth2 params pixel = squared_radius (un_of params pixel) (vn_of params pixel)

-- 114 to 119, 161. With 4 4 1 2, k0 = -2, the rest 0, and (2, 2): un = 1/4, vn = 0, rth = 1/4. Newton begins at 1/2,
-- which bends to 1/2 · (1 - 2 · 1/4) = 1/4: the step is 0, after 1 update. If the tangent of 1/2 is 3/4, the point is
-- (3/4, 0)
abbrev pub undistort_by : (Reached → Bool) → (Float → Option Float) → KannalaBrandtParams → Pixel → Undistorted
undistort_by settles tan params pixel =
    let un = un_of params pixel in
    let vn = vn_of params pixel in
    let rth = root (rth2 params pixel) in
    let at = newton params rth in
    cond (le (rth2 params pixel) eps)
    (Ok (direct record { 0 = un; 1 = vn }))
    (outward_by settles (tan at.th) at rth un vn)

abbrev pub undistort : (Float → Option Float) → KannalaBrandtParams → Pixel → Undistorted
undistort = undistort_by flag

-- with the flag of before request P2
abbrev pub undistort_before : (Float → Option Float) → KannalaBrandtParams → Pixel → Undistorted
undistort_before = undistort_by flag_before

-- ---- the derivatives. The Rust's c6, c8, c10 and c8 * c8 are the powers of c5.

-- 199 to 204: the polynomial's terms behind its 1
unfoldable pub terms_of : KannalaBrandtParams → EvenPowers → Terms
terms_of params t = record {
  c7 = t.theta2 ⊗ params.k0;
  c9 = t.theta4 ⊗ params.k1;
  c11 = t.theta6 ⊗ params.k2;
  c12 = t.theta8 ⊗ params.k3;
}

-- 205
unfoldable pub c13_of : Float → Float → Terms → Float
c13_of c4 c5 s = c4 ⊗ c5 ⊗ (s.c11 ⊕ s.c12 ⊕ s.c7 ⊕ s.c9 ⊕ ones)

-- 209 to 219
unfoldable pub c17_of : KannalaBrandtParams → EvenPowers → Terms → Float
c17_of params t s =
    let inner =
    int 4 ⊗ t.theta6 ⊗ params.k3 ⊕ int 2 ⊗ t.theta2 ⊗ params.k1 ⊕ int 3 ⊗ t.theta4 ⊗ params.k2 ⊕ params.k0 in
    s.c11 ⊕ s.c12 ⊕ int 2 ⊗ t.theta2 ⊗ inner ⊕ s.c7 ⊕ s.c9 ⊕ ones

-- 226 and 227: what stands in the brackets of the diagonal's entries
unfoldable pub diagonal : Float → Float → Float → Float → Float
diagonal c0 c14 c16 c18 = minus c0 ⊗ c16 ⊕ c0 ⊗ c18 ⊕ c14

-- from c2, its root, c4, c13 and c17 on
unfoldable pub off_axis : KannalaBrandtParams → Point → Float → Float → Float → Float → Float → Jacobian
off_axis params point c2 c2-sqrt c4 c13 c17 =
    let a = point.0 in
    let b = point.1 in
    -- 191, 192 and 195
    let c0 = a ⊗ a in
    let c1 = b ⊗ b in
    let c3 = c2-sqrt ⊗ c2-sqrt ⊗ c2-sqrt ⊗ c2-sqrt ⊗ c2-sqrt in
    -- 206 to 208
    let c14 = c13 ⊗ c3 in
    let c15 = c2-sqrt ⊗ c2-sqrt ⊗ c2-sqrt in
    let c16 = c13 ⊗ c15 in
    -- 220 to 228
    let c18 = c17 ⊗ c2 ⊗ c2 in
    let c19 = ones ⊘ c4 in
    let c20 = c19 ⊘ (c2 ⊗ c2 ⊗ c2) in
    let c21 = a ⊗ b ⊗ c19 ⊗ (minus c13 ⊗ c2 ⊕ c15 ⊗ c17) ⊘ c3 in
    two_rows
    (c20 ⊗ params.fx ⊗ diagonal c0 c14 c16 c18 ∷ c21 ⊗ params.fx ∷ [])
    (c21 ⊗ params.fy ∷ c20 ⊗ params.fy ⊗ diagonal c1 c14 c16 c18 ∷ [])

abbrev pub dx_distort_x : (Float → Float) → KannalaBrandtParams → Point → Jacobian
dx_distort_x atan params point =
    -- 185 and 193, 194, 196 and 197
    let c2 = squared_radius point.0 point.1 in
    let c2-sqrt = root c2 in
    let c4 = c2 ⊕ ones in
    let c5 = atan c2-sqrt in
    -- 198 to 219
    let t = powers c5 in
    let s = terms_of params t in
    let c13 = c13_of c4 c5 s in
    let c17 = c17_of params t s in
    -- 187 to 189 and 230
    cond (le c2 eps)
    (two_rows (params.fx ∷ zeros ∷ []) (zeros ∷ params.fy ∷ []))
    (off_axis params point c2 c2-sqrt c4 c13 c17)

-- 265 to 267
unfoldable pub alpha_of : Float → Float → Float → Float
alpha_of radius-sq radius theta = cond (le radius-sq eps) ones (theta ⊘ radius)

-- 275 to 316: columns fx, fy, cx, cy, k0, k1, k2, k3
unfoldable pub rows : KannalaBrandtParams → Float → Float → Float → EvenPowers → Jacobian
rows params alpha-x alpha-y scaling-by-theta t =
    let x = params.fx ⊗ alpha-x in
    let y = params.fy ⊗ alpha-y in
    let dx-dfx = alpha-x ⊗ scaling-by-theta in
    let dy-dfy = alpha-y ⊗ scaling-by-theta in
    two_rows
    (dx-dfx ∷ zeros ∷ ones ∷ zeros ∷ x ⊗ t.theta2 ∷ x ⊗ t.theta4 ∷ x ⊗ t.theta6 ∷ x ⊗ t.theta8 ∷ [])
    (zeros ∷ dy-dfy ∷ zeros ∷ ones ∷ y ⊗ t.theta2 ∷ y ⊗ t.theta4 ∷ y ⊗ t.theta6 ∷ y ⊗ t.theta8 ∷ [])

abbrev pub dx_distort_params : (Float → Float) → KannalaBrandtParams → Point → Jacobian
dx_distort_params atan params point =
    -- 250 to 254
    let radius-sq = squared_radius point.0 point.1 in
    let radius = root radius-sq in
    let theta = atan radius in
    -- 265 to 273
    let alpha = alpha_of radius-sq radius theta in
    rows params (point.0 ⊗ alpha) (point.1 ⊗ alpha) (polynomial params (powers theta)) (powers theta)
