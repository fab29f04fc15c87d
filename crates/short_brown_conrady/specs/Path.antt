-- The numbers that turn up on the short path: all that its formulas work out on the way, by which the laws say that one
-- that isn't finite sends the point to the full engine. Definitions only.
use Rattle.std.specs.Prelude.{cond, List, [], ◌∷◌, ◌++◌, ℕ, zero, suc, Float, get_or}
use Rattle.std.specs.Float.{binary64}
use Rattle.std.specs.Float.Ieee.{sub}
use Rattle.formula.specs.Term.{Term, variable, numeral, minus, ◌⊕◌, ◌⊖◌, ◌⊗◌, ◌⊘◌, rounded}
use Rattle.lens.specs.Constants.{zeros}
use Rattle.lens.specs.declared.Pixel.{Pixel}
use Rattle.lens.specs.declared.Point.{Point}
use Rattle.brown_conrady.specs.BrownConrady.{limit}
use Rattle.brown_conrady.specs.Formula.{at}
use Rattle.brown_conrady.specs.declared.BrownConradyParams.{BrownConradyParams}
use Rattle.short_brown_conrady.specs.Polynomial.{xd0, yd0, u, v, ux, uy, vx, vy, u_point, v_point}
use Rattle.short_brown_conrady.specs.ShortBrownConrady.{slopes_at, f_xy, pass, start, ended, newton, distorted_of}
use Rattle.short_brown_conrady.specs.declared.Tracked.{Tracked}

-- a term's reading, and those of all its parts
unfoldable pub numbers : (ℕ → Float) → Term → List Float
numbers at (variable n) = at n ∷ []
numbers at (numeral n) = rounded at (numeral n) ∷ []
numbers at (minus a) = rounded at (minus a) ∷ numbers at a
numbers at (a ⊕ b) = rounded at (a ⊕ b) ∷ (numbers at a ++ numbers at b)
numbers at (a ⊖ b) = rounded at (a ⊖ b) ∷ (numbers at a ++ numbers at b)
numbers at (a ⊗ b) = rounded at (a ⊗ b) ∷ (numbers at a ++ numbers at b)
numbers at (a ⊘ b) = rounded at (a ⊘ b) ∷ (numbers at a ++ numbers at b)

unfoldable pub all_numbers : (ℕ → Float) → List Term → List Float
all_numbers at [] = []
all_numbers at (t ∷ ts) = numbers at t ++ all_numbers at ts

abbrev pub distort_numbers : BrownConradyParams → Point → List Float
distort_numbers params point = all_numbers (at params point) (u ∷ v ∷ [])

abbrev pub dx_distort_x_numbers : BrownConradyParams → Point → List Float
dx_distort_x_numbers params point = all_numbers (at params point) (u_point ++ v_point)

-- ---- a step, in terms of the four slopes, row by row, and of what the lens misses by

abbrev pub det : Term
det = variable 0 ⊗ variable 3 ⊖ variable 1 ⊗ variable 2

abbrev pub inverse : Term
inverse = numeral 1 ⊘ det

abbrev pub by_x : Term
by_x = variable 3 ⊗ inverse ⊗ variable 4 ⊕ minus (variable 1) ⊗ inverse ⊗ variable 5

abbrev pub by_y : Term
by_y = minus (variable 2) ⊗ inverse ⊗ variable 4 ⊕ variable 0 ⊗ inverse ⊗ variable 5

unfoldable pub step_at : BrownConradyParams → Point → Point → ℕ → Float
step_at params distorted xy n =
    let s = slopes_at params xy in
    let f = f_xy params distorted xy in
    get_or (s.ux ∷ s.uy ∷ s.vx ∷ s.vy ∷ f.0 ∷ f.1 ∷ []) n zeros

abbrev pub step_numbers : BrownConradyParams → Point → Point → List Float
step_numbers params distorted xy =
    all_numbers (at params xy) (xd0 ∷ yd0 ∷ ux ∷ uy ∷ vx ∷ vy ∷ [])
    ++ all_numbers (step_at params distorted xy) (by_x ∷ by_y ∷ [])

-- of all passes, from one on
unfoldable pub search_numbers : BrownConradyParams → Point → ℕ → Tracked → List Float
search_numbers params distorted zero at = []
search_numbers params distorted (suc left) at =
    let to = pass params distorted at in
    step_numbers params distorted at.search.xy ++ cond (ended to) [] (search_numbers params distorted left to)

-- of the search for a pixel: where it starts, its passes, and where it ends what the lens makes of that and misses by
abbrev pub undistort_numbers : BrownConradyParams → Pixel → List Float
undistort_numbers params pixel =
    let distorted = distorted_of params pixel in
    let xy = (newton params distorted).search.xy in
    let f = f_xy params distorted xy in
    (sub binary64 pixel.0 params.cx ∷ sub binary64 pixel.1 params.cy ∷ distorted.0 ∷ distorted.1
    ∷ f.0 ∷ f.1 ∷ [])
    ++ search_numbers params distorted limit (start distorted)
    ++ all_numbers (at params xy) (xd0 ∷ yd0 ∷ [])
