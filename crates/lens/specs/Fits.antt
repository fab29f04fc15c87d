-- Numbers that are f64s: those that 64 bits hold exactly. Definitions only.
use Rattle.std.specs.Prelude.{List, [], ◌∷◌, T, Float, Ok, Err}
use Rattle.std.specs.Float.{binary64}
use Rattle.std.specs.Float.Ieee.{fits}
use Rattle.lens.specs.Undistorted.{Undistorted}

abbrev pub Fit : Float → Type 0
Fit x = T (fits binary64 x)

-- each number of a list
abbrev pub AllFit : List Float → Type 0
AllFit [] = Unit {0}
AllFit (x ∷ xs) = Fit x × AllFit xs

-- a point that is found is of two f64s; of a refusal nothing is said
abbrev pub PointFits : Undistorted → Type 0
PointFits (Ok settled) = Fit settled.point.0 × Fit settled.point.1
PointFits (Err refusal) = Unit {0}
