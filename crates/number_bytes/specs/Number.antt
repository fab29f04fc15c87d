-- The tangent over bytes: theta and the buffer lent, and the number and the buffer handed back. Definitions only.
use Rattle.std.specs.Prelude.{List, [], ◌∷◌, ℕ, Float, Option, Some, None}
use Rattle.arctan.specs.Owed.{slope_number}
use Rattle.arctan.specs.Tangent.{tangent}
use Rattle.given.specs.Given.{Given, answered}
use Rattle.lens.specs.Constants.{zeros}
use Rattle.little_endian.specs.Bytes.{floats}

-- beside the number, which is 10 for an angle that is too large
abbrev pub slope_value : Option Float → Float
slope_value (Some t) = t
slope_value None = zeros

abbrev pub give_slope : ℕ → Float → List ℕ → Given
give_slope number slope lent = answered 8 number (floats (slope ∷ [])) lent

unfoldable pub tangent_bytes : Float → List ℕ → Given
tangent_bytes theta lent = give_slope (slope_number (tangent theta)) (slope_value (tangent theta)) lent
