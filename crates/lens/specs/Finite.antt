-- Whether every number of a list is finite. Definitions only.
use Rattle.std.specs.Prelude.{Bool, true, ◌&&◌, List, [], ◌∷◌, Float}
use Rattle.std.specs.Float.Ieee.Scale.{finite}

unfoldable pub all-finite : List Float → Bool
all-finite [] = true
all-finite (x ∷ rest) = finite x && all-finite rest
