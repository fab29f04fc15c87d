-- The squared radius, the Rust's r2: each square rounds, then their sum. Definitions only.
use Rattle.std.specs.Prelude.{Float}
use Rattle.exact.specs.F64.{◌⊕◌, ◌⊗◌}

abbrev pub squared_radius : Float → Float → Float
squared_radius x y = x ⊗ x ⊕ y ⊗ y
