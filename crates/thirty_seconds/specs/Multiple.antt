-- The number of the multiple of 1/32 that is nearest to a float, as sixteen bits hold it. Definitions only.
use Rattle.std.specs.Prelude.{Bool, true, false, cond, ℕ, ◌*◌, ℤ, pos, neg_ℤ, leb, Float, Option, Some, None}
use Rattle.std.specs.Float.{nan, inf, fin}
use Rattle.std.specs.Float.Ieee.{up, down}
use Rattle.std.specs.Float.Ieee.Nearest.{closest}

-- n, or -n where the sign is negative, if it is one of -32,768 to 32,767
unfoldable pub held : Bool → ℕ → Option ℤ
held false n = cond (leb n 32767) (Some (pos n)) None
held true n = cond (leb n 32768) (Some (neg_ℤ (pos n))) None

-- The number m * 2 ^ e is the fraction m * up e / down e, and the library's `closest` turns 32 of it to the nearest
-- whole number, a tie to the even one.
unfoldable pub nearest_multiple : Float → Option ℤ
nearest_multiple nan = None
nearest_multiple (inf s) = None
nearest_multiple (fin s m e) = held s (closest (32 * (m * up e)) (down e))
