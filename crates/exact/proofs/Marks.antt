-- Marks: x less itself is 0.0 where x is finite and NaN elsewhere, and a sum of such is 0.0 if all are. Assumes nothing.
use mathlib.Core.Path.{◌≡◌, refl}
use mathlib.Core.Bool.{Bool, true, false, ◌&&◌}
use lib.Ieee.{Float, nan, inf, fin, sub, neg, add, eq, of_bits}
use lib.Ieee.Scale.{finite}
use Rattle.exact.specs.F64.{◌⊕◌, ◌⊖◌, mark}
use Rattle.exact.proofs.Zeros.{self_less}

-- What is left of a number less itself.
pub self_marks : (x : Float) → x ⊖ x ≡ mark (finite x)
unfolding mark sub neg add
self_marks nan = refl
self_marks (inf true) = refl
self_marks (inf false) = refl
self_marks (fin s m e) = self_less (fin s m e) tt

-- Two marks added are the mark of both.
pub marks_add : (a b : Bool) → mark a ⊕ mark b ≡ mark (a && b)
unfolding mark add of_bits
marks_add true true = refl
marks_add true false = refl
marks_add false b = refl

-- A mark equals itself if it says yes.
pub mark_itself : (b : Bool) → eq (mark b) (mark b) ≡ b
unfolding mark eq of_bits
mark_itself true = refl
mark_itself false = refl
