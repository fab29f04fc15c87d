-- Two f64s that are one number, the sign of a zero aside. Definitions only.
use Rattle.std.specs.Prelude.{◌≡◌, true, List, [], ◌∷◌, Float}
use Rattle.exact.specs.F64.{is_zero}

infix 50 ◌≐◌
-- equal, NaN to NaN too, or both zeros
pub data ◌≐◌ (x y : Float) : Type 0 where
  same : x ≡ y → x ≐ y
  both_zero : is_zero x ≡ true → is_zero y ≡ true → x ≐ y

-- two lists of one length, number by number
abbrev pub AllAlike : List Float → List Float → Type 0
AllAlike [] [] = Unit {0}
AllAlike [] (y ∷ ys) = ⊥
AllAlike (x ∷ xs) [] = ⊥
AllAlike (x ∷ xs) (y ∷ ys) = (x ≐ y) × AllAlike xs ys
