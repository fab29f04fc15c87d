-- The words of an f64 formula. An operator in a circle is the f64 operation of IEEE 754: the exact result, rounded
-- once, a tie to the even neighbour. What a `Float` is, and what each operation does with NaN, infinities and zeros, is
-- the library's account (lib.Ieee). Definitions only.
use Rattle.std.specs.Prelude.{Bool, true, false, ℕ, zero, suc, Float}
use Rattle.std.specs.Float.{nan, inf, fin, binary64}
use Rattle.std.specs.Float.Ieee.{add, sub, mul, div, neg, of_bits}

infixl 60 ◌⊕◌ ◌⊖◌
infixl 70 ◌⊗◌ ◌⊘◌
abbrev pub ◌⊕◌ : Float → Float → Float
x ⊕ y = add binary64 x y

abbrev pub ◌⊖◌ : Float → Float → Float
x ⊖ y = sub binary64 x y

abbrev pub ◌⊗◌ : Float → Float → Float
x ⊗ y = mul binary64 x y

abbrev pub ◌⊘◌ : Float → Float → Float
x ⊘ y = div binary64 x y

-- the sign turned, of a zero too
abbrev pub minus : Float → Float
minus x = neg x

-- an f64 by its bit pattern: `f64 0x3ff8_0000_0000_0000` is 1.5
abbrev pub f64 : ℕ → Float
f64 bits = of_bits binary64 bits

-- 0.0 for yes, NaN for no: the sum of some is 0.0 if all of them are
unfoldable pub mark : Bool → Float
mark true = f64 0
mark false = nan

-- without its sign
unfoldable pub magnitude : Float → Float
magnitude nan = nan
magnitude (inf s) = inf false
magnitude (fin s m e) = fin false m e

-- zero of either sign
unfoldable pub is_zero : Float → Bool
is_zero nan = false
is_zero (inf s) = false
is_zero (fin s zero e) = true
is_zero (fin s (suc m) e) = false
