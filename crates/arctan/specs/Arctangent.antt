-- The arctangent as the code works it out, so that its contract can name one answer. No other crate unfolds what stands
-- here: they know it by its laws (proofs/Laws.antt), above all that it lies near the series. Definitions only.
use Rattle.std.specs.Prelude.{ℕ, ◌+◌, ◌-◌, cond, T, pos, Float}
use Rattle.std.specs.Float.{nan, binary64}
use Rattle.std.specs.Float.Ieee.{neg, lt, le, eq, of_int, to_unsigned}
use Rattle.std.specs.Float.Ieee.Scale.{finite}
use Rattle.exact.specs.F64.{f64, ◌⊕◌, ◌⊖◌, ◌⊗◌, ◌⊘◌}
use Rattle.exact.specs.Fraction.{exactly, over, whole, ◌≼◌}
use Rattle.arctan.specs.Whole.{series, quarter, half}

-- 1, 2 ^ 60 and 2 ^ -60
abbrev pub one : Float
one = f64 0x3ff0_0000_0000_0000

abbrev pub scale : Float
scale = f64 0x43b0_0000_0000_0000

abbrev pub unit : Float
unit = f64 0x3c30_0000_0000_0000

-- where the pieces end: 2 ^ -20, the first f64 from 2/5 on, and 5/2
abbrev pub tiny : Float
tiny = f64 0x3eb0_0000_0000_0000

abbrev pub two_fifths : Float
two_fifths = f64 0x3fd9_9999_9999_999a

abbrev pub five_halves : Float
five_halves = f64 0x4004_0000_0000_0000

-- a number from 0 to 1/2, as the series takes it
pub record Countable (z : Float) : Type 0 where
  pub number : T (finite z)
  pub low : whole 0 ≼ exactly z
  pub high : exactly z ≼ over 1 2

-- z counted in 2 ^ -60, cut; and back, to the nearest f64
unfoldable pub counted : Float → ℕ
counted z = to_unsigned 64 (z ⊗ scale)

-- the series of z, in whole numbers
abbrev pub angle : Float → ℕ
angle z = series (counted z)

unfoldable pub back : ℕ → Float
back n = of_int binary64 (pos n) ⊗ unit

-- of an x that is not negative: below 2 ^ -20 x itself, and then the series' pieces, up to 2/5, 1, 5/2 and above
unfoldable pub forward : Float → Float
unfolding counted back series
forward x =
    cond (lt x tiny) x
    (cond (lt x two_fifths) (back (angle x))
    (cond (le x one) (back (quarter - angle ((one ⊖ x) ⊘ (one ⊕ x))))
    (cond (lt x five_halves) (back (quarter + angle ((x ⊖ one) ⊘ (x ⊕ one))))
    (back (half - angle (one ⊘ x))))))

unfoldable pub arctangent : Float → Float
unfolding forward
arctangent x = cond (lt x (f64 0)) (neg (forward (neg x))) (cond (eq x x) (forward x) nan)
