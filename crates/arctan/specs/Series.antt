-- The published series that arctangent and tangent are held to, as exact fractions. Nothing here knows how either is
-- worked out. Definitions only.
use Rattle.std.specs.Prelude.{◌≡◌, ℕ, zero, suc, ◌+◌, ◌*◌, ◌^◌, Bool, false, cond, not, T, nat_le, Float}
use Rattle.std.specs.Float.{nan, inf, fin}
use Rattle.std.specs.Float.Ieee.{up, down}
use Rattle.std.specs.Float.Ieee.Scale.{finite}
use Rattle.exact.specs.Fraction.{Fraction, Within, cross, over, whole, signed, power, exactly, ◌⊞◌, ◌⊟◌, ◌⊠◌, ◌⧄◌}

-- ---- G(x): the first 24 terms of x - x^3/3 + x^5/5 - ..

abbrev pub terms : ℕ
terms = 24

-- whether the k-th term, counted from 0, is taken off
abbrev pub alternates : ℕ → Bool
alternates zero = false
alternates (suc k) = not (alternates k)

-- x^(2k+1) / (2k+1), added or taken off in turn
unfoldable pub term : ℕ → Fraction → Fraction
term k x = signed (alternates k) (power x (2 * k + 1) ⧄ whole (2 * k + 1))

-- the sum of the first n terms
unfoldable pub sum : ℕ → Fraction → Fraction
sum zero x = whole 0
sum (suc n) x = sum n x ⊞ term n x

unfoldable pub G : Fraction → Fraction
G x = sum terms x

-- ---- P stands for a quarter of pi
unfoldable pub P : Fraction
P = whole 4 ⊠ G (over 1 5) ⊟ G (over 1 239)

-- ---- A(x), for an x that is not negative

-- the test for a ≼ b
abbrev pub at_most : Fraction → Fraction → Bool
at_most a b = nat_le (cross a b) (cross b a)

-- up to 1: G(x) up to 2/5, and from there on P - G((1-x)/(1+x))
unfoldable pub up_to_one : Fraction → Fraction
up_to_one x = cond (at_most x (over 2 5)) (G x) (P ⊟ G ((whole 1 ⊟ x) ⧄ (whole 1 ⊞ x)))

-- above 1: 2P - A(1/x)
unfoldable pub A : Fraction → Fraction
A x = cond (at_most x (whole 1)) (up_to_one x) (P ⊞ P ⊟ up_to_one (whole 1 ⧄ x))

-- ---- the bounds, and the tangent's limit
abbrev pub arctangent_bound : Fraction
arctangent_bound = over 1 (2 ^ 46)

abbrev pub tangent_bound : Fraction
tangent_bound = over 1 (2 ^ 44)

abbrev pub limit : Fraction
limit = over 99 64

-- ---- what the arctangent r of x owes

-- r is a number, and lies within ε of the angle a with the sign s
pub record AngleBy (ε : Fraction) (s : Bool) (a : Fraction) (r : Float) : Type 0 where
  pub number : T (finite r)
  pub within : Within ε (exactly r) (signed s a)

-- of a NaN it is NaN; of an infinity within ε of 2P, and of a number within ε of A, with the sign of x
abbrev pub ArctangentBy : Fraction → Float → Float → Type 0
ArctangentBy ε nan r = r ≡ nan
ArctangentBy ε (inf s) r = AngleBy ε s (P ⊞ P) r
ArctangentBy ε (fin s m e) r = AngleBy ε s (A (over (m * up e) (down e))) r

-- by the bound
abbrev pub Angle : Bool → Fraction → Float → Type 0
Angle = AngleBy arctangent_bound

abbrev pub Arctangent : Float → Float → Type 0
Arctangent = ArctangentBy arctangent_bound
