-- Fractions of whole numbers, exactly: what a bound on a rounded number is stated in. An operator in a box is the exact
-- operation, and rounds nothing. Definitions only.
use Rattle.std.specs.Prelude.{◌≡◌, Bool, true, false, ℕ, zero, suc, ◌+◌, ◌-◌, ◌*◌, ◌^◌, ◌≤◌, ◌<◌, Float}
use Rattle.std.specs.Float.{nan, inf, fin, Format}
use Rattle.std.specs.Float.Ieee.{low, up, down}

infixl 60 ◌⊞◌ ◌⊟◌
infixl 70 ◌⊠◌ ◌⧄◌
infix 50 ◌≼◌ ◌≺◌ ◌≈◌
-- The number (plus - minus) / under. Many a record is the same number: 1 / 2 and 2 / 4.
pub record Fraction : Type 0 where
  pub plus : ℕ
  pub minus : ℕ
  pub under : ℕ

-- it is a number: nothing is divided by zero
pub record Proper (a : Fraction) : Type 0 where
  pub above : 0 < a.under

-- ---- order and sameness, multiplied out: a - b is (cross a b - cross b a) / (a.under * b.under)

abbrev pub cross : Fraction → Fraction → ℕ
cross a b = a.plus * b.under + b.minus * a.under

pub record ◌≼◌ (a b : Fraction) : Type 0 where
  pub holds : cross a b ≤ cross b a

pub record ◌≺◌ (a b : Fraction) : Type 0 where
  pub holds : cross a b < cross b a

pub record ◌≈◌ (a b : Fraction) : Type 0 where
  pub holds : cross a b ≡ cross b a

-- ---- arithmetic

-- a / b
unfoldable pub over : ℕ → ℕ → Fraction
over a b = record { plus = a; minus = 0; under = b }

abbrev pub whole : ℕ → Fraction
whole n = over n 1

unfoldable pub ◌⊞◌ : Fraction → Fraction → Fraction
a ⊞ b = record {
  plus = a.plus * b.under + b.plus * a.under;
  minus = a.minus * b.under + b.minus * a.under;
  under = a.under * b.under;
}

unfoldable pub opposite : Fraction → Fraction
opposite a = record { plus = a.minus; minus = a.plus; under = a.under }

abbrev pub ◌⊟◌ : Fraction → Fraction → Fraction
a ⊟ b = a ⊞ opposite b

unfoldable pub ◌⊠◌ : Fraction → Fraction → Fraction
a ⊠ b = record {
  plus = a.plus * b.plus + a.minus * b.minus;
  minus = a.plus * b.minus + a.minus * b.plus;
  under = a.under * b.under;
}

-- the quotient, asked only for a b above zero
unfoldable pub ◌⧄◌ : Fraction → Fraction → Fraction
a ⧄ b = record {
  plus = a.plus * b.under;
  minus = a.minus * b.under;
  under = a.under * (b.plus - b.minus);
}

unfoldable pub power : Fraction → ℕ → Fraction
power a zero = whole 1
power a (suc n) = power a n ⊠ a

-- the opposite where the sign is negative
abbrev pub signed : Bool → Fraction → Fraction
signed false a = a
signed true a = opposite a

-- ---- nearness: a and b are numbers, at most ε apart

pub record Within (ε a b : Fraction) : Type 0 where
  pub left : Proper a
  pub right : Proper b
  pub not_above : a ⊟ b ≼ ε
  pub not_below : b ⊟ a ≼ ε

-- ---- floats

-- the number that a finite float is; a NaN and an infinity are no numbers, and are never asked for one
unfoldable pub exactly : Float → Fraction
exactly nan = whole 0
exactly (inf s) = whole 0
exactly (fin s m e) = signed s (over (m * up e) (down e))

-- half of 2 ^ last units, a unit being the format's smallest value 2 ^ -low
unfoldable pub half_units : Format → ℕ → Fraction
half_units f last = over (2 ^ last) (2 * 2 ^ low f)
