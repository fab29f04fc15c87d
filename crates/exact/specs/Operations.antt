-- An f64 operation held against the exact one: what it gives is the exact result, rounded once. Definitions only.
use Rattle.std.specs.Prelude.{◌≡◌, Bool, ℕ, ◌*◌, ◌^◌, ◌<◌, T, Float}
use Rattle.std.specs.Float.{binary64}
use Rattle.std.specs.Float.Ieee.{round}
use Rattle.std.specs.Float.Ieee.Scale.{finite}
use Rattle.exact.specs.Fraction.{Fraction, ◌≼◌, ◌≈◌, over, opposite, signed, exactly}

-- x is v rounded once: v is top / bottom with a sign, and x is what rounding makes of that fraction
pub record Rounds (x : Float) (v : Fraction) : Type 0 where
  pub negative : Bool
  pub top : ℕ
  pub bottom : ℕ
  pub some : 0 < bottom
  pub is : x ≡ round binary64 negative top bottom
  pub value : v ≈ signed negative (over top bottom)

-- ---- how far that goes

-- v is at most B in size
pub record Bounded (B v : Fraction) : Type 0 where
  pub not_above : v ≼ B
  pub not_below : opposite v ≼ B

-- 2^-53: half a unit in the last place of 1
abbrev pub half_place : Fraction
half_place = over 1 (2 ^ 53)

-- 2^-1022: below it f64s lie no closer
abbrev pub least_normal : Fraction
least_normal = over 1 (2 ^ 1022)

-- ---- a number that an f64 holds: up to 53 binary digits with zeros behind them, counted in 2^-1074, below 2^1024

pub record Held (v : Fraction) : Type 0 where
  pub negative : Bool
  pub digits : ℕ
  pub zeros : ℕ
  pub few : digits < 2 ^ 53
  pub small : digits * 2 ^ zeros < 2 ^ 2098
  pub is : v ≈ signed negative (over (digits * 2 ^ zeros) (2 ^ 1074))

-- x is exactly v
pub record Unchanged (x : Float) (v : Fraction) : Type 0 where
  pub number : T (finite x)
  pub is : exactly x ≈ v
