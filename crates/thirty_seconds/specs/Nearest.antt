-- What the nearest multiple of 1/32 is known by, in exact fractions. Definitions only.
use Rattle.std.specs.Prelude.{◌≡◌, ◌⊎◌, suc, ◌%◌, ℤ, pos, negsuc, nat_abs, ◌<ℤ◌, T, Float}
use Rattle.std.specs.Float.Ieee.Scale.{finite}
use Rattle.exact.specs.Fraction.{Fraction, Proper, over, opposite, Within, exactly}

-- n / 32
abbrev pub thirty_seconds : ℤ → Fraction
thirty_seconds (pos n) = over n 32
thirty_seconds (negsuc n) = opposite (over (suc n) 32)

-- n / 32 is the multiple of 1/32 that is nearest to x
pub record Nearest (x : Float) (n : ℤ) : Type 0 where
  -- x is a number, neither NaN nor an infinity
  pub number : T (finite x)
  -- at most 1/64 away
  pub near : Within (over 1 64) (thirty_seconds n) (exactly x)
  -- no other multiple is nearer: what another is within, this one is within
  pub nearest : (k : ℤ) (ε : Fraction) → Proper ε → Within ε (thirty_seconds k) (exactly x)
      → Within ε (thirty_seconds n) (exactly x)
  -- where another is at most 1/64 away too, n is even
  pub even : (k : ℤ) → (k ≡ n → ⊥) → Within (over 1 64) (thirty_seconds k) (exactly x) → nat_abs n % 2 ≡ 0

-- below -32,768 or above 32,767
abbrev pub Outside : ℤ → Type 0
Outside n = (n <ℤ negsuc 32767) ⊎ (pos 32767 <ℤ n)
