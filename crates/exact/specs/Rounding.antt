-- How far a rounding goes, over whole numbers. Definitions only.
use Rattle.std.specs.Prelude.{◌≡◌, ◌⊎◌, Bool, ℕ, suc, ◌+◌, ◌-◌, ◌*◌, ◌^◌, ◌≤◌, ◌<◌}
use Rattle.std.specs.Float.{inf, Format}
use Rattle.std.specs.Float.Ieee.{prec, emax, low, round}
use Rattle.std.specs.Float.Ieee.Exact.{HasValue}
use Rattle.std.specs.Float.Ieee.Scale.{overflow}

-- The fraction a / c, rounded to the format f with the sign s. Sizes are counted in units, a unit being the format's
-- smallest value 2 ^ -low, so the fraction is a * 2 ^ low f / c units. It is rounded to `steps` units, and the unit in
-- the last place is 2 ^ last units.
pub record Rounded (f : Format) (s : Bool) (a c : ℕ) : Type 0 where
  pub steps : ℕ
  pub last : ℕ
  -- the rounded number lies at most half a unit in the last place above the fraction, and at most as much below it
  pub not_above : 2 * (steps * c) ≤ 2 * (a * 2 ^ low f) + c * 2 ^ last
  pub not_below : 2 * (a * 2 ^ low f) ≤ 2 * (steps * c) + c * 2 ^ last
  -- the last place is the smallest value's own, as for a subnormal number, or the fraction has a leading digit prec - 1
  -- places above it
  pub place : (last ≡ 0) ⊎ (2 ^ (prec f - 1 + last) * c ≤ a * 2 ^ low f)
  -- below `overflow` units the result is that number, and from there on it is the infinity
  pub under : steps < overflow f → HasValue (round f s a c) s steps (2 ^ low f)
  pub over : overflow f ≤ steps → round f s a c ≡ inf s

-- The least size that rounds to an infinity: half a unit in the last place above the format's largest number, where the
-- tie goes up. It is 2 ^ 1024 - 2 ^ 970 for an f64 and 2 ^ 128 - 2 ^ 103 for an f32.
abbrev pub limit : Format → ℕ
limit f = (2 ^ suc (prec f) - 1) * 2 ^ (emax f - prec f)
