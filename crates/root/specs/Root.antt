-- The square root of an f64: the f64 nearest to the exact root. There are no real numbers here, so a root is said by
-- its square. Everything is counted in whole numbers: a unit is the smallest f64, 2 ^ -1074, and x is n * 2 ^ -2148 for
-- a whole n, so that the root of x is the root of n, in units. Definitions only.
use Rattle.std.specs.Prelude.{Bool, true, false, cond, ℕ, zero, suc, ◌+◌, ◌-◌, ◌*◌, ◌/◌, ◌^◌, leb, Float}
use Rattle.std.specs.Float.{nan, inf, fin, binary64}
use Rattle.std.specs.Float.Ieee.{up, down, size, round}

-- the largest number up to b that passes the test, and 0 where none above 0 does
unfoldable pub largest : (ℕ → Bool) → ℕ → ℕ
largest test zero = zero
largest test (suc b) = cond (test (suc b)) (suc b) (largest test b)

-- r steps of 2 ^ k units are no further above the root of n units than half a step: (r - 1/2) * 2 ^ k is at most the
-- root of n. Both sides are doubled and squared.
unfoldable pub reaches : ℕ → ℕ → ℕ → Bool
reaches n k r = leb ((2 * r - 1) * (2 * r - 1) * 4 ^ k) (4 * n)

-- The last place of the root of n: it has half as many digits as n, and an f64 keeps 53 of them.
abbrev pub last : ℕ → ℕ
last n = (size n + 1) / 2 - 53

-- The root of n units to the nearest step of its last place. Below 2 ^ 53 steps each is an f64.
unfoldable pub nearest_root : ℕ → Float
unfolding largest reaches
nearest_root n = let k = last n in round binary64 false (largest (reaches n k) (2 ^ 53) * 2 ^ k) (2 ^ 1074)

unfoldable pub root : Float → Float
unfolding nearest_root
root nan = nan
root (inf true) = nan
root (inf false) = inf false
root (fin s zero e) = fin s zero e
root (fin true (suc m) e) = nan
root (fin false (suc m) e) = nearest_root (suc m * up e * 2 ^ 2148 / down e)
