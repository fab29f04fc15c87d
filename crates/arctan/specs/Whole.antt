-- The series in whole numbers, as the code works it out: a number x is counted in 2 ^ -60. Nobody who reads a contract
-- needs this file. Definitions only.
use Rattle.std.specs.Prelude.{ℕ, zero, suc, ◌+◌, ◌-◌, ◌*◌, ◌/◌, ◌%◌, ◌^◌, List, [], ◌∷◌}
use Rattle.arctan.specs.Series.{terms}

-- a * b / 2 ^ 60, from the halves of both; the product of the two low halves is left out
unfoldable pub product : ℕ → ℕ → ℕ
product a b = a / 2 ^ 30 * (b / 2 ^ 30) + (a / 2 ^ 30 * (b % 2 ^ 30) + a % 2 ^ 30 * (b / 2 ^ 30)) / 2 ^ 30

-- 1 / (2k + 1), counted in 2 ^ -60 and cut: n of them, from the k-th on
unfoldable pub reciprocals_from : ℕ → ℕ → List ℕ
reciprocals_from zero k = []
reciprocals_from (suc n) k = 2 ^ 60 / (2 * k + 1) ∷ reciprocals_from n (suc k)

-- those of the terms of G: 1, 1/3, 1/5, .., 1/47
unfoldable pub reciprocals : List ℕ
unfolding reciprocals_from
reciprocals = reciprocals_from terms 0

-- c0 - y * (c1 - y * (c2 - ..))
unfoldable pub nested : ℕ → List ℕ → ℕ
nested y [] = 0
nested y (c ∷ cs) = c - product y (nested y cs)

-- G(s)
unfoldable pub series : ℕ → ℕ
unfolding product nested reciprocals
series s = product s (nested (product s s) reciprocals)

-- P and 2P, cut
abbrev pub quarter : ℕ
quarter = 905502432259640355

abbrev pub half : ℕ
half = 1811004864519280710
