-- What the rule of the table of reciprocals (specs/Whole.antt) says of its entries: the one at k is 2 ^ 60 / (2 * k + 1), cut, so that its product with 2 * k + 1 is at most 2 ^ 60 and that of the next
-- number is above it. That the code's table follows the rule is computed, in the proof of `nested`. Assumes nothing.
use Rattle.std.proofs.Common.{ℕ, zero, suc, ◌+◌, ◌*◌, ◌/◌, ◌^◌, ◌<◌, ◌≤◌, List, [], ◌∷◌, drop, add-zero, add-suc, suc-add, zero-add, div-mul-le_self, arith}
use native.Mathlib.Nat.{lt-div-mul-add}
use Rattle.arctan.specs.Series.{terms}
use Rattle.arctan.specs.Whole.{reciprocals_from, reciprocals}

-- c is 2 ^ 60 / (2 * k + 1), cut
pub record Cut (k c : ℕ) : Type 0 where
  pub not_above : c * (2 * k + 1) ≤ 2 ^ 60
  pub not_below : 2 ^ 60 < (c + 1) * (2 * k + 1)

-- and so is each entry of a list, whose first is the entry at k
pub data Cuts : ℕ → List ℕ → Type 0 where
  none : {k : ℕ} → Cuts k []
  more : {k c : ℕ} {cs : List ℕ} → Cut k c → Cuts (suc k) cs → Cuts k (c ∷ cs)

cut : (k : ℕ) → Cut k (2 ^ 60 / (2 * k + 1))
cut k = record { not_above = div-mul-le_self (2 ^ 60) (2 * k + 1); not_below = more_than (2 ^ 60) (2 * k + 1) (2 ^ 60 / (2 * k + 1)) (lt-div-mul-add (omega arith)) }
  where
    more_than : (n d q : ℕ) → n < q * d + d → n < (q + 1) * d
    more_than n d q h = omega arith

cuts : (n k : ℕ) → Cuts k (reciprocals_from n k)
unfolding reciprocals_from
cuts zero k = none
cuts (suc n) k = more (cut k) (cuts n (suc k))

pub table : Cuts 0 reciprocals
unfolding reciprocals
table = cuts terms 0

-- ---- from an entry on

pub first : {k c : ℕ} {cs : List ℕ} → Cuts k (c ∷ cs) → Cut k c
first (more h t) = h

pub rest : {k c : ℕ} {cs : List ℕ} → Cuts k (c ∷ cs) → Cuts (suc k) cs
rest (more h t) = t

after : (i k : ℕ) (cs : List ℕ) → Cuts i cs → Cuts (k + i) (drop k cs)
after i zero cs t = rw (zero-add i) t
after i (suc k) [] t = none
after i (suc k) (c ∷ cs) t = rw (suc-add, ← add-suc) (after (suc i) k cs (rest t))

pub from : (k : ℕ) → Cuts k (drop k reciprocals)
from k = rw add-zero at (after 0 k reciprocals table)
