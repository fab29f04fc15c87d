-- Numbers put into an array: what the parts of `read` and `read_finite` promise each other. Who calls these needs
-- none of it. Definitions only.
use Rattle.std.specs.Prelude.{◌≡◌, Bool, true, false, List, ℕ, ◌+◌, ◌*◌, ◌<◌, Float, length, set}
use Rattle.std.specs.Float.Ieee.Scale.{finite}
use Rattle.camera.specs.Numbers as numbers
use Rattle.camera_bytes.specs.Reading.{at}

-- the array's first numbers, so many, are the bytes'
abbrev pub SameTo : ℕ → List ℕ → List Float → Type 0
SameTo i p n = (k : ℕ) → k < i → numbers.at n k ≡ at p k

-- and are finite
abbrev pub FiniteTo : ℕ → List ℕ → Type 0
FiniteTo i p = (k : ℕ) → k < i → finite (at p k) ≡ true

-- one that is there isn't finite
pub record Broken (p : List ℕ) : Type 0 where
  pub place : ℕ
  pub within : 8 * place < length p
  pub odd : finite (at p place) ≡ false

-- two more are there, both finite, and nothing else has changed
pub record Two (p : List ℕ) (i : ℕ) (before after : List Float) : Type 0 where
  pub put : after ≡ set (set before i (at p i)) (i + 1) (at p (i + 1))
  pub first : finite (at p i) ≡ true
  pub second : finite (at p (i + 1)) ≡ true

-- all are there, and finite
pub record All (p : List ℕ) (n : List Float) : Type 0 where
  pub same : SameTo numbers.most p n
  pub sound : FiniteTo numbers.most p

-- the one if the answer is yes, else the other
abbrev pub either : Bool → Type 0 → Type 0 → Type 0
either true X Y = X
either false X Y = Y

abbrev pub TwoPut : List ℕ → ℕ → Bool → List Float → List Float → Type 0
TwoPut p i r before after = either r (Two p i before after) (Broken p)

abbrev pub AllPut : List ℕ → Bool → List Float → Type 0
AllPut p r n = either r (All p n) (Broken p)
