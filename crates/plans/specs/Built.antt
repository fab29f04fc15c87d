-- Demand 3 over any plan: what the definition says of each unit, in closed forms, and what a build owes. Definitions
-- only.
use Rattle.std.specs.Prelude.{◌≡◌, Bool, cond, List, ℕ, zero, suc, ◌+◌, ◌-◌, ◌*◌, ◌≤◌, ◌<◌, min, eqb, ltb, length, get_or, Ok, Err}
use Rattle.lens.specs.Judgement.{verdict}
use Rattle.lens.specs.Refusal.{number}
use Rattle.lens.specs.Undistorted.{told}
use Rattle.lens.specs.declared.Refusal.TheVariants.{SampleUnsettled}
use Rattle.lens.specs.declared.Settled.{Settled}
use Rattle.lens.specs.Undistorted.{Undistorted}
use Rattle.region.specs.Region.{increments, wrong}
use Rattle.region.specs.declared.Region.{Region}
use Rattle.turns.specs.Turns.{Said, finished, refused, running}
use Rattle.border.specs.Edges.{edges_after, doubled}
use Rattle.plans.specs.Plan.{Content, numbers, none, Sweep, Plan, State, nowhere, one_no, all_units, cells_done, found, too_strict, cell_in}
use Rattle.plans.specs.declared.Progress.{Progress}

-- ---- of any numbers and flags

unfoldable pub sum_below : (ℕ → ℕ) → ℕ → ℕ
sum_below f zero = 0
sum_below f (suc n) = sum_below f n + f n

-- the position of the first of n flags that says no, counted from 1; 0 if none does
unfoldable pub first_no : (ℕ → Bool) → ℕ → ℕ
first_no f zero = 0
first_no f (suc n) = cond (eqb (first_no f n) 0) (cond (f n) 0 (suc n)) (first_no f n)

-- of k numbers from the n-th on, how many stand before the first that is not 0
unfoldable pub before_refused : (ℕ → ℕ) → ℕ → ℕ → ℕ
before_refused f n zero = 0
before_refused f n (suc k) = cond (eqb (f n) 0) (suc (before_refused f (suc n) k)) 0

-- ---- the samples

module _ (sweep : Sweep) where
  abbrev pub settled_at : ℕ → Settled
  settled_at n = (told (found sweep n)).settled

  -- the edges of the points of the first n
  unfoldable pub edges_below : ℕ → Region
  edges_below zero = nowhere
  edges_below (suc n) = edges_after n (edges_below n) (settled_at n).point

  abbrev pub region_of : Region
  region_of = doubled (edges_below sweep.samples)

  -- the record of a build that has done n units
  unfoldable pub progress_of : ℕ → Progress
  progress_of n = record {
    done = n;
    edges = edges_below (min n sweep.samples);
    region = cond (ltb n sweep.samples) nowhere region_of;
    updates = sum_below (λ k. (settled_at k).updates) (min n sweep.samples);
    unsettled = sum_below (λ k. one_no (settled_at k).flag) (min n sweep.samples);
    first = first_no (λ k. (settled_at k).flag) (min n sweep.samples);
  }

  -- the number that a sample is refused with, 0 if it is not: its own, or 18
  abbrev pub sample_number : Undistorted → ℕ
  sample_number (Err r) = number r
  sample_number (Ok settled) = cond (too_strict sweep settled) (number SampleUnsettled) 0

  -- and that border unit n is: its sample's first; behind the last one that of the increments
  abbrev pub border_number : ℕ → ℕ
  border_number n =
      cond (eqb (sample_number (found sweep n)) 0)
      (cond (ltb (n + 1) sweep.samples) 0 (verdict (wrong (increments region_of sweep.width sweep.height))))
      (sample_number (found sweep n))

-- ---- the cells

abbrev pub content_number : {X : Type 0} → Content X → ℕ
content_number (numbers a b) = 0
content_number (none n) = n

module _ {X : Type 0} (p : Plan X) where
  abbrev pub content_at : ℕ → Content X
  content_at c = cell_in p (region_of p.sweep) c

  -- the number that unit n is refused with, counted from 0; 0 if it is not
  unfoldable pub unit_number : ℕ → ℕ
  unit_number n =
      cond (ltb n p.sweep.samples) (border_number p.sweep n)
      (content_number (content_at (n - p.sweep.samples)))

  -- F: the units before the first that the definition refuses, or all of them
  abbrev pub doable : ℕ
  doable = before_refused unit_number 0 (all_units p.sweep)

  -- what a turn says that starts with `from` units done and ends with `done`: finished at T; refused with the next
  -- unit's number, where it has one and the allowance had room for it; else running
  unfoldable pub says_at : ℕ → ℕ → ℕ → Said
  says_at from allowance done =
      cond (eqb done (all_units p.sweep)) finished
      (cond (eqb (unit_number done) 0) running
      (cond (ltb done (from + allowance)) (refused (unit_number done)) running))

  -- ---- what is owed

  -- With A units allowed from a fresh record and this table on: the record is that of min(A, F) units, the cells done
  -- hold the definition's numbers, and all else is as it was.
  pub record Built (cells : List X) (A : ℕ) (s : State X) : Type 0 where
    pub progress : s.at ≡ progress_of p.sweep (min A doable)
    pub as_long : length s.cells ≡ length cells
    pub cells_hold :
        (c : ℕ) (d : X) → c < cells_done p.sweep s
        → content_at c ≡ numbers (get_or s.cells (2 * c) d) (get_or s.cells (2 * c + 1) d)
    pub untouched : (k : ℕ) (d : X) → 2 * cells_done p.sweep s ≤ k → get_or s.cells k d ≡ get_or cells k d
