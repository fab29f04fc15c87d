-- A table's plan, and what the next unit of a build makes of a state: the border's samples first, then the cells, row
-- by row. X is what a cell holds two of. Definitions only.
use Rattle.std.specs.Prelude.{Bool, cond, not, ◌&&◌, List, ℕ, ◌+◌, ◌-◌, ◌*◌, ◌/◌, ◌%◌, eqb, ltb, set, Ok, Err}
use Rattle.lens.specs.Constants.{zeros}
use Rattle.lens.specs.Judgement.{decided}
use Rattle.lens.specs.Refusal.{number}
use Rattle.lens.specs.Judgement.{Judgement}
use Rattle.lens.specs.declared.Pixel.{Pixel}
use Rattle.lens.specs.declared.Refusal.TheVariants.{SampleUnsettled}
use Rattle.lens.specs.declared.Settled.{Settled}
use Rattle.lens.specs.Undistorted.{Undistorted}
use Rattle.region.specs.Region.{increments, wrong}
use Rattle.region.specs.declared.Region.{Region}
use Rattle.turns.specs.Turns.{Next, over, refuses, does}
use Rattle.border.specs.Edges.{edges_after, doubled}
use Rattle.plans.specs.declared.Progress.{Progress}

-- what a cell holds: two numbers, or the number of a refusal
pub data Content (X : Type 0) : Type 0 where
  numbers : X → X → Content X
  none : ℕ → Content X

-- the sweep of a border, whatever the cells will hold
pub record Sweep : Type 0 where
  -- the size of the table
  pub width : ℕ
  pub height : ℕ
  -- how many samples (B), and the pixel of each
  pub samples : ℕ
  pub pixel_at : ℕ → Pixel
  -- what a sample finds at its pixel, and the most updates that it makes
  pub sample : Pixel → Undistorted
  pub limit : ℕ
  -- whether a sample is refused, with 18, whose flag says no
  pub strict : Bool
  -- what refuses a record before its table is looked at, by the region that it carries
  pub opens : Region → Judgement

-- and with it what the cell of a column and a row holds, in a table of such a region
pub record Plan (X : Type 0) : Type 0 where
  pub sweep : Sweep
  pub cell : Region → ℕ → ℕ → Content X

-- how far a build has come, and the caller's table: cell c in the places 2c and 2c + 1
pub record State (X : Type 0) : Type 0 where
  pub at : Progress
  pub cells : List X

-- ---- a fresh record: zeros

abbrev pub nowhere : Region
nowhere = record { left = zeros; top = zeros; right = zeros; bottom = zeros }

abbrev pub begun : Progress
begun = record { done = 0; edges = nowhere; region = nowhere; updates = 0; unsettled = 0; first = 0 }

abbrev pub fresh : {X : Type 0} → List X → State X
fresh cells = record { at = begun; cells = cells }

-- ---- a sample

-- one more whose flag says no, or not
abbrev pub one_no : Bool → ℕ
one_no flag = cond flag 0 1

-- the position of the first such, counted from 1: it stays once there is one
abbrev pub first_after : ℕ → ℕ → Bool → ℕ
first_after done first flag = cond (eqb first 0) (cond flag 0 (done + 1)) first

abbrev pub sampled : Progress → Settled → Progress
sampled at settled = record {
  done = at.done + 1;
  edges = edges_after at.done at.edges settled.point;
  region = at.region;
  updates = at.updates + settled.updates;
  unsettled = at.unsettled + one_no settled.flag;
  first = first_after at.done at.first settled.flag;
}

abbrev pub with_region : Progress → Region → Progress
with_region at region = record {
  done = at.done;
  edges = at.edges;
  region = region;
  updates = at.updates;
  unsettled = at.unsettled;
  first = at.first;
}

abbrev pub with_done : Progress → ℕ → Progress
with_done at done = record {
  done = done;
  edges = at.edges;
  region = at.region;
  updates = at.updates;
  unsettled = at.unsettled;
  first = at.first;
}

-- behind the last sample: the region is worked out, and its increments judged
abbrev pub closed : ℕ → ℕ → Progress → Next Progress
closed width height at =
    let region = doubled at.edges in
    decided (wrong (increments region width height)) (λ r. refuses (number r)) (does (with_region at region))

module _ (sweep : Sweep) where
  -- T
  abbrev pub all_units : ℕ
  all_units = sweep.samples + sweep.width * sweep.height

  -- what the definition says of sample n, counted from 0
  abbrev pub found : ℕ → Undistorted
  found n = sweep.sample (sweep.pixel_at n)

  abbrev pub too_strict : Settled → Bool
  too_strict settled = sweep.strict && not settled.flag

  abbrev pub after_sample : Progress → Undistorted → Next Progress
  after_sample at (Err r) = refuses (number r)
  after_sample at (Ok settled) =
      let next = sampled at settled in
      cond (too_strict settled) (refuses (number SampleUnsettled))
      (cond (ltb next.done sweep.samples) (does next) (closed sweep.width sweep.height next))

  -- the next border unit
  unfoldable pub swept : Progress → Next Progress
  swept at = after_sample at (found at.done)

-- ---- a cell, and the next unit

-- a border unit leaves the table alone
abbrev pub table_alone : {X : Type 0} → List X → Next Progress → Next (State X)
table_alone cells over = over
table_alone cells (refuses r) = refuses r
table_alone cells (does at) = does record { at = at; cells = cells }

-- a cell's unit writes its two numbers and leaves all else
abbrev pub put_in : {X : Type 0} → Content X → ℕ → State X → Next (State X)
put_in (none r) c s = refuses r
put_in (numbers a b) c s = does record {
  at = with_done s.at (s.at.done + 1);
  cells = set (set s.cells (2 * c) a) (2 * c + 1) b;
}

abbrev pub cells_done : {X : Type 0} → Sweep → State X → ℕ
cells_done sweep s = s.at.done - sweep.samples

module _ {X : Type 0} (p : Plan X) where
  -- cell c, row by row, in a table of such a region
  abbrev pub cell_in : Region → ℕ → Content X
  cell_in region c = p.cell region (c % p.sweep.width) (c / p.sweep.width)

  abbrev pub cell_unit : State X → Next (State X)
  cell_unit s = let c = cells_done p.sweep s in put_in (cell_in s.at.region c) c s

  -- the next unit: the border's first, then the cells'
  unfoldable pub next : State X → Next (State X)
  next s =
      cond (ltb s.at.done p.sweep.samples) (table_alone s.cells (swept p.sweep s.at))
      (cond (ltb s.at.done (all_units p.sweep)) (cell_unit s) over)
