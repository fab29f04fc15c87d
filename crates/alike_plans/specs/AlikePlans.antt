-- A plan with another engine, whose samples are alike and whose cells are the same, and what a build by it owes.
-- Definitions only.
use Rattle.std.specs.Prelude.{◌≡◌, List, ℕ, min, Ok, Err}
use Rattle.exact.specs.Alike.{◌≐◌}
use Rattle.lens.specs.declared.Pixel.{Pixel}
use Rattle.lens.specs.Undistorted.{Undistorted}
use Rattle.lens.specs.Alike.{AlikeSettled}
use Rattle.region.specs.declared.Region.{Region}
use Rattle.plans.specs.Built.{progress_of, doable, Built}
use Rattle.plans.specs.Plan.{Content, Sweep, Plan, State}
use Rattle.plans.specs.declared.Progress.{Progress}

-- alike points with the same updates and flag, or the same refusal
abbrev pub AlikeFound : Undistorted → Undistorted → Type 0
AlikeFound (Ok a) (Ok b) = AlikeSettled a b
AlikeFound (Ok a) (Err s) = ⊥
AlikeFound (Err r) (Ok b) = ⊥
AlikeFound (Err r) (Err s) = r ≡ s

pub record AlikeRegions (a b : Region) : Type 0 where
  pub left : a.left ≐ b.left
  pub top : a.top ≐ b.top
  pub right : a.right ≐ b.right
  pub bottom : a.bottom ≐ b.bottom

-- the records of two builds: a zero's sign may differ among the edges, and nothing else may
pub record AlikeProgress (a b : Progress) : Type 0 where
  pub done : a.done ≡ b.done
  pub edges : AlikeRegions a.edges b.edges
  pub region : a.region ≡ b.region
  pub updates : a.updates ≡ b.updates
  pub unsettled : a.unsettled ≡ b.unsettled
  pub first : a.first ≡ b.first

-- What a build owes (`Built`), but that the sign of a zero may differ among the edges of its record: the units done,
-- the region, the updates, the tallies and every cell are the plan's own.
pub record BuiltAlike {X : Type 0} (p : Plan X) (cells : List X) (A : ℕ) (s : State X) : Type 0 where
  pub alike : AlikeProgress s.at (progress_of p.sweep (min A (doable p)))
  pub built : Built p cells A (record { at = progress_of p.sweep (min A (doable p)); cells = s.cells })

-- a plan, with other samples and other cells
abbrev pub sampled_by : Sweep → (Pixel → Undistorted) → Sweep
sampled_by sweep sample = record {
  width = sweep.width;
  height = sweep.height;
  samples = sweep.samples;
  pixel_at = sweep.pixel_at;
  sample = sample;
  limit = sweep.limit;
  strict = sweep.strict;
  opens = sweep.opens;
}

abbrev pub built_by : {X : Type 0} → Plan X → (Pixel → Undistorted) → (Region → ℕ → ℕ → Content X) → Plan X
built_by p sample cell = record { sweep = sampled_by p.sweep sample; cell = cell }
