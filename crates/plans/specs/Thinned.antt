-- A border that leaves out samples whose pixel came before: what it owes to the one that has them. Definitions only.
use Rattle.std.specs.Prelude.{◌≡◌, cond, List, ℕ, suc, ◌≤◌, ◌<◌, ltb}
use Rattle.lens.specs.declared.Pixel.{Pixel}
use Rattle.plans.specs.Plan.{Sweep, Plan, State, all_units}
use Rattle.plans.specs.Built.{doable, unit_number, content_at, region_of, Built}

-- a plan with another border
abbrev pub with_border : Sweep → ℕ → (ℕ → Pixel) → Sweep
with_border sweep samples pixel_at = record {
  width = sweep.width;
  height = sweep.height;
  samples = samples;
  pixel_at = pixel_at;
  sample = sweep.sample;
  limit = sweep.limit;
  strict = sweep.strict;
  opens = sweep.opens;
}

abbrev pub over_border : {X : Type 0} → Plan X → ℕ → (ℕ → Pixel) → Plan X
over_border p samples pixel_at = record { sweep = with_border p.sweep samples pixel_at; cell = p.cell }

-- the first m pixels of `new` are the first n of `old`, in their order, without some that came before
pub data Thinned (old new : ℕ → Pixel) : ℕ → ℕ → Type 0 where
  start : Thinned old new 0 0
  same : (n m : ℕ) → Thinned old new n m → old n ≡ new m → Thinned old new (suc n) (suc m)
  again : (n m k : ℕ) → Thinned old new n m → k < n → old n ≡ old k → Thinned old new (suc n) m

-- the number that a build is refused with which may do all its units; 0 if it is finished
abbrev pub refused_with : {X : Type 0} → Plan X → ℕ
refused_with p = cond (ltb (doable p) (all_units p.sweep)) (unit_number p (doable p)) 0

-- Two plans make the same table: they have the same region and the same cells, they are refused with the same number
-- or both aren't, and where a build of the old one is finished, one of the new that is allowed all its units is
-- finished too, with the same region and the same table.
pub record SameTable {X : Type 0} (old new : Plan X) : Type 0 where
  pub region : region_of new.sweep ≡ region_of old.sweep
  pub cells : (c : ℕ) → content_at new c ≡ content_at old c
  pub refusal : refused_with new ≡ refused_with old
  pub finished :
      (table : List X) (A B : ℕ) (s t : State X) → Built old table A s → Built new table B t
      → s.at.done ≡ all_units old.sweep → all_units new.sweep ≤ B
      → (t.at.done ≡ all_units new.sweep) × (t.at.region ≡ s.at.region) × (t.cells ≡ s.cells)
