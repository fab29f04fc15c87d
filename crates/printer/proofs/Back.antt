-- Every number of a cell that is built has room in an f32. So a listing has its bits. Assumes nothing.
use mathlib.Core.Path.{sym, subst}
use mathlib.Core.Bool.{Bool, true, false, cond, ◌&&◌}
use mathlib.Core.List.{List, [], ◌∷◌}
use Prim.Native.Nat.{ℕ, zero, suc, ◌+◌, ◌*◌, ◌/◌, ◌%◌}
use lib.Dec.{T}
use lib.Ieee.{Float, binary32, fits, of_bits}
use lib.Ieee.Bits.{of_bits-fits}
use lib.Ieee.Scale.{finite}
use lib.ListN.{set, take, replicate}
use Rattle.std.proofs.Common.{Result, Ok, Err}
use Rattle.lens.specs.Distorted.{Distorted}
use Rattle.region.specs.Region.{increments}
use Rattle.region.specs.declared.Increments.{Increments}
use Rattle.region.specs.declared.Region.{Region}
use Rattle.narrow.specs.Narrow.{narrowed}
use Rattle.narrow.proofs.Laws.{narrow_fits}
use Rattle.engine.specs.Engine.{short_for, distort}
use Rattle.camera.specs.declared.Camera.{Camera}
use Rattle.listing.proofs.Fair.{AllFit}
use Rattle.cell.specs.Cell.{cell_point, f32, of_pixel, cell_by}
use Rattle.turns.specs.Turns.{turn}
use Rattle.turns.proofs.Laws.{keeps}
use Rattle.plans.specs.Plan.{Content, numbers, none, Plan, State, cells_done, next}
use Rattle.plans.proofs.Done.{Done, a_sample, the_last, a_cell, unit_done}
use Rattle.table_plans.specs.Tables.{f32_table}

set_fit : (xs : List Float) (i : ℕ) (a : Float) → T (fits binary32 a) → AllFit xs → AllFit (set xs i a)
set_fit [] i a h f = tt
set_fit (x ∷ xs) zero a h f = (h, f.1)
set_fit (x ∷ xs) (suc i) a h f = (f.0, set_fit xs i a h f.1)

pub blank_fit : (k n b : ℕ) → AllFit (take k (replicate n (of_bits binary32 b)))
blank_fit zero n b = tt
blank_fit (suc k) zero b = tt
blank_fit (suc k) (suc n) b = (of_bits-fits binary32 b, blank_fit k n b)

abbrev ContentFit : Content Float → Type 0
ContentFit (none n) = Unit {0}
ContentFit (numbers a b) = T (fits binary32 a) × T (fits binary32 b)

pixel_fit : (d : Distorted) → ContentFit (of_pixel f32 d)
pixel_fit (Err r) = tt
pixel_fit (Ok p) = go (finite (narrowed p.0) && finite (narrowed p.1))
  where
    go : (b : Bool) → ContentFit (cond b (numbers (narrowed p.0) (narrowed p.1)) (none 12))
    go true = (narrow_fits p.0, narrow_fits p.1)
    go false = tt

module _ (camera : Camera) (width height : ℕ) where
  abbrev table : Plan Float
  table = f32_table camera width height false

  cell_fit : (region : Region) (by : Increments) (u v : ℕ) → ContentFit (cell_by (distort camera (short_for camera)) f32 region by u v)
  unfolding cell_by
  cell_fit region by u v = go (finite (cell_point region by u v).0 && finite (cell_point region by u v).1)
    where
      go : (b : Bool) → ContentFit (cond b (of_pixel f32 (distort camera (short_for camera) (cell_point region by u v))) (none 11))
      go true = pixel_fit (distort camera (short_for camera) (cell_point region by u v))
      go false = tt

  unit_fits : (s t : State Float) → AllFit s.cells → Done table s t → AllFit t.cells
  unit_fits s t f (a_sample settled under e g c) = subst (λ (u : State Float). AllFit u.cells) (sym c) f
  unit_fits s t f (the_last settled under e g w c) = subst (λ (u : State Float). AllFit u.cells) (sym c) f
  unit_fits s t f (a_cell past some a b e g) =
      let c = cells_done table.sweep s in
      let h = subst ContentFit e (cell_fit s.at.region (increments s.at.region width height) (c % width) (c / width)) in
      subst (λ (u : State Float). AllFit u.cells) (sym g) (set_fit (set s.cells (2 * c) a) (2 * c + 1) b h.1 (set_fit s.cells (2 * c) a h.0 f))

  pub turn_cells_fit : (a : ℕ) (s : State Float) → AllFit s.cells → AllFit (turn (next table) a s).state.cells
  turn_cells_fit = keeps (next table) (λ (s : State Float). AllFit s.cells) (λ s t f e. unit_fits s t f (unit_done table s t e))
