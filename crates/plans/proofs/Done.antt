-- What a unit done is: a sample, the last sample, or a cell; and when none is left. Assumes nothing.
use mathlib.Core.Path.{◌≡◌, refl, sym, ap, ◌∙◌}
use Rattle.std.specs.declared.result.Result.TheVariants.{Ok, Err}
use mathlib.Core.Bool.{Bool, true, false, cond, not, ◌&&◌}
use mathlib.Core.List.{List}
use Prim.Native.Nat.{ℕ, ◌+◌, ◌-◌, ◌*◌, ◌/◌, ◌%◌, ◌≤◌, ◌<◌}
use native.Mathlib.Omega.{arith}
use borrow.Author.Tests.{ltb-true, ltb-false, le-ltb}
use lib.Dec.{ltb}
use lib.ListN.{set}
use Rattle.lens.specs.Judgement.{decided, accepted}
use Rattle.lens.specs.Refusal.{number}
use Rattle.lens.specs.Judgement.{Judgement}
use Rattle.lens.specs.declared.Settled.{Settled}
use Rattle.lens.specs.Undistorted.{Undistorted}
use Rattle.region.specs.Region.{increments, wrong}
use Rattle.turns.specs.Turns.{Next, over, refuses, does}
use Rattle.border.specs.Edges.{doubled}
use Rattle.plans.specs.Plan.{Content, numbers, none, Plan, State, sampled, with_region, with_done, all_units, cells_done, found, too_strict, closed, after_sample, swept, table_alone, put_in, cell_unit, next}
use Rattle.plans.specs.declared.Progress.{Progress}

module _ {X : Type 0} (p : Plan X) where
  -- a sample that is not the last, or is
  abbrev widened : State X → Settled → State X
  widened s settled = record { at = sampled s.at settled; cells = s.cells }

  abbrev pub rounded_off : State X → Settled → State X
  rounded_off s settled = record { at = with_region (sampled s.at settled) (doubled (sampled s.at settled).edges); cells = s.cells }

  -- a cell's two numbers written
  abbrev pub filled : State X → X → X → State X
  filled s a b = record { at = with_done s.at (s.at.done + 1); cells = set (set s.cells (2 * cells_done p.sweep s) a) (2 * cells_done p.sweep s + 1) b }

  pub data Done (s t : State X) : Type 0 where
    a_sample : (settled : Settled) → s.at.done + 1 < p.sweep.samples → found p.sweep s.at.done ≡ Ok settled → too_strict p.sweep settled ≡ false → t ≡ record { at = sampled s.at settled; cells = s.cells } → Done s t
    the_last :
        (settled : Settled) → s.at.done + 1 ≡ p.sweep.samples → found p.sweep s.at.done ≡ Ok settled → too_strict p.sweep settled ≡ false
        → wrong (increments (doubled (sampled s.at settled).edges) p.sweep.width p.sweep.height) ≡ accepted → t ≡ rounded_off s settled → Done s t
    a_cell : p.sweep.samples ≤ s.at.done → s.at.done < all_units p.sweep → (a b : X) → p.cell s.at.region (cells_done p.sweep s % p.sweep.width) (cells_done p.sweep s / p.sweep.width) ≡ numbers a b → t ≡ filled s a b → Done s t

  -- each is one more, of at most T
  pub record Step (s t : State X) : Type 0 where
    pub more : t.at.done ≡ s.at.done + 1
    pub some : s.at.done < all_units p.sweep

  pub counts : (s t : State X) → Done s t → Step s t
  counts s t (a_sample settled under e f g) = record { more = ap (λ (x : State X). x.at.done) g; some = omega (arith, under) }
  counts s t (the_last settled under e f w g) = record { more = ap (λ (x : State X). x.at.done) g; some = omega (arith, under) }
  counts s t (a_cell past some a b e g) = record { more = ap (λ (x : State X). x.at.done) g; some = some }

  -- ---- from the definition

  sample_done : (s t : State X) → s.at.done < p.sweep.samples → (u : Undistorted) → found p.sweep s.at.done ≡ u → table_alone s.cells (after_sample p.sweep s.at u) ≡ does t → Done s t
  sample_done s t under (Err r) e h = let z : ◌≡◌ {A = ℕ} 0 1 = cc in absurd (omega arith)
  sample_done s t under (Ok settled) e h =
      go (too_strict p.sweep settled) refl (ltb (s.at.done + 1) p.sweep.samples) refl (wrong (increments (doubled (sampled s.at settled).edges) p.sweep.width p.sweep.height)) refl h
    where
      go :
          (x : Bool) → too_strict p.sweep settled ≡ x → (b : Bool) → ltb (s.at.done + 1) p.sweep.samples ≡ b → (j : Judgement) → wrong (increments (doubled (sampled s.at settled).edges) p.sweep.width p.sweep.height) ≡ j
          → table_alone s.cells (cond x (refuses 18) (cond b (does (sampled s.at settled)) (decided j (λ r. refuses (number r)) (does (with_region (sampled s.at settled) (doubled (sampled s.at settled).edges)))))) ≡ does t → Done s t
      go true f b g j w h = let z : ◌≡◌ {A = ℕ} 0 1 = cc in absurd (omega arith)
      go false f true g j w h = a_sample settled (ltb-true (s.at.done + 1) p.sweep.samples g) e f (cc)
      go false f false g (Err r) w h = let z : ◌≡◌ {A = ℕ} 0 1 = cc in absurd (omega arith)
      go false f false g (Ok _) w h = the_last settled (omega (arith, under, ltb-false (s.at.done + 1) p.sweep.samples g)) e f w (cc)

  cell_done :
      (s t : State X) → p.sweep.samples ≤ s.at.done → s.at.done < all_units p.sweep → (x : Content X) → p.cell s.at.region (cells_done p.sweep s % p.sweep.width) (cells_done p.sweep s / p.sweep.width) ≡ x
      → put_in x (cells_done p.sweep s) s ≡ does t → Done s t
  cell_done s t past some (none r) e h = let z : ◌≡◌ {A = ℕ} 0 1 = cc in absurd (omega arith)
  cell_done s t past some (numbers a b) e h = a_cell past some a b e (cc)

  pub unit_done : (s t : State X) → next p s ≡ does t → Done s t
  unfolding next swept
  unit_done s t = go (ltb s.at.done p.sweep.samples) refl (ltb s.at.done (all_units p.sweep)) refl
    where
      go :
          (b : Bool) → ltb s.at.done p.sweep.samples ≡ b → (d : Bool) → ltb s.at.done (all_units p.sweep) ≡ d
          → cond b (table_alone s.cells (after_sample p.sweep s.at (found p.sweep s.at.done))) (cond d (cell_unit p s) over) ≡ does t → Done s t
      go true e d f h = sample_done s t (ltb-true s.at.done p.sweep.samples e) (found p.sweep s.at.done) refl h
      go false e true f h = cell_done s t (ltb-false s.at.done p.sweep.samples e) (ltb-true s.at.done (all_units p.sweep) f) _ refl h
      go false e false f h = let z : ◌≡◌ {A = ℕ} 0 1 = cc in absurd (omega arith)

  pub next_counts : (s t : State X) → next p s ≡ does t → Step s t
  next_counts s t e = counts s t (unit_done s t e)

  -- none is left behind T
  pub over_at : (s : State X) → all_units p.sweep ≤ s.at.done → next p s ≡ over
  unfolding next
  over_at s h = rw (le-ltb s.at.done p.sweep.samples (omega (arith, h)), le-ltb s.at.done (all_units p.sweep) h) refl
