-- What a border unit comes to, once its sample is known. Assumes nothing.
use mathlib.Core.Path.{◌≡◌, refl, subst}
use Rattle.std.specs.declared.result.Result.TheVariants.{Ok, Err}
use mathlib.Core.Bool.{Bool, true, false, cond, not, ◌&&◌}
use Prim.Native.Nat.{ℕ, ◌+◌, ◌≤◌, ◌<◌}
use native.Mathlib.Omega.{arith}
use borrow.Author.Tests.{lt-ltb, le-ltb}
use lib.Dec.{ltb}
use Rattle.lens.specs.Judgement.{decided}
use Rattle.lens.specs.Refusal.{number}
use Rattle.lens.specs.Undistorted.{told}
use Rattle.lens.specs.Judgement.{Judgement}
use Rattle.lens.specs.declared.Refusal.{Refusal}
use Rattle.lens.specs.declared.Settled.{Settled}
use Rattle.lens.specs.Undistorted.{Undistorted}
use Rattle.region.specs.Region.{increments, wrong}
use Rattle.region.specs.declared.Region.{Region}
use Rattle.turns.specs.Turns.{Next, over, refuses, does}
use Rattle.border.specs.Edges.{doubled}
use Rattle.plans.specs.Plan.{Sweep, one_no, sampled, with_region, found, too_strict, closed, after_sample, swept}
use Rattle.plans.specs.declared.Progress.{Progress}

module _ (sweep : Sweep) (at : Progress) where
  pub sample_refused : (r : Refusal) → Err r ≡ found sweep at.done → refuses (number r) ≡ swept sweep at
  unfolding swept
  sample_refused r e = rw (← e) refl

  module _ (settled : Settled) (e : Ok settled ≡ found sweep at.done) where
    pub sample_strict : too_strict sweep settled ≡ true → refuses 18 ≡ swept sweep at
    unfolding swept
    sample_strict f = rw (← e, f) refl

    module _ (f : too_strict sweep settled ≡ false) where
      pub sample_done : at.done + 1 < sweep.samples → does (sampled at settled) ≡ swept sweep at
      unfolding swept
      sample_done h = rw (← e, f, lt-ltb (at.done + 1) sweep.samples h) refl

      pub sample_last : sweep.samples ≤ at.done + 1 → closed sweep.width sweep.height (sampled at settled) ≡ swept sweep at
      unfolding swept
      sample_last h = rw (← e, f, le-ltb (at.done + 1) sweep.samples h) refl

  -- a border unit raises the units done by one, the updates by those of its sample, and the unsettled ones by it if it is one
  pub record Counts (t : Progress) (u : Undistorted) : Type 0 where
    pub units : t.done ≡ at.done + 1
    pub updates : t.updates ≡ at.updates + (told u).settled.updates
    pub unsettled : t.unsettled ≡ at.unsettled + one_no (told u).settled.flag

  so : (q t : Progress) (settled : Settled) → q ≡ t → Counts q (Ok settled) → Counts t (Ok settled)
  so q t settled e c = subst (λ (x : Progress). Counts x (Ok settled)) e c

  one_more : (settled : Settled) (region : Region) → Counts (with_region (sampled at settled) region) (Ok settled)
  one_more settled region = record { units = refl; updates = refl; unsettled = refl }

  after_counts : (t : Progress) (u : Undistorted) → after_sample sweep at u ≡ does t → Counts t u
  after_counts t (Err r) e = let z : ◌≡◌ {A = ℕ} 0 1 = cc in absurd (omega arith)
  after_counts t (Ok settled) e = go (too_strict sweep settled) (ltb (at.done + 1) sweep.samples) (wrong (increments (doubled (sampled at settled).edges) sweep.width sweep.height)) e
    where
      go : (x b : Bool) (j : Judgement) → cond x (refuses 18) (cond b (does (sampled at settled)) (decided j (λ r. refuses (number r)) (does (with_region (sampled at settled) (doubled (sampled at settled).edges))))) ≡ does t → Counts t (Ok settled)
      go true b j e = let z : ◌≡◌ {A = ℕ} 0 1 = cc in absurd (omega arith)
      go false true j e = so (sampled at settled) t settled (cc) (one_more settled at.region)
      go false false (Ok _) e = so (with_region (sampled at settled) (doubled (sampled at settled).edges)) t settled (cc) (one_more settled (doubled (sampled at settled).edges))
      go false false (Err r) e = let z : ◌≡◌ {A = ℕ} 0 1 = cc in absurd (omega arith)

  pub swept_counts : (t : Progress) → swept sweep at ≡ does t → Counts t (found sweep at.done)
  unfolding swept
  swept_counts t e = after_counts t (found sweep at.done) e

  after_there : (u : Undistorted) → after_sample sweep at u ≡ over → ⊥
  after_there (Err r) e = let z : ◌≡◌ {A = ℕ} 0 1 = cc in omega arith
  after_there (Ok settled) e = go (too_strict sweep settled) (ltb (at.done + 1) sweep.samples) (wrong (increments (doubled (sampled at settled).edges) sweep.width sweep.height)) e
    where
      go : (x b : Bool) (j : Judgement) → cond x (refuses 18) (cond b (does (sampled at settled)) (decided j (λ r. refuses (number r)) (does (with_region (sampled at settled) (doubled (sampled at settled).edges))))) ≡ over → ⊥
      go true b j e = let z : ◌≡◌ {A = ℕ} 0 1 = cc in omega arith
      go false true j e = let z : ◌≡◌ {A = ℕ} 0 1 = cc in omega arith
      go false false (Ok _) e = let z : ◌≡◌ {A = ℕ} 0 1 = cc in omega arith
      go false false (Err r) e = let z : ◌≡◌ {A = ℕ} 0 1 = cc in omega arith

  pub swept_there : swept sweep at ≡ over → ⊥
  unfolding swept
  swept_there e = after_there (found sweep at.done) e
