-- What every unit of a build keeps: its record is the definition's of as many units; and which number it is refused with. Assumes nothing.
use mathlib.Core.Path.{◌≡◌, refl, sym, ap, ap₂, ◌∙◌, subst}
use Rattle.std.specs.declared.result.Result.TheVariants.{Ok}
use mathlib.Core.Bool.{Bool, true, false, cond}
use Prim.Native.Nat.{ℕ, zero, suc, ◌+◌, ◌-◌, ◌/◌, ◌%◌, ◌≤◌, ◌<◌, min}
use native.Mathlib.Numerals.{add-one}
use native.Mathlib.Omega.{arith}
use borrow.Author.Tests.{ltb-true, ltb-false, lt-ltb, le-ltb}
use lib.Dec.{ltb}
use Rattle.lens.specs.Undistorted.{told}
use Rattle.lens.specs.declared.Settled.{Settled}
use Rattle.lens.specs.Undistorted.{Undistorted}
use Rattle.turns.specs.Turns.{turn}
use Rattle.turns.proofs.Laws as any
use Rattle.border.specs.Edges.{doubled}
use Rattle.plans.specs.Plan.{Plan, State, nowhere, one_no, sampled, with_region, with_done, found, next}
use Rattle.plans.specs.declared.Progress.{Progress}
use Rattle.plans.specs.Built.{sum_below, first_no, settled_at, edges_below, region_of, progress_of}
use Rattle.plans.proofs.Done.{Done, a_sample, the_last, a_cell, unit_done}

module _ {X : Type 0} (p : Plan X) where
  -- the definition's record of n units, with m samples behind it
  abbrev counted : ℕ → ℕ → Bool → Progress
  counted n m before = record {
    done = n;
    edges = edges_below p.sweep m;
    region = cond before nowhere (region_of p.sweep);
    updates = sum_below (λ k. (settled_at p.sweep k).updates) m;
    unsettled = sum_below (λ k. one_no (settled_at p.sweep k).flag) m;
    first = first_no (λ k. (settled_at p.sweep k).flag) m;
  }

  as_counted : (n m : ℕ) (before : Bool) → min n p.sweep.samples ≡ m → ltb n p.sweep.samples ≡ before → progress_of p.sweep n ≡ counted n m before
  unfolding progress_of
  as_counted n m before e f = ap₂ (λ (m : ℕ) (b : Bool). counted n m b) e f

  -- one more sample
  sampled_is : (n : ℕ) (before : Bool) (settled : Settled) → found p.sweep n ≡ Ok settled → sampled (counted n n before) settled ≡ counted (n + 1) (suc n) before
  unfolding sum_below first_no edges_below
  sampled_is n before settled e =
      let f : settled ≡ settled_at p.sweep n = sym (ap (λ (u : Undistorted). (told u).settled) e) in
      ap (sampled (counted n n before)) f ∙ rw add-one refl

  module _ (n : ℕ) (settled : Settled) (e : found p.sweep n ≡ Ok settled) where
    pub next_sample : n + 1 < p.sweep.samples → sampled (progress_of p.sweep n) settled ≡ progress_of p.sweep (n + 1)
    next_sample h =
        ap (λ (at : Progress). sampled at settled) (as_counted n n true (omega (arith, h)) (lt-ltb n p.sweep.samples (omega (arith, h))))
        ∙ sampled_is n true settled e
        ∙ sym (as_counted (n + 1) (suc n) true (omega (arith, h)) (lt-ltb (n + 1) p.sweep.samples h))

    -- the edges behind the last one are those of the region
    pub last_edges : n + 1 ≡ p.sweep.samples → (sampled (progress_of p.sweep n) settled).edges ≡ edges_below p.sweep p.sweep.samples
    last_edges h =
        let m : suc n ≡ p.sweep.samples = omega (arith, h) in
        ap (λ (at : Progress). (sampled at settled).edges) (as_counted n n true (omega (arith, h)) (lt-ltb n p.sweep.samples (omega (arith, h))))
        ∙ ap (λ (at : Progress). at.edges) (sampled_is n true settled e)
        ∙ ap (edges_below p.sweep) m

    pub last_sample : n + 1 ≡ p.sweep.samples → with_region (sampled (progress_of p.sweep n) settled) (doubled (sampled (progress_of p.sweep n) settled).edges) ≡ progress_of p.sweep (n + 1)
    last_sample h =
        ap (λ (at : Progress). with_region (sampled at settled) (doubled (sampled (progress_of p.sweep n) settled).edges)) (as_counted n n true (omega (arith, h)) (lt-ltb n p.sweep.samples (omega (arith, h))))
        ∙ ap₂ (λ (at : Progress) (r : _). with_region at r) (sampled_is n true settled e) (ap doubled (last_edges h))
        ∙ sym (as_counted (n + 1) (suc n) false (omega (arith, h)) (le-ltb (n + 1) p.sweep.samples (omega (arith, h))))

  pub next_cell : (n : ℕ) → p.sweep.samples ≤ n → with_done (progress_of p.sweep n) ((progress_of p.sweep n).done + 1) ≡ progress_of p.sweep (n + 1)
  next_cell n h =
      ap (λ (at : Progress). with_done at (at.done + 1)) (as_counted n p.sweep.samples false (omega (arith, h)) (le-ltb n p.sweep.samples h))
      ∙ sym (as_counted (n + 1) p.sweep.samples false (omega (arith, h)) (le-ltb (n + 1) p.sweep.samples (omega (arith, h))))

  pub region_is : (n : ℕ) → p.sweep.samples ≤ n → (progress_of p.sweep n).region ≡ region_of p.sweep
  region_is n h = ap (λ (at : Progress). at.region) (as_counted n p.sweep.samples false (omega (arith, h)) (le-ltb n p.sweep.samples h))

  -- ---- along a build

  abbrev pub Along : Progress → Type 0
  Along at = at ≡ progress_of p.sweep at.done

  pub along_on : (s t : State X) → Along s.at → Done p s t → Along t.at
  along_on s t h (a_sample settled under e f g) =
      let n = s.at.done in
      subst (λ (x : State X). Along x.at) (sym g) (ap (λ (at : Progress). sampled at settled) h ∙ next_sample n settled e under)
  along_on s t h (the_last settled under e f w g) =
      let n = s.at.done in
      subst (λ (x : State X). Along x.at) (sym g) (ap (λ (at : Progress). with_region (sampled at settled) (doubled (sampled at settled).edges)) h ∙ last_sample n settled e under)
  along_on s t h (a_cell past some a b e g) = subst (λ (x : State X). Along x.at) (sym g) (ap (λ (at : Progress). with_done at (at.done + 1)) h ∙ next_cell s.at.done past)

  pub turn_along : (a : ℕ) (s : State X) → Along s.at → Along (turn (next p) a s).state.at
  turn_along = any.keeps (next p) (λ (s : State X). Along s.at) (λ s t h e. along_on s t h (unit_done p s t e))
