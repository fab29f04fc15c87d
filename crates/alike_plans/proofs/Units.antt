-- Unit by unit: both plans refuse with the same numbers up to the first that either refuses, and count the same. Assumes nothing.
use mathlib.Core.Path.{◌≡◌, refl, ap, ap₂, ◌∙◌}
use Rattle.std.specs.declared.result.Result.TheVariants.{Ok, Err}
use mathlib.Core.Bool.{Bool, true, false, cond, not, ◌&&◌, true≢false}
use Prim.Native.Nat.{ℕ, zero, suc, ◌+◌, ◌-◌, ◌≤◌, ◌<◌}
use native.Mathlib.Omega.{arith}
use borrow.Author.Tests.{eqb-true, ltb-true, ltb-false, lt-ltb, le-ltb}
use lib.Dec.{eqb, ltb, eqb-suc-zero}
use Rattle.exact.proofs.Alike.{≐-refl}
use Rattle.lens.specs.Judgement.{verdict, accepted}
use Rattle.lens.specs.Refusal.{number}
use Rattle.lens.specs.Undistorted.{told}
use Rattle.lens.specs.Judgement.{Judgement}
use Rattle.lens.specs.declared.Pixel.{Pixel}
use Rattle.lens.specs.declared.Refusal.TheVariants.{SampleUnsettled}
use Rattle.lens.specs.Undistorted.{Undistorted}
use Rattle.lens.proofs.Laws.{verdict_one_to_one}
use Rattle.lens.specs.Alike.{AlikeSettled}
use Rattle.region.specs.Region.{increments, wrong}
use Rattle.region.specs.declared.Region.{Region}
use Rattle.plans.specs.Plan.{Content, Sweep, Plan, one_no, all_units, found, cell_in}
use Rattle.plans.specs.Built.{sum_below, first_no, before_refused, settled_at, edges_below, region_of, sample_number, border_number, content_number, content_at, unit_number, doable}
use Rattle.alike_plans.specs.AlikePlans.{AlikeFound, AlikeRegions, sampled_by, built_by}
use Rattle.alike_plans.proofs.Edges.{edges_kept, increments_refused_alike, region_is_one}

-- ---- of any numbers and flags

sums_same : (f g : ℕ → ℕ) → ((n : ℕ) → f n ≡ g n) → (n : ℕ) → sum_below f n ≡ sum_below g n
unfolding sum_below
sums_same f g h zero = refl
sums_same f g h (suc n) = ap₂ (λ (a b : ℕ). a + b) (sums_same f g h n) (h n)

firsts_same : (f g : ℕ → Bool) → ((n : ℕ) → f n ≡ g n) → (n : ℕ) → first_no f n ≡ first_no g n
unfolding first_no
firsts_same f g h zero = refl
firsts_same f g h (suc n) = rw (firsts_same f g h n, h n) refl

-- numbers that agree wherever all before are 0 have as many before the first that isn't
module _ (f g : ℕ → ℕ) (step : (n : ℕ) → ((m : ℕ) → m < n → f m ≡ 0) → f n ≡ g n) where
  abbrev Done : ℕ → Type 0
  Done n = (m : ℕ) → m < n → f m ≡ 0

  one_further : (n : ℕ) → Done n → f n ≡ 0 → Done (suc n)
  one_further n h e m l = go (ltb m n) refl
    where
      go : (b : Bool) → ltb m n ≡ b → f m ≡ 0
      go true t = h m (ltb-true m n t)
      go false t = let i : m ≡ n = omega (arith, ltb-false m n t, l) in ap f i ∙ e

  refused_same : (n k : ℕ) → Done n → before_refused f n k ≡ before_refused g n k
  unfolding before_refused
  refused_same n zero h = refl
  refused_same n (suc k) h = go (eqb (f n) 0) refl (λ t. refused_same (suc n) k (one_further n h t)) ∙ ap (λ (x : ℕ). cond (eqb x 0) (suc (before_refused g (suc n) k)) 0) (step n h)
    where
      go :
          (b : Bool) → eqb (f n) 0 ≡ b → (f n ≡ 0 → before_refused f (suc n) k ≡ before_refused g (suc n) k)
          → cond b (suc (before_refused f (suc n) k)) 0 ≡ cond b (suc (before_refused g (suc n) k)) 0
      go true t r = ap suc (r (eqb-true (f n) 0 t))
      go false t r = refl

  -- and those before it are 0
  done_before : (n k : ℕ) → Done n → Done (n + before_refused f n k)
  unfolding before_refused
  done_before n zero h = λ m l. h m (omega (arith, l))
  done_before n (suc k) h = go (eqb (f n) 0) refl (λ t. done_before (suc n) k (one_further n h t))
    where
      go : (b : Bool) → eqb (f n) 0 ≡ b → (f n ≡ 0 → Done (suc n + before_refused f (suc n) k)) → Done (n + cond b (suc (before_refused f (suc n) k)) 0)
      go true t r m l = r (eqb-true (f n) 0 t) m (omega (arith, l))
      go false t r m l = h m (omega (arith, l))

-- ---- samples

told_alike : (u v : Undistorted) → AlikeFound u v → AlikeSettled (told u).settled (told v).settled
told_alike (Ok a) (Ok b) h = h
told_alike (Ok a) (Err s) h = absurd h
told_alike (Err r) (Ok b) h = absurd h
told_alike (Err r) (Err s) h = record { point = record { x = ≐-refl; y = ≐-refl }; updates = refl; flag = refl }

module _ (sweep : Sweep) (sample : Pixel → Undistorted) (h : (pixel : Pixel) → AlikeFound (sample pixel) (sweep.sample pixel)) where
  abbrev other : Sweep
  other = sampled_by sweep sample

  settled_alike : (n : ℕ) → AlikeSettled (settled_at other n) (settled_at sweep n)
  settled_alike n = told_alike (found other n) (found sweep n) (h (sweep.pixel_at n))

  pub edges_alike : (n : ℕ) → AlikeRegions (edges_below other n) (edges_below sweep n)
  unfolding edges_below
  edges_alike zero = record { left = ≐-refl; top = ≐-refl; right = ≐-refl; bottom = ≐-refl }
  edges_alike (suc n) = edges_kept n (edges_below other n) (edges_below sweep n) (settled_at other n).point (settled_at sweep n).point (edges_alike n) (settled_alike n).point

  pub updates_same : (n : ℕ) → sum_below (λ k. (settled_at other k).updates) n ≡ sum_below (λ k. (settled_at sweep k).updates) n
  updates_same = sums_same (λ k. (settled_at other k).updates) (λ k. (settled_at sweep k).updates) (λ k. (settled_alike k).updates)

  pub unsettled_same : (n : ℕ) → sum_below (λ k. one_no (settled_at other k).flag) n ≡ sum_below (λ k. one_no (settled_at sweep k).flag) n
  unsettled_same = sums_same (λ k. one_no (settled_at other k).flag) (λ k. one_no (settled_at sweep k).flag) (λ k. ap one_no (settled_alike k).flag)

  pub first_same : (n : ℕ) → first_no (λ k. (settled_at other k).flag) n ≡ first_no (λ k. (settled_at sweep k).flag) n
  first_same = firsts_same (λ k. (settled_at other k).flag) (λ k. (settled_at sweep k).flag) (λ k. (settled_alike k).flag)

  number_same : (u v : Undistorted) → AlikeFound u v → sample_number other u ≡ sample_number sweep v
  number_same (Ok a) (Ok b) k = ap (λ (f : Bool). cond (sweep.strict && not f) (number SampleUnsettled) 0) k.flag
  number_same (Ok a) (Err s) k = absurd k
  number_same (Err r) (Ok b) k = absurd k
  number_same (Err r) (Err s) k = ap number k

  judged_same : wrong (increments (region_of other) sweep.width sweep.height) ≡ wrong (increments (region_of sweep) sweep.width sweep.height)
  judged_same = increments_refused_alike sweep.width sweep.height (edges_below other sweep.samples) (edges_below sweep sweep.samples) (edges_alike sweep.samples)

  border_same : (n : ℕ) → border_number other n ≡ border_number sweep n
  border_same n = rw (number_same (found other n) (found sweep n) (h (sweep.pixel_at n)), judged_same) refl

  -- where the last sample isn't refused, or there is none, the two regions are one
  pub region_same : (0 < sweep.samples → border_number other (sweep.samples - 1) ≡ 0) → region_of other ≡ region_of sweep
  region_same e = go (ltb 0 sweep.samples) refl
    where
      judged : Judgement
      judged = wrong (increments (region_of other) sweep.width sweep.height)

      taken : verdict judged ≡ 0 → judged ≡ accepted
      taken e = verdict_one_to_one judged accepted e

      at_last : (n : ℕ) (l : Bool) → l ≡ false → cond (eqb n 0) (cond l 0 (verdict judged)) n ≡ 0 → judged ≡ accepted
      at_last zero true q e = absurd (true≢false q)
      at_last zero false q e = taken e
      at_last (suc n) l q e = let z : suc n ≡ 0 = rw (eqb-suc-zero n) at e in absurd (omega (arith, z))

      go : (b : Bool) → ltb 0 sweep.samples ≡ b → region_of other ≡ region_of sweep
      go true t =
          let some = ltb-true 0 sweep.samples t in
          region_is_one sweep.width sweep.height (edges_below other sweep.samples) (edges_below sweep sweep.samples) (edges_alike sweep.samples)
          (at_last (sample_number other (found other (sweep.samples - 1))) (ltb (sweep.samples - 1 + 1) sweep.samples) (le-ltb (sweep.samples - 1 + 1) sweep.samples (omega (arith, some))) (e some))
      go false t = let z : sweep.samples ≡ 0 = omega (arith, ltb-false 0 sweep.samples t) in rw (z) (unfold edges_below in refl)

-- ---- units

module _ {X : Type 0} (p : Plan X) (sample : Pixel → Undistorted) (cell : Region → ℕ → ℕ → Content X) (h : (pixel : Pixel) → AlikeFound (sample pixel) (p.sweep.sample pixel)) (c : (region : Region) (u v : ℕ) → cell region u v ≡ p.cell region u v) where
  abbrev q : Plan X
  q = built_by p sample cell

  abbrev All_done : ℕ → Type 0
  All_done n = (m : ℕ) → m < n → unit_number q m ≡ 0

  -- behind the border
  pub region_one : (n : ℕ) → p.sweep.samples ≤ n → All_done n → region_of q.sweep ≡ region_of p.sweep
  unfolding unit_number
  region_one n l d = region_same p.sweep sample h λ some. rw (lt-ltb (p.sweep.samples - 1) p.sweep.samples (omega (arith, some))) at (d (p.sweep.samples - 1) (omega (arith, some, l)))

  pub contents_same : region_of q.sweep ≡ region_of p.sweep → (k : ℕ) → content_at q k ≡ content_at p k
  contents_same e k = ap (λ (r : Region). cell_in q r k) e ∙ c (region_of p.sweep) _ _

  pub units_same : (n : ℕ) → All_done n → unit_number q n ≡ unit_number p n
  unfolding unit_number
  units_same n d = go (ltb n p.sweep.samples) refl
    where
      go :
          (b : Bool) → ltb n p.sweep.samples ≡ b
          → cond b (border_number q.sweep n) (content_number (content_at q (n - p.sweep.samples))) ≡ cond b (border_number p.sweep n) (content_number (content_at p (n - p.sweep.samples)))
      go true t = border_same p.sweep sample h n
      go false t = ap (λ (x : Content X). content_number x) (contents_same (region_one n (ltb-false n p.sweep.samples t) d) (n - p.sweep.samples))

  pub doable_same : doable q ≡ doable p
  doable_same = refused_same (unit_number q) (unit_number p) units_same 0 (all_units p.sweep) (λ m l. absurd (omega (arith, l)))

  pub done_doable : All_done (doable q)
  done_doable m l = done_before (unit_number q) (unit_number p) units_same 0 (all_units p.sweep) (λ m l. absurd (omega (arith, l))) m (omega (arith, l))
