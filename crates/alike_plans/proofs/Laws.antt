-- What a caller may rely on: a table built with samples that are alike is the same table, bit by bit. Assumes nothing.
use mathlib.Core.Path.{◌≡◌, refl, sym, ap, ◌∙◌, subst}
use mathlib.Core.Bool.{Bool, true, false, cond}
use mathlib.Core.List.{List}
use Prim.Native.Nat.{ℕ, ◌+◌, ◌-◌, ◌≤◌, ◌<◌, min}
use native.Mathlib.Omega.{arith}
use borrow.Author.Tests.{ltb-false}
use lib.Dec.{ltb, eqb}
use Rattle.lens.specs.declared.Pixel.{Pixel}
use Rattle.lens.specs.Undistorted.{Undistorted}
use Rattle.region.specs.declared.Region.{Region}
use Rattle.turns.specs.Turns.{finished, refused, running}
use Rattle.plans.specs.Plan.{Content, Plan, State, one_no, nowhere, all_units}
use Rattle.plans.specs.Built.{sum_below, first_no, settled_at, region_of, progress_of, content_at, doable, says_at, Built}
use Rattle.plans.specs.declared.Progress.{Progress}
use Rattle.alike_plans.specs.AlikePlans.{AlikeFound, AlikeProgress, BuiltAlike, built_by}
use Rattle.alike_plans.proofs.Units.{edges_alike, updates_same, unsettled_same, first_same, region_one, contents_same, units_same, doable_same, done_doable}

-- A plan, and other samples and cells: each sample alike, each cell the same in every region.
module _
    {X : Type 0} (p : Plan X) (sample : Pixel → Undistorted) (cell : Region → ℕ → ℕ → Content X)
    (samples-alike : (pixel : Pixel) → AlikeFound (sample pixel) (p.sweep.sample pixel))
    (cells_same : (region : Region) (u v : ℕ) → cell region u v ≡ p.cell region u v)
  where
    abbrev q : Plan X
    q = built_by p sample cell

    -- Both can do as many units.
    pub as_many : doable q ≡ doable p
    as_many = doable_same p sample cell samples-alike cells_same

    -- Of as many units as can be done, the records are alike: the sign of a zero may differ in an edge, and in nothing else, the region among it.
    pub records_alike : (n : ℕ) → n ≤ doable p → AlikeProgress (progress_of q.sweep n) (progress_of p.sweep n)
    unfolding progress_of
    records_alike n l = record {
      done = refl;
      edges = edges_alike p.sweep sample samples-alike (min n p.sweep.samples);
      region = go (ltb n p.sweep.samples) refl;
      updates = updates_same p.sweep sample samples-alike (min n p.sweep.samples);
      unsettled = unsettled_same p.sweep sample samples-alike (min n p.sweep.samples);
      first = first_same p.sweep sample samples-alike (min n p.sweep.samples);
    }
      where
        go : (b : Bool) → ltb n p.sweep.samples ≡ b → cond b nowhere (region_of q.sweep) ≡ cond b nowhere (region_of p.sweep)
        go true t = refl
        go false t =
            region_one p sample cell samples-alike cells_same n (ltb-false n p.sweep.samples t)
            (λ m k. done_doable p sample cell samples-alike cells_same m (omega (arith, k, l, as_many)))

    -- What a turn says is the same.
    pub says_same : (from allowance n : ℕ) → n ≤ doable p → says_at q from allowance n ≡ says_at p from allowance n
    unfolding says_at
    says_same from allowance n l =
        ap
        (λ (r : ℕ). cond (eqb n (all_units p.sweep)) finished (cond (eqb r 0) running (cond (ltb n (from + allowance)) (refused r) running)))
        (units_same p sample cell samples-alike cells_same n
        (λ m k. done_doable p sample cell samples-alike cells_same m (omega (arith, k, l, as_many))))

    -- The table of a build by the other plan is one that a build by the first owes, bit by bit, finished or not; the records are alike.
    pub table_same : (cells : List X) (A : ℕ) (s : State X) → Built q cells A s → BuiltAlike p cells A s
    table_same cells A s b = record {
      alike = subst (λ (r : Progress). AlikeProgress r (progress_of p.sweep n)) (sym at_same) (records_alike n (omega arith));
      built = record {
        progress = refl;
        as_long = b.as_long;
        cells_hold = λ c d l. sym (contents c (omega (arith, done_first, l))) ∙ b.cells_hold c d (omega (arith, done_same, done_first, l));
        untouched = λ k d l. b.untouched k d (omega (arith, done_same, done_first, l));
      };
    }
      where
        n : ℕ
        n = min A (doable p)

        at_same : s.at ≡ progress_of q.sweep n
        at_same = b.progress ∙ ap (λ (d : ℕ). progress_of q.sweep (min A d)) as_many

        done_first : (progress_of p.sweep n).done ≡ n
        done_first = unfold progress_of in refl

        done_same : s.at.done ≡ n
        done_same = ap (λ (r : Progress). r.done) at_same ∙ unfold progress_of in refl

        contents : (c : ℕ) → c < n - p.sweep.samples → content_at q c ≡ content_at p c
        contents c l =
            contents_same p sample cell samples-alike cells_same
            (region_one p sample cell samples-alike cells_same n (omega (arith, l))
            (λ m k. done_doable p sample cell samples-alike cells_same m (omega (arith, k, as_many))))
            c

-- ---- what is read off the record of such a build

module _ {X : Type 0} (p : Plan X) (cells : List X) (A : ℕ) (s : State X) (b : BuiltAlike p cells A s) where
  -- As many units are done as are allowed, up to the first that the plan refuses,
  pub alike_units : s.at.done ≡ min A (doable p)
  unfolding progress_of
  alike_units = b.alike.done

  over_done : (f : ℕ → ℕ) → f (min (min A (doable p)) p.sweep.samples) ≡ f (min s.at.done p.sweep.samples)
  over_done f = ap (λ (n : ℕ). f (min n p.sweep.samples)) (sym alike_units)

  -- the updates are the sum of the plan's own over the border samples done,
  pub alike_updates : s.at.updates ≡ sum_below (λ k. (settled_at p.sweep k).updates) (min s.at.done p.sweep.samples)
  unfolding progress_of
  alike_updates = b.alike.updates ∙ over_done (sum_below (λ k. (settled_at p.sweep k).updates))

  -- and so are the count of those that didn't settle and the first of them,
  pub alike_unsettled : s.at.unsettled ≡ sum_below (λ k. one_no (settled_at p.sweep k).flag) (min s.at.done p.sweep.samples)
  unfolding progress_of
  alike_unsettled = b.alike.unsettled ∙ over_done (sum_below (λ k. one_no (settled_at p.sweep k).flag))

  pub alike_first : s.at.first ≡ first_no (λ k. (settled_at p.sweep k).flag) (min s.at.done p.sweep.samples)
  unfolding progress_of
  alike_first = b.alike.first ∙ over_done (first_no (λ k. (settled_at p.sweep k).flag))
