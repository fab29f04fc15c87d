-- A border that leaves out samples whose pixel came before makes the same table. Assumes nothing.
use mathlib.Core.Path.{◌≡◌, refl, sym, ap, ap₂, ◌∙◌, subst}
use Rattle.std.specs.declared.result.Result.TheVariants.{Ok, Err}
use mathlib.Core.Bool.{Bool, true, false, cond}
use mathlib.Core.List.{List}
use Prim.Native.Nat.{ℕ, zero, suc, ◌+◌, ◌-◌, ◌*◌, ◌/◌, ◌%◌, ◌≤◌, ◌<◌}
use native.Mathlib.Omega.{arith}
use borrow.Author.Tests.{ltb-true, ltb-false, ne_eqb, eq-eqb, eqb-true, eqb-false}
use lib.Dec.{eqb, ltb}
use lib.Ieee.{of_bits}
use Rattle.lens.specs.Judgement.{verdict}
use Rattle.lens.specs.Undistorted.{told}
use Rattle.lens.specs.declared.Pixel.{Pixel}
use Rattle.lens.specs.declared.Point.{Point}
use Rattle.lens.specs.Undistorted.{Undistorted}
use Rattle.region.specs.Region.{increments, wrong}
use Rattle.region.specs.declared.Region.{Region}
use Rattle.border.specs.Edges.{widened, edges_after, doubled}
use Rattle.border.proofs.Finite.{Four, after_finite}
use Rattle.plans.specs.Plan.{Plan, State, all_units, found}
use Rattle.plans.specs.Built.{settled_at, edges_below, region_of, sample_number, content_number, content_at, doable, Built}
use Rattle.plans.specs.Calls.{Sound}
use Rattle.plans.specs.Thinned.{over_border, Thinned, start, same, again, refused_with, SameTable}
use Rattle.plans.proofs.Firsts.{or_else, first_from, first_same, first_more, first_again}
use Rattle.plans.proofs.Laws.{nowhere_finite, built_units, built_region}
use Rattle.plans.proofs.Refusals.{refusal_is, done_all, all_done, doable_most}
use Rattle.plans.proofs.Same.{same_cells}
use Rattle.plans.proofs.Inside.{Inside, FinitePoint, inside_same, after_inside, after_some, still_inside}

-- ---- the edges of one plan

module _ {X : Type 0} (p : Plan X) (sound : Sound p) where
  point_finite : (n : ℕ) → FinitePoint (settled_at p.sweep n).point
  unfolding of_bits
  point_finite n = go (found p.sweep n) refl
    where
      go : (u : Undistorted) → found p.sweep n ≡ u → FinitePoint (told u).settled.point
      go (Ok settled) e = sound.steady.points (p.sweep.pixel_at n) settled e
      go (Err r) e = (refl, refl)

  edges_finite : (n : ℕ) → Four (edges_below p.sweep n)
  unfolding edges_below
  edges_finite zero = nowhere_finite
  edges_finite (suc n) = let f = point_finite n in after_finite n (edges_below p.sweep n) (settled_at p.sweep n).point (edges_finite n) f.0 f.1

  -- every sample's point is inside the edges behind it
  inside : (n k : ℕ) → k < n → Inside (edges_below p.sweep n) (settled_at p.sweep k).point
  unfolding edges_below
  inside zero k h = absurd (omega (arith, h))
  inside (suc n) k h = go (ltb k n) refl (λ l. inside n k l)
    where
      go : (b : Bool) → ltb k n ≡ b → (k < n → Inside (edges_below p.sweep n) (settled_at p.sweep k).point) → Inside (edges_after n (edges_below p.sweep n) (settled_at p.sweep n).point) (settled_at p.sweep k).point
      go true e i =
          let l = ltb-true k n e in
          still_inside n (edges_below p.sweep n) (edges_finite n) (settled_at p.sweep k).point (settled_at p.sweep n).point (point_finite k) (point_finite n) (omega (arith, l)) (i l)
      go false e i =
          let q : n ≡ k = omega (arith, h, ltb-false k n e) in
          subst (λ (m : ℕ). Inside (edges_after n (edges_below p.sweep n) (settled_at p.sweep n).point) (settled_at p.sweep m).point) q (after_inside n (edges_below p.sweep n) (edges_finite n) (settled_at p.sweep n).point (point_finite n))

  edges_again : (n k : ℕ) → k < n → found p.sweep n ≡ found p.sweep k → edges_below p.sweep (suc n) ≡ edges_below p.sweep n
  unfolding edges_below
  edges_again n k h e =
      after_some n (edges_below p.sweep n) (edges_finite n) (settled_at p.sweep n).point (omega (arith, h))
      ∙ inside_same (edges_below p.sweep n) (settled_at p.sweep n).point (subst (λ (u : Undistorted). Inside (edges_below p.sweep n) (told u).settled.point) (sym e) (inside n k h))

-- ---- two plans, the second with a thinned border

module _ {X : Type 0} (p : Plan X) (sound : Sound p) (samples : ℕ) (pixel_at : ℕ → Pixel) where
  abbrev q : Plan X
  q = over_border p samples pixel_at

  pub record Thin (n m : ℕ) : Type 0 where
    pub nothing : m ≡ 0 → n ≡ 0
    pub fewer : m ≤ n
    pub edges : edges_below q.sweep m ≡ edges_below p.sweep n
    pub number : first_from (λ k. sample_number p.sweep (p.sweep.sample (pixel_at k))) 0 m ≡ first_from (λ k. sample_number p.sweep (found p.sweep k)) 0 n

  one_step : (n m : ℕ) (e : Region) (a : Point) → (m ≡ 0 → n ≡ 0) → m ≤ n → edges_after m e a ≡ edges_after n e a
  unfolding edges_after
  one_step n m e a z l = ap (λ (b : Bool). cond b record { left = a.0; top = a.1; right = a.0; bottom = a.1 } (widened e a)) (go (eqb m 0) refl)
    where
      go : (b : Bool) → eqb m 0 ≡ b → b ≡ eqb n 0
      go true h = sym (eq-eqb n 0 (z (eqb-true m 0 h)))
      go false h = sym (ne_eqb n 0 (λ w. eqb-false m 0 h (omega (arith, l, w))))

  thin : (n m : ℕ) → Thinned p.sweep.pixel_at pixel_at n m → Thin n m
  unfolding edges_below first_from
  thin n m start = record { nothing = λ e. refl; fewer = omega arith; edges = refl; number = refl }
  thin n m (same k j t e) =
      let i = thin k j t in
      let f : p.sweep.sample (pixel_at j) ≡ found p.sweep k = ap p.sweep.sample (sym e) in
      record {
        nothing = λ z. absurd (omega (arith, z));
        fewer = omega (arith, i.fewer);
        edges = one_step k j (edges_below q.sweep j) (told (p.sweep.sample (pixel_at j))).settled.point i.nothing i.fewer ∙ ap₂ (λ (r : Region) (u : Undistorted). edges_after k r (told u).settled.point) i.edges f;
        number = first_more (λ k. sample_number p.sweep (p.sweep.sample (pixel_at k))) j ∙ ap₂ or_else i.number (ap (sample_number p.sweep) f) ∙ sym (first_more (λ k. sample_number p.sweep (found p.sweep k)) k);
      }
  thin n m (again k j i t l e) =
      let h = thin k j t in
      let f : found p.sweep k ≡ found p.sweep i = ap p.sweep.sample e in
      record {
        nothing = λ z. absurd (omega (arith, h.nothing z, l));
        fewer = omega (arith, h.fewer);
        edges = h.edges ∙ sym (edges_again p sound k i l f);
        number = h.number ∙ sym (first_again (λ k. sample_number p.sweep (found p.sweep k)) k i l (ap (sample_number p.sweep) f));
      }

  module _ (some : 0 < samples) (t : Thinned p.sweep.pixel_at pixel_at p.sweep.samples samples) where
    all_thin : Thin p.sweep.samples samples
    all_thin = thin p.sweep.samples samples t

    same_region : region_of q.sweep ≡ region_of p.sweep
    same_region = ap doubled all_thin.edges

    same_content : (c : ℕ) → content_at q c ≡ content_at p c
    same_content c = ap (λ (r : Region). p.cell r (c % p.sweep.width) (c / p.sweep.width)) same_region

    same_number : (u : Undistorted) → sample_number q.sweep u ≡ sample_number p.sweep u
    same_number (Ok settled) = refl
    same_number (Err r) = refl

    same_refusal : refused_with q ≡ refused_with p
    same_refusal =
        refusal_is q some
        ∙ ap₂ or_else
        (first_same (λ k. sample_number q.sweep (p.sweep.sample (pixel_at k))) (λ k. sample_number p.sweep (p.sweep.sample (pixel_at k))) samples 0 0 (λ i l. same_number (p.sweep.sample (pixel_at (0 + i)))) ∙ all_thin.number)
        (ap₂ or_else (ap (λ (r : Region). verdict (wrong (increments r p.sweep.width p.sweep.height))) same_region)
        (first_same (λ c. content_number (content_at q c)) (λ c. content_number (content_at p c)) (p.sweep.width * p.sweep.height) 0 0
        (λ i l. ap content_number (same_content (0 + i)))))
        ∙ sym (refusal_is p (omega (arith, some, all_thin.fewer)))

    -- ---- two builds that are done

    module _ (table : List X) (A B : ℕ) (s u : State X) (b : Built p table A s) (c : Built q table B u) (all : s.at.done ≡ all_units p.sweep) (enough : all_units q.sweep ≤ B) where
      finished_too : u.at.done ≡ all_units q.sweep
      finished_too =
          let f : doable p ≡ all_units p.sweep = omega (arith, built_units p table A s b, all, doable_most p) in
          let g = done_all q (same_refusal ∙ all_done p f) in
          omega (arith, built_units q table B u c, g, enough)

      their_region : u.at.region ≡ s.at.region
      their_region = built_region q table B u c (omega (arith, finished_too)) ∙ same_region ∙ sym (built_region p table A s b (omega (arith, all)))

      their_cells : u.cells ≡ s.cells
      their_cells = same_cells q p same_content table B A u s c b (omega (arith, all, finished_too))

    -- A border that leaves out samples whose pixel came before makes the same table, or is refused with the same number.
    pub same_table : SameTable p q
    same_table = record {
      region = same_region;
      cells = same_content;
      refusal = same_refusal;
      finished = λ table A B s u b c all enough. (finished_too table A B s u b c all enough, their_region table A B s u b c all enough, their_cells table A B s u b c all enough);
    }
