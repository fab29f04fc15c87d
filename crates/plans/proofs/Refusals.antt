-- The number that a whole build is refused with: a sample's, or else that of the increments, or else a cell's. Assumes nothing.
use mathlib.Core.Path.{◌≡◌, refl, sym, ap, ap₂, ◌∙◌}
use mathlib.Core.Bool.{Bool, true, false, cond}
use Prim.Native.Nat.{ℕ, suc, ◌+◌, ◌-◌, ◌*◌, ◌≤◌, ◌<◌, min}
use native.Mathlib.Omega.{arith}
use borrow.Author.Tests.{ltb-true, lt-ltb, le-ltb, ne_eqb, eqb-false}
use lib.Dec.{eqb, ltb}
use Rattle.lens.specs.Judgement.{verdict}
use Rattle.region.specs.Region.{increments, wrong}
use Rattle.turns.specs.Turns.{finished, refused, running}
use Rattle.plans.specs.Plan.{Plan, all_units, found}
use Rattle.plans.specs.Built.{region_of, sample_number, content_number, content_at, unit_number, doable, says_at}
use Rattle.plans.specs.Thinned.{refused_with}
use Rattle.plans.proofs.Firsts.{or_else, or_zero, or_assoc, first_from, stops_at, first_split, first_same, first_more, none_stops}

module _ {X : Type 0} (p : Plan X) where
  abbrev pub sample_numbers : ℕ → ℕ
  sample_numbers n = sample_number p.sweep (found p.sweep n)

  abbrev pub cell_numbers : ℕ → ℕ
  cell_numbers c = content_number (content_at p c)

  abbrev region_verdict : ℕ
  region_verdict = verdict (wrong (increments (region_of p.sweep) p.sweep.width p.sweep.height))

  in_border : (n : ℕ) → n + 1 < p.sweep.samples → unit_number p n ≡ sample_numbers n
  unfolding unit_number
  in_border n h = rw (lt-ltb n p.sweep.samples (omega (arith, h)), lt-ltb (n + 1) p.sweep.samples h) (or_zero (sample_numbers n))

  at_last : (n : ℕ) → n + 1 ≡ p.sweep.samples → unit_number p n ≡ or_else (sample_numbers n) region_verdict
  unfolding unit_number
  at_last n h = rw (lt-ltb n p.sweep.samples (omega (arith, h)), le-ltb (n + 1) p.sweep.samples (omega (arith, h))) refl

  in_cells : (c : ℕ) → unit_number p (p.sweep.samples + c) ≡ cell_numbers c
  unfolding unit_number
  in_cells c = let e : p.sweep.samples + c - p.sweep.samples ≡ c = omega arith in rw (le-ltb (p.sweep.samples + c) p.sweep.samples (omega arith), e) refl

  pub refusal_is : 0 < p.sweep.samples → refused_with p ≡ or_else (first_from sample_numbers 0 p.sweep.samples) (or_else region_verdict (first_from cell_numbers 0 (p.sweep.width * p.sweep.height)))
  refusal_is some =
      let n = p.sweep.samples - 1 in
      let last : n + 1 ≡ p.sweep.samples = omega (arith, some) in
      let whole : suc n ≡ p.sweep.samples = omega (arith, some) in
      let zero_first : 0 + doable p ≡ doable p = omega arith in
      let from : 0 + p.sweep.samples ≡ p.sweep.samples = omega arith in
      let area = p.sweep.width * p.sweep.height in
      let border : first_from (unit_number p) 0 p.sweep.samples ≡ or_else (first_from sample_numbers 0 p.sweep.samples) region_verdict =
      ap (first_from (unit_number p) 0) (sym whole) ∙ first_more (unit_number p) n
      ∙ ap₂ or_else (first_same (unit_number p) sample_numbers n 0 0 (λ i l. in_border (0 + i) (omega (arith, l, last)))) (at_last n last)
      ∙ sym (or_assoc (first_from sample_numbers 0 n) (sample_numbers n) region_verdict)
      ∙ ap (λ (x : ℕ). or_else x region_verdict) (sym (first_more sample_numbers n) ∙ ap (first_from sample_numbers 0) whole) in
      ap (λ (m : ℕ). cond (ltb (doable p) (all_units p.sweep)) (unit_number p m) 0) (sym zero_first)
      ∙ (stops_at (unit_number p) 0 (all_units p.sweep)).1
      ∙ first_split (unit_number p) p.sweep.samples 0 area
      ∙ ap₂ or_else border (ap (λ (m : ℕ). first_from (unit_number p) m area) from ∙ first_same (unit_number p) cell_numbers area p.sweep.samples 0 (λ i l. in_cells i ∙ ap cell_numbers (omega arith)))
      ∙ or_assoc (first_from sample_numbers 0 p.sweep.samples) region_verdict (first_from cell_numbers 0 area)

  -- finished exactly where nothing is refused
  pub done_all : refused_with p ≡ 0 → doable p ≡ all_units p.sweep
  done_all h =
      let zero_first : 0 + doable p ≡ doable p = omega arith in
      none_stops (unit_number p) (all_units p.sweep) 0 (sym (stops_at (unit_number p) 0 (all_units p.sweep)).1 ∙ ap (λ (m : ℕ). cond (ltb (doable p) (all_units p.sweep)) (unit_number p m) 0) zero_first ∙ h)

  pub all_done : doable p ≡ all_units p.sweep → refused_with p ≡ 0
  all_done h = rw (le-ltb (doable p) (all_units p.sweep) (omega (arith, h))) refl

  -- ---- and what a turn says

  pub doable_most : doable p ≤ all_units p.sweep
  doable_most = (stops_at (unit_number p) 0 (all_units p.sweep)).0

  -- a turn from nothing that is refused, is with that number
  pub refused_told : (n d r : ℕ) → d ≡ min n (doable p) → says_at p 0 n d ≡ refused r → (refused_with p ≡ r) × (r ≡ 0 → ⊥)
  unfolding says_at
  refused_told n d r e = go (eqb d (all_units p.sweep)) refl (eqb (unit_number p d) 0) refl (ltb d (0 + n)) refl
    where
      go :
          (x : Bool) → eqb d (all_units p.sweep) ≡ x → (y : Bool) → eqb (unit_number p d) 0 ≡ y → (z : Bool) → ltb d (0 + n) ≡ z
          → cond x finished (cond y running (cond z (refused (unit_number p d)) running)) ≡ refused r → (refused_with p ≡ r) × (r ≡ 0 → ⊥)
      go true a y b z c k = let w : ◌≡◌ {A = ℕ} 0 1 = cc in absurd (omega arith)
      go false a true b z c k = let w : ◌≡◌ {A = ℕ} 0 1 = cc in absurd (omega arith)
      go false a false b false c k = let w : ◌≡◌ {A = ℕ} 0 1 = cc in absurd (omega arith)
      go false a false b true c k =
          let q : unit_number p d ≡ r = cc in
          let s : d ≡ doable p = omega (arith, e, ltb-true d (0 + n) c) in
          let l : doable p < all_units p.sweep = omega (arith, s, doable_most, eqb-false d (all_units p.sweep) a) in
          (rw (lt-ltb (doable p) (all_units p.sweep) l) (ap (unit_number p) (sym s) ∙ q), λ z. eqb-false (unit_number p d) 0 b (q ∙ z))

  -- and one that comes to where the whole is refused and has a unit left, is refused with that number
  pub told_refused : (from a d r : ℕ) → d ≡ doable p → (doable p < all_units p.sweep → d < from + a) → refused_with p ≡ r → (r ≡ 0 → ⊥) → says_at p from a d ≡ refused r
  unfolding says_at
  told_refused from a d r e l h n = go (ltb (doable p) (all_units p.sweep)) refl h
    where
      go : (x : Bool) → ltb (doable p) (all_units p.sweep) ≡ x → cond x (unit_number p (doable p)) 0 ≡ r
          → cond (eqb d (all_units p.sweep)) finished (cond (eqb (unit_number p d) 0) running (cond (ltb d (from + a)) (refused (unit_number p d)) running)) ≡ refused r
      go false f k = absurd (n (sym k))
      go true f k =
          let q : unit_number p d ≡ r = ap (unit_number p) e ∙ k in
          let under = ltb-true (doable p) (all_units p.sweep) f in
          rw (ne_eqb d (all_units p.sweep) (λ z. omega (arith, z, e, under)), ne_eqb (unit_number p d) 0 (λ z. n (sym q ∙ z)), lt-ltb d (from + a) (l under)) (ap refused q)
