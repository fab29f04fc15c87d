-- Every record that a build can reach is admitted. Assumes nothing.
use mathlib.Core.Path.{◌≡◌, refl, sym, ap, ◌∙◌, subst}
use Rattle.std.specs.declared.result.Result.TheVariants.{Ok, Err}
use mathlib.Core.Bool.{Bool, true, false, cond, ◌&&◌, ◌||◌}
use Prim.Native.Nat.{ℕ, ◌+◌, ◌-◌, ◌*◌, ◌≤◌, ◌<◌, min}
use native.Mathlib.Nat.{mul-suc}
use native.Mathlib.Omega.{arith}
use borrow.Author.Tests.{leb-true, ltb-false, le-ltb, le-leb, eqb-true, eq-eqb}
use lib.Dec.{leb, ltb, eqb}
use lib.ListN.{length, set, length-set}
use Rattle.lens.specs.Finite.{all_finite}
use Rattle.lens.specs.Judgement.{verdict, decided, accepted}
use Rattle.lens.specs.Refusal.{number}
use Rattle.lens.proofs.Laws.{number_within}
use Rattle.lens.specs.Judgement.{Judgement}
use Rattle.lens.specs.declared.Refusal.TheVariants.{WrongLength, ImpossibleRecord}
use Rattle.lens.specs.declared.Settled.{Settled}
use Rattle.region.specs.Region.{four, increments, wrong}
use Rattle.region.specs.declared.Region.{Region}
use Rattle.turns.specs.Turns.{turn}
use Rattle.turns.proofs.Laws as any
use Rattle.border.specs.Edges.{doubled}
use Rattle.border.proofs.Finite.{both, Four, all_four, of_four, after_finite, region_finite, taken_finite}
use Rattle.plans.specs.Plan.{Sweep, Plan, State, sampled, with_region, all_units, cells_done, found, too_strict, next}
use Rattle.plans.specs.declared.Progress.{Progress}
use Rattle.plans.specs.Calls.{samples_done, possible, admitted, judged, Sound}
use Rattle.plans.proofs.Done.{Done, a_sample, the_last, a_cell, unit_done}
use Rattle.plans.proofs.Tallies.{Tallied, then_tallied, is_tallied, one_more_tallied}

either : (a b : Bool) → (a ≡ false → b ≡ true) → (a || b) ≡ true
either true b h = refl
either false b h = h refl

no_verdict : (j : Judgement) → eqb (verdict j) 0 ≡ true → j ≡ accepted
no_verdict (Ok _) h = refl
no_verdict (Err r) h = absurd (omega (arith, number_within r, eqb-true (number r) 0 h))

module _ (sweep : Sweep) where
  -- the test of a record, and what it says
  pub record Possible (at : Progress) : Type 0 where
    pub not_past : at.done ≤ all_units sweep
    pub updates : at.updates ≤ sweep.limit * samples_done sweep at
    pub edges : Four at.edges
    pub behind : sweep.samples ≤ at.done → wrong (increments at.region sweep.width sweep.height) ≡ accepted
    pub tallies : Tallied sweep.strict (samples_done sweep at) at.unsettled at.first

  abbrev fine : Progress → Bool
  fine at = eqb (verdict (wrong (increments at.region sweep.width sweep.height))) 0

  pub then_possible : (at : Progress) → Possible at → possible sweep at ≡ true
  unfolding possible
  then_possible at q =
      rw (
        le-leb at.done (all_units sweep) q.not_past,
        le-leb at.updates (sweep.limit * samples_done sweep at) q.updates,
        all_four at.edges q.edges,
        either (ltb at.done sweep.samples) (fine at) (λ e. rw (q.behind (ltb-false at.done sweep.samples e)) refl),
      )
      (then_tallied sweep.strict (samples_done sweep at) at.unsettled at.first q.tallies)

  pub is_possible : (at : Progress) → possible sweep at ≡ true → Possible at
  unfolding possible
  is_possible at h =
      let a = both (leb at.done (all_units sweep)) _ h in
      let b = both (leb at.updates (sweep.limit * samples_done sweep at)) _ a.1 in
      let c = both (all_finite (four at.edges)) _ b.1 in
      let d = both (ltb at.done sweep.samples || fine at) _ c.1 in
      record {
        not_past = leb-true at.done (all_units sweep) a.0;
        updates = leb-true at.updates (sweep.limit * samples_done sweep at) b.0;
        edges = of_four at.edges c.0;
        behind = λ past. no_verdict (wrong (increments at.region sweep.width sweep.height))
            (sym (ap (λ (x : Bool). x || fine at) (le-ltb at.done sweep.samples past)) ∙ d.0);
        tallies = is_tallied sweep.strict (samples_done sweep at) at.unsettled at.first d.1;
      }

  -- what the code may rely on in a record that is admitted
  pub record Admitted (at : Progress) (places : ℕ) : Type 0 where
    pub opens : sweep.opens at.region ≡ accepted
    pub long : places ≡ 2 * (sweep.width * sweep.height)
    pub record_of : Possible at

  passed : (j : Judgement) (e b : Bool) → decided j Err (cond e (cond b accepted (Err ImpossibleRecord)) (Err WrongLength)) ≡ accepted → (j ≡ accepted) × (e ≡ true) × (b ≡ true)
  passed (Err r) e b h = let z : ◌≡◌ {A = ℕ} 0 1 = cc in absurd (omega arith)
  passed (Ok _) true true h = (refl, refl, refl)
  passed (Ok _) true false h = let z : ◌≡◌ {A = ℕ} 0 1 = cc in absurd (omega arith)
  passed (Ok _) false b h = let z : ◌≡◌ {A = ℕ} 0 1 = cc in absurd (omega arith)

  pub is_admitted : (at : Progress) (places : ℕ) → admitted sweep at places ≡ accepted → Admitted at places
  unfolding admitted
  is_admitted at places h =
      let k = passed (sweep.opens at.region) (eqb places (2 * (sweep.width * sweep.height))) (possible sweep at) h in
      record { opens = k.0; long = eqb-true places (2 * (sweep.width * sweep.height)) k.1; record_of = is_possible at k.2 }

-- ---- each unit keeps it

module _ {X : Type 0} (p : Plan X) where
  pub record Good (s : State X) : Type 0 where
    pub record_of : Possible p.sweep s.at
    pub region : Four s.at.region
    pub long : length s.cells ≡ 2 * (p.sweep.width * p.sweep.height)

  module _ (sound : Sound p) where
    module _ (at : Progress) (under : at.done < p.sweep.samples) (q : Possible p.sweep at) (settled : Settled) (e : found p.sweep at.done ≡ Ok settled) (f : too_strict p.sweep settled ≡ false) where
      here : samples_done p.sweep at ≡ at.done
      here = omega (arith, under)

      then : samples_done p.sweep (sampled at settled) ≡ at.done + 1
      then = omega (arith, under)

      within : at.updates + settled.updates ≤ p.sweep.limit * samples_done p.sweep (sampled at settled)
      within =
          let a = ap (λ (n : ℕ). p.sweep.limit * n) here in
          let b = ap (λ (n : ℕ). p.sweep.limit * n) then in
          omega (arith, a, b, mul-suc p.sweep.limit at.done, sound.steady.limited (p.sweep.pixel_at at.done) settled e, q.updates)

      edges_four : Four (sampled at settled).edges
      edges_four = let g = sound.steady.points (p.sweep.pixel_at at.done) settled e in after_finite at.done at.edges settled.point q.edges g.0 g.1

      tallies : Tallied p.sweep.strict (samples_done p.sweep (sampled at settled)) (sampled at settled).unsettled (sampled at settled).first
      tallies =
          subst (λ (n : ℕ). Tallied p.sweep.strict n (sampled at settled).unsettled (sampled at settled).first) (sym then)
          (one_more_tallied p.sweep.strict at.done at.unsettled at.first settled.flag f
          (subst (λ (n : ℕ). Tallied p.sweep.strict n at.unsettled at.first) here q.tallies))

      after : (region : Region) → (p.sweep.samples ≤ at.done + 1 → wrong (increments region p.sweep.width p.sweep.height) ≡ accepted)
          → Possible p.sweep (with_region (sampled at settled) region)
      after region behind = record { not_past = omega (arith, under); updates = within; edges = edges_four; behind = behind; tallies = tallies }

    keeps_good : (s t : State X) → Good s → Done p s t → Good t
    keeps_good s t g (a_sample settled under e f h) =
        subst Good (sym h)
        record { record_of = after s.at (omega (arith, under)) g.record_of settled e f s.at.region (λ past. absurd (omega (arith, past, under))); region = g.region; long = g.long }
    keeps_good s t g (the_last settled under e f w h) =
        let by = taken_finite (increments (doubled (sampled s.at settled).edges) p.sweep.width p.sweep.height) w in
        subst Good (sym h)
        record {
          record_of = after s.at (omega (arith, under)) g.record_of settled e f (doubled (sampled s.at settled).edges) (λ past. w);
          region = region_finite (doubled (sampled s.at settled).edges) p.sweep.width p.sweep.height by.0 by.1;
          long = g.long;
        }
    keeps_good s t g (a_cell past some a b e h) =
        let q = g.record_of in
        let l : min (s.at.done + 1) p.sweep.samples ≡ min s.at.done p.sweep.samples = omega (arith, past) in
        let m = ap (λ (n : ℕ). p.sweep.limit * n) l in
        let i = 2 * cells_done p.sweep s in
        subst Good (sym h)
        record {
          record_of = record {
            not_past = omega (arith, some);
            updates = omega (arith, m, q.updates);
            edges = q.edges;
            behind = λ r. q.behind past;
            tallies = subst (λ (n : ℕ). Tallied p.sweep.strict n s.at.unsettled s.at.first) (sym l) q.tallies;
          };
          region = g.region;
          long = length-set (set s.cells i a) (i + 1) b ∙ length-set s.cells i a ∙ g.long;
        }

    pub turn_keeps : (a : ℕ) (s : State X) → Good s → Good (turn (next p) a s).state
    turn_keeps = any.keeps (next p) Good (λ s t g e. keeps_good s t g (unit_done p s t e))

    -- ---- and is admitted, where the plan opens for a finite region

    pub good_admitted : (s : State X) → Good s → p.sweep.opens s.at.region ≡ accepted → judged p s ≡ accepted
    unfolding admitted
    good_admitted s g o = rw (o, eq-eqb (length s.cells) (2 * (p.sweep.width * p.sweep.height)) g.long, then_possible p.sweep s.at g.record_of) refl
