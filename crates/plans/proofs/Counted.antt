-- The units that a build does are those before the first that the definition refuses, and that one refuses with its number. Assumes nothing.
use mathlib.Core.Path.{◌≡◌, refl, sym, ap, ◌∙◌, subst}
use Rattle.std.specs.declared.result.Result.TheVariants.{Ok, Err}
use mathlib.Core.Bool.{Bool, true, false, cond}
use Prim.Native.Nat.{ℕ, zero, suc, ◌+◌, ◌-◌, ◌/◌, ◌%◌, ◌≤◌, ◌<◌, min}
use native.Mathlib.Omega.{arith}
use borrow.Author.Tests.{ltb-true, ltb-false, lt-ltb, le-ltb, ne_eqb, eq-eqb, eqb-true, eqb-false}
use lib.Dec.{eqb, ltb}
use Rattle.lens.specs.Judgement.{decided, verdict}
use Rattle.lens.specs.Refusal.{number}
use Rattle.lens.specs.Judgement.{Judgement}
use Rattle.lens.specs.declared.Settled.{Settled}
use Rattle.lens.specs.Undistorted.{Undistorted}
use Rattle.lens.proofs.Laws.{number_within}
use Rattle.region.specs.Region.{increments, wrong}
use Rattle.region.specs.declared.Region.{Region}
use Rattle.turns.specs.Turns.{Next, over, refuses, does, Said, finished, refused, running, ended, turn, counted, units}
use Rattle.turns.proofs.Laws as any
use Rattle.border.specs.Edges.{doubled}
use Rattle.plans.specs.Plan.{Content, numbers, none, Plan, State, sampled, with_region, all_units, cells_done, found, too_strict, closed, after_sample, swept, table_alone, put_in, cell_unit, next}
use Rattle.plans.specs.declared.Progress.{Progress}
use Rattle.plans.specs.Built.{before_refused, region_of, progress_of, sample_number, border_number, content_number, content_at, unit_number, doable, says_at}
use Rattle.plans.proofs.Along.{Along, last_edges, region_is, along_on, turn_along}
use Rattle.plans.proofs.Done.{unit_done, next_counts, over_at}
use Rattle.plans.proofs.Ends.{done_is, done_most}

-- a unit that is there is done where its number is 0, and refuses with its number where it is not
abbrev pub Numbered : {S : Type 0} → Next S → ℕ → Type 0
Numbered over n = ⊥
Numbered (refuses r) n = (r ≡ n) × (0 < n)
Numbered (does t) n = n ≡ 0

above_zero : (n : ℕ) → 0 < n → eqb n 0 ≡ false
above_zero n h = ne_eqb n 0 (λ e. omega (arith, e, h))

judged_so : {S : Type 0} (j : Judgement) (t : S) → Numbered (decided j (λ r. refuses (number r)) (does t)) (verdict j)
judged_so (Ok _) t = refl
judged_so (Err r) t = (refl, (number_within r).0)

table_alone_so : {X : Type 0} (l : _) (n : Next Progress) (k : ℕ) → Numbered n k → Numbered (table_alone {X = X} l n) k
table_alone_so l over k h = h
table_alone_so l (refuses r) k h = h
table_alone_so l (does t) k h = h

module _ {X : Type 0} (p : Plan X) where
  abbrev told_number : Undistorted → ℕ → ℕ
  told_number u n = cond (eqb (sample_number p.sweep u) 0) (cond (ltb (n + 1) p.sweep.samples) 0 (verdict (wrong (increments (region_of p.sweep) p.sweep.width p.sweep.height)))) (sample_number p.sweep u)

  at_sample :
      (at : Progress) → at.done < p.sweep.samples → Along p at → (u : Undistorted) → found p.sweep at.done ≡ u → Numbered (after_sample p.sweep at u) (told_number u at.done)
  at_sample at under h (Err r) e = rw (above_zero (number r) (number_within r).0) (refl, (number_within r).0)
  at_sample at under h (Ok settled) e = go (too_strict p.sweep settled) (ltb (at.done + 1) p.sweep.samples) refl
    where
      verdict_of : Region → ℕ
      verdict_of r = verdict (wrong (increments r p.sweep.width p.sweep.height))

      go :
          (x b : Bool) → ltb (at.done + 1) p.sweep.samples ≡ b
          → Numbered (cond x (refuses 18) (cond b (does (sampled at settled)) (closed p.sweep.width p.sweep.height (sampled at settled))))
          (cond (eqb (cond x 18 0) 0) (cond b 0 (verdict (wrong (increments (region_of p.sweep) p.sweep.width p.sweep.height)))) (cond x 18 0))
      go true b f = (refl, omega arith)
      go false true f = refl
      go false false f =
          let last : at.done + 1 ≡ p.sweep.samples = omega (arith, under, ltb-false (at.done + 1) p.sweep.samples f) in
          let q : (sampled at settled).edges ≡ _ = ap (λ (x : Progress). (sampled x settled).edges) h ∙ last_edges p at.done settled e last in
          subst (λ (r : Region). Numbered (closed p.sweep.width p.sweep.height (sampled at settled)) (verdict (wrong (increments (doubled r) p.sweep.width p.sweep.height)))) q
          (judged_so (wrong (increments (doubled (sampled at settled).edges) p.sweep.width p.sweep.height)) (with_region (sampled at settled) (doubled (sampled at settled).edges)))

  module _ (refusals : (region : Region) (u v : ℕ) → p.cell region u v ≡ none 0 → ⊥) where
    put_so : (region : Region) (u v : ℕ) (x : Content X) → p.cell region u v ≡ x → (c : ℕ) (s : State X) → Numbered (put_in x c s) (content_number x)
    put_so region u v (numbers a b) e c s = refl
    put_so region u v (none r) e c s = (refl, go r e)
      where
        go : (r : ℕ) → p.cell region u v ≡ none r → 0 < r
        go zero e = absurd (refusals region u v e)
        go (suc r) e = omega arith

    pub at_unit : (s : State X) → s.at.done < all_units p.sweep → Along p s.at → Numbered (next p s) (unit_number p s.at.done)
    unfolding unit_number next swept
    at_unit s under h = go (ltb s.at.done p.sweep.samples) refl
      where
        n : ℕ
        n = s.at.done

        go :
            (b : Bool) → ltb s.at.done p.sweep.samples ≡ b
            → Numbered (cond b (table_alone s.cells (after_sample p.sweep s.at (found p.sweep s.at.done))) (cond (ltb s.at.done (all_units p.sweep)) (cell_unit p s) over))
            (cond b (told_number (found p.sweep s.at.done) s.at.done) (content_number (content_at p (s.at.done - p.sweep.samples))))
        go true f = table_alone_so s.cells (after_sample p.sweep s.at (found p.sweep s.at.done)) _ (at_sample s.at (ltb-true s.at.done p.sweep.samples f) h (found p.sweep s.at.done) refl)
        go false f =
            let r : s.at.region ≡ region_of p.sweep = ap (λ (x : Progress). x.region) h ∙ region_is p s.at.done (ltb-false s.at.done p.sweep.samples f) in
            subst (λ (d : Bool). Numbered (cond d (cell_unit p s) over) (content_number (content_at p (cells_done p.sweep s)))) (sym (lt-ltb s.at.done (all_units p.sweep) under))
            (subst (λ (r : Region). Numbered (cell_unit p s) (content_number (p.cell r (cells_done p.sweep s % p.sweep.width) (cells_done p.sweep s / p.sweep.width)))) r
            (put_so s.at.region (cells_done p.sweep s % p.sweep.width) (cells_done p.sweep s / p.sweep.width) _ refl (cells_done p.sweep s) s))

    -- ---- how many

    pub counted_so : (k : ℕ) (s : State X) → Along p s.at → s.at.done + k ≤ all_units p.sweep → units (next p) k s ≡ before_refused (unit_number p) s.at.done k
    unfolding units before_refused
    counted_so zero s h m = refl
    counted_so (suc k) s h m = go (next p s) refl (at_unit s (omega (arith, m)) h) (λ t. counted_so k t)
      where
        go :
            (x : Next (State X)) → next p s ≡ x → Numbered x (unit_number p s.at.done)
            → ((t : State X) → Along p t.at → t.at.done + k ≤ all_units p.sweep → units (next p) k t ≡ before_refused (unit_number p) t.at.done k)
            → counted x (λ t. units (next p) k t) ≡ cond (eqb (unit_number p s.at.done) 0) (suc (before_refused (unit_number p) (suc s.at.done) k)) 0
        go over e q i = absurd q
        go (refuses r) e q i = rw (above_zero (unit_number p s.at.done) q.1) refl
        go (does t) e q i =
            let d : t.at.done ≡ suc s.at.done = omega (arith, (next_counts p s t e).more) in
            rw (eq-eqb (unit_number p s.at.done) 0 q)
            (ap suc (i t (along_on p s t h (unit_done p s t e)) (omega (arith, d, m)) ∙ ap (λ (n : ℕ). before_refused (unit_number p) n k) d))

    -- min(A, F) of them, from nothing
    pub units_done : (a : ℕ) (s : State X) → s.at.done ≡ 0 → Along p s.at → (turn (next p) a s).state.at.done ≡ min a (doable p)
    units_done a s z h =
        let e = any.units_exactly (next p) (all_units p.sweep) s (λ b. omega (arith, done_is p b s, done_most p b s (omega (arith, z)))) a in
        let f = counted_so (all_units p.sweep) s h (omega (arith, z)) in
        let g = ap (λ (n : ℕ). before_refused (unit_number p) n (all_units p.sweep)) z in
        omega (arith, done_is p a s, e, f, g, z)

    -- ---- what a turn says

    same_test : (u a from d : ℕ) → d ≡ from + u → ltb u a ≡ ltb d (from + a)
    same_test u a from d e = go (ltb u a) refl
      where
        go : (b : Bool) → ltb u a ≡ b → b ≡ ltb d (from + a)
        go true f = sym (lt-ltb d (from + a) (omega (arith, e, ltb-true u a f)))
        go false f = sym (le-ltb d (from + a) (omega (arith, e, ltb-false u a f)))

    pub says : (a : ℕ) (s : State X) → s.at.done ≤ all_units p.sweep → Along p s.at → (turn (next p) a s).said ≡ says_at p s.at.done a (turn (next p) a s).state.at.done
    unfolding says_at
    says a s h g =
        any.says (next p) a s ∙ ap (ended (next p end)) (same_test (units (next p) a s) a s.at.done end.at.done (done_is p a s))
        ∙ go (ltb end.at.done (s.at.done + a)) (eqb end.at.done (all_units p.sweep)) refl
      where
        end : State X
        end = (turn (next p) a s).state

        there : (b : Bool) (x : Next (State X)) → Numbered x (unit_number p end.at.done) → ended x b ≡ cond (eqb (unit_number p end.at.done) 0) running (cond b (refused (unit_number p end.at.done)) running)
        there b over q = absurd q
        there true (refuses r) q = rw (above_zero (unit_number p end.at.done) q.1) (ap refused q.0)
        there false (refuses r) q = rw (above_zero (unit_number p end.at.done) q.1) refl
        there b (does t) q = rw (eq-eqb (unit_number p end.at.done) 0 q) refl

        go :
            (b f : Bool) → eqb end.at.done (all_units p.sweep) ≡ f
            → ended (next p end) b ≡ cond f finished (cond (eqb (unit_number p end.at.done) 0) running (cond b (refused (unit_number p end.at.done)) running))
        go b true e = ap (λ (x : Next (State X)). ended x b) (over_at p end (omega (arith, eqb-true end.at.done (all_units p.sweep) e)))
        go b false e =
            let less : end.at.done < all_units p.sweep = omega (arith, done_most p a s h, eqb-false end.at.done (all_units p.sweep) e) in
            there b (next p end) (at_unit end less (turn_along p a s g))
