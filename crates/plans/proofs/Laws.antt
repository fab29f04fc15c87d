-- Demand 3 over any plan and any kind of cell, as one law about the contract of any function that serves it. Assumes nothing.
use mathlib.Core.Path.{◌≡◌, refl, sym, ap, ap₂, ◌∙◌, subst}
use Rattle.std.specs.declared.result.Result.TheVariants.{Ok, Err}
use mathlib.Core.Bool.{Bool, true, false, cond}
use mathlib.Core.List.{List, [], ◌∷◌, ◌++◌}
use Prim.Native.Nat.{ℕ, zero, suc, ◌+◌, ◌-◌, ◌*◌, ◌≤◌, ◌<◌, min}
use native.Mathlib.Nat.{zero-add, mul-suc}
use native.Mathlib.Omega.{arith}
use borrow.Author.Tests.{eqb-true, eqb-false, ltb-true, ltb-false}
use lib.Dec.{eqb, ltb}
use lib.Ieee.{of_bits, add, sub, neg, sum, div, round}
use lib.ListN.{length}
use Rattle.lens.specs.Finite.{all_finite}
use Rattle.lens.specs.Judgement.{decided, accepted}
use Rattle.lens.specs.Refusal.{number}
use Rattle.lens.specs.Judgement.{Judgement}
use Rattle.lens.specs.Undistorted.{told}
use Rattle.lens.specs.declared.Refusal.{Refusal}
use Rattle.lens.specs.Undistorted.{Undistorted}
use Rattle.lens.specs.declared.Refusal.TheVariants.{WrongLength, ImpossibleRecord}
use Rattle.region.specs.Region.{four}
use Rattle.region.specs.declared.Region.{Region}
use Rattle.turns.specs.Turns.{Said, refused, Turn, turn, turns, total}
use Rattle.turns.proofs.Laws as any
use Rattle.border.specs.Edges.{doubled}
use Rattle.border.proofs.Finite.{Four, all_four}
use Rattle.plans.specs.Plan.{numbers, Plan, State, nowhere, one_no, fresh, all_units, cells_done, found, next}
use Rattle.plans.specs.declared.Progress.{Progress}
use Rattle.plans.specs.Built.{sum_below, first_no, settled_at, edges_below, region_of, progress_of, doable, says_at, Built}
use Rattle.plans.specs.Calls.{judged, turn_of, allowed, Sound, Serves, Build, done, call}
use Rattle.plans.proofs.Along.{Along, turn_along, region_is}
use Rattle.plans.proofs.Counted as counted
use Rattle.plans.proofs.Reaching.{is_admitted, Good, turn_keeps, good_admitted}
use Rattle.plans.proofs.Written as written

pub nowhere_finite : Four nowhere
unfolding of_bits
nowhere_finite = record { left = refl; top = refl; right = refl; bottom = refl }

nowhere_doubled : doubled nowhere ≡ nowhere
unfolding doubled of_bits add sub neg sum div round
nowhere_doubled = refl

-- ---- the position of the first flag that says no is what it says

-- Of n flags: at 0 all say yes; else the flag at this position, counted from 1, says no, and all ahead of it say yes.
pub record First (f : ℕ → Bool) (n m : ℕ) : Type 0 where
  pub within : m ≤ n
  pub no_there : (k : ℕ) → m ≡ suc k → f k ≡ false
  pub yes_all : (k : ℕ) → k < n → (m ≡ 0) → f k ≡ true
  pub yes_ahead : (k : ℕ) → suc k < m → f k ≡ true

pub first_is : (f : ℕ → Bool) (n : ℕ) → First f n (first_no f n)
unfolding first_no
first_is f zero = record {
  within = omega arith;
  no_there = λ k e. absurd (omega (arith, e));
  yes_all = λ k h e. absurd (omega (arith, h));
  yes_ahead = λ k h. absurd (omega (arith, h));
}
first_is f (suc n) = go (first_no f n) (first_is f n) (eqb (first_no f n) 0) refl (f n) refl
  where
    go : (m : ℕ) → First f n m → (z : Bool) → eqb m 0 ≡ z → (b : Bool) → f n ≡ b → First f (suc n) (cond z (cond b 0 (suc n)) m)
    go m h true e true g = record {
      within = omega arith;
      no_there = λ k q. absurd (omega (arith, q));
      yes_all = λ k l q. all k (ltb k n) refl l;
      yes_ahead = λ k q. absurd (omega (arith, q));
    }
      where
        all : (k : ℕ) (x : Bool) → ltb k n ≡ x → k < suc n → f k ≡ true
        all k true x l = h.yes_all k (ltb-true k n x) (eqb-true m 0 e)
        all k false x l = let q : k ≡ n = omega (arith, l, ltb-false k n x) in ap f q ∙ g
    go m h true e false g = record {
      within = omega arith;
      no_there = λ k q. let r : k ≡ n = omega (arith, q) in ap f r ∙ g;
      yes_all = λ k l q. absurd (omega (arith, q));
      yes_ahead = λ k q. h.yes_all k (omega (arith, q)) (eqb-true m 0 e);
    }
    go m h false e b g = record {
      within = omega (arith, h.within);
      no_there = h.no_there;
      yes_all = λ k l q. absurd (eqb-false m 0 e q);
      yes_ahead = h.yes_ahead;
    }

-- the states that calls with these allowances pass through, by the definition, and what of them is admitted
module _ {X : Type 0} (p : Plan X) where
  unfoldable pub calls : List ℕ → State X → State X
  calls [] s = s
  calls (a ∷ rest) s = calls rest (turn_of p a s).state

  unfoldable pub admits : List ℕ → State X → ℕ
  admits [] s = 0
  admits (a ∷ rest) s = decided (judged p s) (λ r. 0) a + admits rest (turn_of p a s).state

module _ {X : Type 0} (p : Plan X) (sound : Sound p) where
  -- ---- a state that is the definition's of the units done
  module _ (cells : List X) where
    -- a border of no samples has the region of a fresh record
    start_region : (b : Bool) → ltb 0 p.sweep.samples ≡ b → cond b nowhere (region_of p.sweep) ≡ nowhere
    unfolding edges_below
    start_region true e = refl
    start_region false e =
        let z : p.sweep.samples ≡ 0 = omega (arith, ltb-false 0 p.sweep.samples e) in
        ap (λ (n : ℕ). doubled (edges_below p.sweep n)) z ∙ nowhere_doubled

    start_along : Along p (fresh cells).at
    unfolding progress_of sum_below first_no edges_below
    start_along =
        let z : min 0 p.sweep.samples ≡ 0 = omega arith in
        rw (z, start_region (ltb 0 p.sweep.samples) refl) refl

    abbrev end : ℕ → State X
    end n = (turn (next p) n (fresh cells)).state

    none_done : Built p cells 0 (fresh cells)
    none_done =
        let z : min 0 (doable p) ≡ 0 = omega arith in
        record {
          progress =
              start_along ∙ ap (progress_of p.sweep) (sym z);
          as_long = refl;
          cells_hold = λ c d h. absurd (omega (arith, h));
          untouched = λ k d h. refl;
        }

    -- Demand 3 of the definition: one turn of n units, from a fresh record on.
    pub as_defined : length cells ≡ 2 * (p.sweep.width * p.sweep.height) → (n : ℕ) → Built p cells n (end n)
    as_defined long n =
        let a = turn_along p n (fresh cells) start_along in
        let h = written.done_filled p n (fresh cells) long in
        let k = written.untouched p n (fresh cells) in
        record {
          progress = a ∙ ap (progress_of p.sweep) (counted.units_done p sound.refusals n (fresh cells) refl start_along);
          as_long = k.as_long;
          cells_hold = λ c d m.
              let r = ap (λ (x : Progress). x.region) a ∙ region_is p (end n).at.done (omega (arith, m)) in
              let k = subst (λ (r : Region). written.Filled p r (end n).cells c) r (h.each c (omega arith) m) in
              k.its ∙ ap₂ numbers (sym (k.there d).0) (sym (k.there d).1);
          untouched = λ j d m. k.behind j d m;
        }

    -- and what it says
    pub defined_says : (n : ℕ) → (turn (next p) n (fresh cells)).said ≡ says_at p 0 n (end n).at.done
    defined_says n = counted.says p sound.refusals n (fresh cells) (omega arith) start_along

  -- ---- calls

  refused_call : (s : State X) (a : ℕ) (r : Refusal) → judged p s ≡ Err r → (turn_of p a s).state ≡ s
  refused_call s a r e = ap (λ (j : Judgement). (decided j (λ r. record { state = s; said = refused (number r) }) (turn (next p) a s)).state) e

  refused_calls : (ls : List ℕ) (s : State X) (r : Refusal) → judged p s ≡ Err r → (calls p ls s ≡ s) × (admits p ls s ≡ 0)
  unfolding calls admits
  refused_calls [] s r e = (refl, refl)
  refused_calls (a ∷ rest) s r e =
      let k = refused_call s a r e in
      let i = refused_calls rest s r e in
      (ap (calls p rest) k ∙ i.0, ap₂ (λ (j : Judgement) (x : State X). decided j (λ r. 0) a + admits p rest x) e k ∙ zero-add (admits p rest s) ∙ i.1)

  took : (s : State X) → judged p s ≡ accepted → (p.sweep.opens s.at.region ≡ accepted) × (length s.cells ≡ 2 * (p.sweep.width * p.sweep.height))
  took s h = let k = is_admitted p.sweep s.at (length s.cells) h in (k.opens, k.long)

  pub start_good : p.sweep.opens nowhere ≡ accepted → (cells : List X) → length cells ≡ 2 * (p.sweep.width * p.sweep.height) → Good p (fresh cells)
  start_good opens cells h = record {
    record_of = record {
      not_past = omega arith;
      updates = omega arith;
      edges = nowhere_finite;
      behind = λ past. absurd (omega (arith, past, sound.steady.bordered nowhere opens));
      tallies = record { count = omega arith; position = omega arith; some_first = λ e. e; first_some = λ e. e; none_strict = λ e. refl };
    };
    region = nowhere_finite;
    long = h;
  }

  module _ (opens : p.sweep.opens nowhere ≡ accepted) where
    stays_open : (s : State X) → Good p s → judged p s ≡ accepted
    stays_open s g =
        good_admitted p sound s g (sound.steady.alike s.at.region nowhere
        (all_four s.at.region g.region) (all_four nowhere nowhere_finite) ∙ opens)

    -- so is a fresh record, with a table of its size
    pub fresh_admitted : (cells : List X) → length cells ≡ 2 * (p.sweep.width * p.sweep.height) → judged p (fresh cells) ≡ accepted
    fresh_admitted cells long = stays_open (fresh cells) (start_good opens cells long)

    -- a call of an admitted record is a turn
    pub answer_is : (a : ℕ) (s : State X) → Good p s → turn_of p a s ≡ turn (next p) a s
    answer_is a s g = ap (λ (j : Judgement). decided j (λ r. record { state = s; said = refused (number r) }) (turn (next p) a s)) (stays_open s g)

    all_allowed : (ls : List ℕ) (s : State X) → Good p s → (calls p ls s ≡ turns (next p) ls s) × (admits p ls s ≡ total ls)
    unfolding calls turns admits total
    all_allowed [] s g = (refl, refl)
    all_allowed (a ∷ rest) s g =
        let k = ap (λ (t : Turn (State X)). t.state) (answer_is a s g) in
        let i = all_allowed rest (turn (next p) a s).state (turn_keeps p sound a s g) in (
          ap (calls p rest) k ∙ i.0,
          ap₂ (λ (j : Judgement) (x : State X). decided j (λ r. 0) a + admits p rest x) (stays_open s g) k ∙ ap (λ (n : ℕ). a + n) i.1,
        )

    reached_good : (ls : List ℕ) (s : State X) → Good p s → Along p s.at → Good p (calls p ls s) × Along p (calls p ls s).at
    unfolding calls
    reached_good [] s g h = (g, h)
    reached_good (a ∷ rest) s g h =
        let k = ap (λ (t : Turn (State X)). t.state) (answer_is a s g) in
        subst (λ (t : State X). Good p (calls p rest t) × Along p (calls p rest t).at) (sym k)
        (reached_good rest (turn (next p) a s).state (turn_keeps p sound a s g) (turn_along p a s h))

  -- calls from a fresh record on, with any allowances and any table
  pub calls_built : (cells : List X) (ls : List ℕ) → Built p cells (admits p ls (fresh cells)) (calls p ls (fresh cells))
  calls_built cells ls = go (judged p (fresh cells)) refl
    where
      go : (j : Judgement) → judged p (fresh cells) ≡ j → Built p cells (admits p ls (fresh cells)) (calls p ls (fresh cells))
      go (Err r) e =
          let k = refused_calls ls (fresh cells) r e in
          subst (Built p cells (admits p ls (fresh cells))) (sym k.0) (subst (λ (n : ℕ). Built p cells n (fresh cells)) (sym k.1) (none_done cells))
      go (Ok _) e =
          let t = took (fresh cells) e in
          let k = all_allowed t.0 ls (fresh cells) (start_good t.0 cells t.1) in
          subst (Built p cells (admits p ls (fresh cells))) (sym (k.0 ∙ any.any_split (next p) ls (fresh cells)))
          (subst (λ (n : ℕ). Built p cells n (end cells (total ls))) (sym k.1) (as_defined cells t.1 (total ls)))

  module _ (cells : List X) (taken : judged p (fresh cells) ≡ accepted) (ls : List ℕ) where
    abbrev reached : State X
    reached = calls p ls (fresh cells)

    pub all_count : admits p ls (fresh cells) ≡ total ls
    all_count = let t = took (fresh cells) taken in (all_allowed t.0 ls (fresh cells) (start_good t.0 cells t.1)).1

    reached_both : Good p reached × Along p reached.at
    reached_both = let t = took (fresh cells) taken in reached_good t.0 ls (fresh cells) (start_good t.0 cells t.1) (start_along cells)

    -- Where the first call is admitted, so is every later one;
    pub reached_admitted : judged p reached ≡ accepted
    reached_admitted = stays_open (took (fresh cells) taken).0 reached reached_both.0

    -- and it says finished at T, refused with the number of the next unit if it has one and the allowance had room for it, else running.
    pub reached_says : (a : ℕ) → (turn_of p a reached).said ≡ says_at p reached.at.done a (turn_of p a reached).state.at.done
    reached_says a =
        let k = answer_is (took (fresh cells) taken).0 a reached reached_both.0 in
        ap (λ (t : Turn (State X)). t.said) k ∙ counted.says p sound.refusals a reached reached_both.0.record_of.not_past reached_both.1
        ∙ ap (λ (t : Turn (State X)). says_at p reached.at.done a t.state.at.done) (sym k)

-- ---- the record of a build, field by field

sum_most : (f : ℕ → ℕ) (l n : ℕ) → ((k : ℕ) → f k ≤ l) → sum_below f n ≤ l * n
unfolding sum_below
sum_most f l zero h = omega arith
sum_most f l (suc n) h = omega (arith, sum_most f l n h, h n, mul-suc l n)

module _ {X : Type 0} (p : Plan X) (table : List X) (A : ℕ) (s : State X) (b : Built p table A s) where
  -- min(A, F) units are done,
  pub built_units : s.at.done ≡ min A (doable p)
  unfolding progress_of
  built_units = ap (λ (x : Progress). x.done) b.progress

  there : s.at ≡ progress_of p.sweep s.at.done
  there = b.progress ∙ ap (progress_of p.sweep) (sym built_units)

  -- the updates are the sum of the definition's over the samples done,
  pub built_updates : s.at.updates ≡ sum_below (λ k. (settled_at p.sweep k).updates) (min s.at.done p.sweep.samples)
  unfolding progress_of
  built_updates = ap (λ (x : Progress). x.updates) there

  -- none of which is above the limit,
  pub built_limit : Sound p → s.at.updates ≤ p.sweep.limit * min s.at.done p.sweep.samples
  built_limit sound =
      omega (
        arith,
        built_updates,
        sum_most (λ k. (settled_at p.sweep k).updates) p.sweep.limit (min s.at.done p.sweep.samples) (λ k. go (found p.sweep k) refl),
      )
    where
      go : {k : ℕ} (u : Undistorted) → found p.sweep k ≡ u → (told u).settled.updates ≤ p.sweep.limit
      go {k} (Ok settled) e = sound.steady.limited (p.sweep.pixel_at k) settled e
      go (Err r) e = omega arith

  -- the unsettled ones are as many as the definition has among them, and the first is the definition's,
  pub built_unsettled : s.at.unsettled ≡ sum_below (λ k. one_no (settled_at p.sweep k).flag) (min s.at.done p.sweep.samples)
  unfolding progress_of
  built_unsettled = ap (λ (x : Progress). x.unsettled) there

  pub built_first : s.at.first ≡ first_no (λ k. (settled_at p.sweep k).flag) (min s.at.done p.sweep.samples)
  unfolding progress_of
  built_first = ap (λ (x : Progress). x.first) there

  -- and the region is the definition's, once the border is behind.
  pub built_region : p.sweep.samples ≤ s.at.done → s.at.region ≡ region_of p.sweep
  built_region h = ap (λ (x : Progress). x.region) there ∙ region_is p s.at.done h

-- ---- one more call

pub one_more_call :
    {H : Type 0} {Post : H → ℕ → Said → H → Type 0} (ls : List ℕ) (h k : H) → Build H Post ls h k
    → (a : ℕ) (said : Said) (m : H) → Post k a said m → Build H Post (ls ++ a ∷ []) h m
one_more_call [] h k (done same) a said m post = call k a said m post [] m (done m)
one_more_call (x ∷ ls) h k (call from b told next first rest last more) a said m post =
    call from b told next first (rest ++ a ∷ []) m (one_more_call rest next last more a said m post)

pub total_more : (ls : List ℕ) (a : ℕ) → total (ls ++ a ∷ []) ≡ total ls + a
unfolding total
total_more [] a = omega arith
total_more (x ∷ ls) a = omega (arith, total_more ls a)

-- ---- Demand 3, of the contract of any function that serves a plan

module _
    {X : Type 0} (H : Type 0) (Ready : H → Type 0) (plan : H → Plan X) (state : H → State X)
    (Post : H → ℕ → Said → H → Type 0) (serves : Serves H Ready plan state Post)
  where
    -- where a build has come to, and how much of it was admitted
    record Chained (ls : List ℕ) (h k : H) (p : Plan X) (b : Build H Post ls h k) : Type 0 where
      there : state k ≡ calls p ls (state h)
      plan_there : plan k ≡ p
      ready_there : Ready k
      counted : allowed plan state ls h k b ≡ admits p ls (state h)

    chain : (ls : List ℕ) (h k : H) (p : Plan X) → plan h ≡ p → Ready h → (b : Build H Post ls h k) → Chained ls h k p b
    unfolding calls admits allowed
    chain [] h k p e r (done same) = record { there = refl; plan_there = e; ready_there = r; counted = refl }
    chain (x ∷ ls) h k p e r (call from a said m post rest last more) =
        let i = chain rest m last p (serves.plan_kept from a said m r post ∙ e) (serves.ready_kept from a said m r post) more in
        let s = serves.answers from a said m r post ∙ ap (λ (q : Plan X). turn_of q a (state from)) e in
        record {
          there = i.there ∙ ap (λ (t : Turn (State X)). calls p rest t.state) s;
          plan_there = i.plan_there;
          ready_there = i.ready_there;
          counted =
              ap₂ (λ (q : Plan X) (n : ℕ). decided (judged q (state from)) (λ r. 0) a + n) e
              (i.counted ∙ ap (λ (t : Turn (State X)). admits p rest t.state) s);
        }

    module _
        (h : H) (ready : Ready h) (sound : Sound (plan h)) (cells : List X) (start : state h ≡ fresh cells)
        (ls : List ℕ) (k : H) (b : Build H Post ls h k)
      where
        abbrev chained : Chained ls h k (plan h) b
        chained = chain ls h k (plan h) refl ready b

        held_at : state k ≡ calls (plan h) ls (fresh cells)
        held_at = chained.there ∙ ap (calls (plan h) ls) start

        counted_at : allowed plan state ls h k b ≡ admits (plan h) ls (fresh cells)
        counted_at = chained.counted ∙ ap (admits (plan h) ls) start

        -- From a fresh record on, whatever else is held, with any table and any allowances, the record and the table left are
        -- those of `Built`.
        pub built : Built (plan h) cells (allowed plan state ls h k b) (state k)
        built =
            subst (λ (A : ℕ). Built (plan h) cells A (state k)) (sym counted_at)
            (subst (Built (plan h) cells (admits (plan h) ls (fresh cells))) (sym held_at) (calls_built (plan h) sound cells ls))

        -- What is held then is ready for the next call, with the same plan.
        pub built_ready : Ready k × (plan k ≡ plan h)
        built_ready = (chained.ready_there, chained.plan_there)

        module _ (taken : judged (plan h) (fresh cells) ≡ accepted) where
          -- Where the first call is admitted, so is every later one;
          pub built_admitted : judged (plan h) (state k) ≡ accepted
          built_admitted = ap (judged (plan h)) held_at ∙ reached_admitted (plan h) sound cells taken ls

          -- all that was allowed counts;
          pub built_allowed : allowed plan state ls h k b ≡ total ls
          built_allowed = counted_at ∙ all_count (plan h) sound cells taken ls

          -- and the next one, whatever its allowance, says finished at T, refused with the number of the unit behind those done
          -- if that has one and the allowance had room for it, else running.
          pub built_says :
              (a : ℕ) (said : Said) (m : H) → Post k a said m
              → said ≡ says_at (plan h) (state k).at.done a (state m).at.done
          built_says a said m post =
              let e = serves.answers k a said m chained.ready_there post ∙ ap (λ (q : Plan X). turn_of q a (state k)) chained.plan_there in
              ap (λ (t : Turn (State X)). t.said) e
              ∙ subst (λ (s : State X). (turn_of (plan h) a s).said ≡ says_at (plan h) s.at.done a (turn_of (plan h) a s).state.at.done)
              (sym held_at) (reached_says (plan h) sound cells taken ls a)
              ∙ ap (λ (t : Turn (State X)). says_at (plan h) (state k).at.done a t.state.at.done) (sym e)
