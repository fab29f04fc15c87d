-- The laws of turns over any unit: a split changes nothing, so many units are done, and what a turn says. Assumes nothing.
use mathlib.Core.Path.{◌≡◌, refl, sym, ap, ◌∙◌}
use mathlib.Core.Bool.{false}
use mathlib.Core.List.{List, [], ◌∷◌}
use Prim.Native.Nat.compare
use Prim.Native.Nat.{ℕ, zero, suc, ◌+◌, ◌-◌, ◌≤◌, ◌<◌, min}
use native.Mathlib.Omega.{arith}
use lib.Dec.{is_le, ltb, lt→ltb}
use lib.Ieee.Bits.{is_true}
use Rattle.turns.specs.Turns.{Next, over, refuses, does, Said, finished, refused, running, Turn, ended, spent, turn, turns, total, counted, units, added, summed, halted, met}

ltb_suc : (m n : ℕ) → ltb (suc m) (suc n) ≡ ltb m n
ltb_suc m n = ap is_le (compare.suc-suc (suc m) n)

module _ {S : Type 0} (next : S → Next S) where
  abbrev run : ℕ → S → S
  run n s = (turn next n s).state

  -- before a refusal, or at the end, a turn stays where it is
  at_end : (b : ℕ) (s : S) → next s ≡ over → run b s ≡ s
  unfolding turn
  at_end zero s e = refl
  at_end (suc b) s e = ap (λ (n : Next S). (spent n s (λ t. turn next b t)).state) e

  at_refusal : (b : ℕ) (s : S) (r : ℕ) → next s ≡ refuses r → run b s ≡ s
  unfolding turn
  at_refusal zero s r e = refl
  at_refusal (suc b) s r e = ap (λ (n : Next S). (spent n s (λ t. turn next b t)).state) e

  one_unit : (n : ℕ) (s t : S) → next s ≡ does t → run (suc n) s ≡ run n t
  unfolding turn
  one_unit n s t e = ap (λ (x : Next S). (spent x s (λ t. turn next n t)).state) e

  none : (s : S) → run 0 s ≡ s
  unfolding turn
  none s = refl

  split_at : (a b : ℕ) (s : S) (n : Next S) → next s ≡ n → ((t : S) → run (a + b) t ≡ run b (run a t)) → run (suc (a + b)) s ≡ run b (run (suc a) s)
  split_at a b s over e h = at_end (suc (a + b)) s e ∙ sym (ap (run b) (at_end (suc a) s e) ∙ at_end b s e)
  split_at a b s (refuses r) e h = at_refusal (suc (a + b)) s r e ∙ sym (ap (run b) (at_refusal (suc a) s r e) ∙ at_refusal b s r e)
  split_at a b s (does t) e h = one_unit (a + b) s t e ∙ h t ∙ ap (run b) (sym (one_unit a s t e))

  -- Two turns do what one does with both allowances.
  pub split : (a b : ℕ) (s : S) → run (a + b) s ≡ run b (run a s)
  split zero b s = let e : 0 + b ≡ b = omega arith in ap (λ (n : ℕ). run n s) e ∙ ap (run b) (sym (none s))
  split (suc a) b s = let e : suc a + b ≡ suc (a + b) = omega arith in ap (λ (n : ℕ). run n s) e ∙ split_at a b s (next s) refl (λ t. split a b t)

  -- Turns of any allowances end where one turn ends that may do as much as all of them.
  pub any_split : (allowances : List ℕ) (s : S) → turns next allowances s ≡ run (total allowances) s
  unfolding turns total
  any_split [] s = sym (none s)
  any_split (a ∷ rest) s = any_split rest (run a s) ∙ sym (split a (total rest) s)

  -- ---- how many units

  count_zero : (n : Next S) (s : S) → next s ≡ n → (b : ℕ) → ((t : S) → n ≡ does t → ⊥) → units next b s ≡ 0
  unfolding units
  count_zero n s e zero h = refl
  count_zero over s e (suc b) h = rw e refl
  count_zero (refuses r) s e (suc b) h = rw e refl
  count_zero (does t) s e (suc b) h = absurd (h t refl)

  count_one : (n : ℕ) (s t : S) → next s ≡ does t → units next (suc n) s ≡ suc (units next n t)
  unfolding units
  count_one n s t e = rw e refl

  -- No turn does more than it may.
  pub units_most : (a : ℕ) (s : S) → units next a s ≤ a
  unfolding units
  units_most zero s = omega arith
  units_most (suc a) s = go (next s) (λ t. units_most a t)
    where
      go : (n : Next S) → ((t : S) → units next a t ≤ a) → counted n (λ t. units next a t) ≤ suc a
      go over h = omega arith
      go (refuses r) h = omega arith
      go (does t) h = omega (arith, h t)

  -- A larger allowance does as many units, cut to the smaller one.
  pub units_cut : (a b : ℕ) (s : S) → units next a s ≡ min a (units next (a + b) s)
  unfolding units
  units_cut zero b s = omega arith
  units_cut (suc a) b s =
      let e : suc a + b ≡ suc (a + b) = omega arith in go (next s) (λ t. units_cut a b t) ∙ ap (λ (n : ℕ). min (suc a) (units next n s)) (sym e)
    where
      go :
          (n : Next S) → ((t : S) → units next a t ≡ min a (units next (a + b) t))
          → counted n (λ t. units next a t) ≡ min (suc a) (counted n (λ t. units next (a + b) t))
      go over h = omega arith
      go (refuses r) h = omega arith
      go (does t) h = omega (arith, h t)

  module _ (most : ℕ) (s : S) (bounded : (a : ℕ) → units next a s ≤ most) where
    -- The units done are as many as the allowance, or as there are before the first that refuses or is not there: min(A, F).
    pub units_exactly : (a : ℕ) → units next a s ≡ min a (units next most s)
    units_exactly a =
        let e : a + most ≡ most + a = omega arith in
        let f : units next most s ≡ units next (most + a) s = omega (arith, units_cut most a s, bounded (most + a)) in
        units_cut a most s ∙ ap (λ (n : ℕ). min a (units next n s)) e ∙ ap (min a) (sym f)

  -- ---- a turn that did not use up its allowance

  apart_does : (n : Next S) (s t : S) → next s ≡ n → next s ≡ does t → ((u : S) → n ≡ does u → ⊥) → ⊥
  apart_does n s t e f h = h t (sym e ∙ f)

  -- It ended where a unit refuses or none is left.
  pub stops : (a : ℕ) (s : S) → units next a s < a → (t : S) → next (run a s) ≡ does t → ⊥
  stops zero s h t e = omega (arith, h)
  stops (suc a) s h t e = go (next s) refl (λ u k f. stops a u k t f)
    where
      go : (n : Next S) → next s ≡ n → ((u : S) → units next a u < a → next (run a u) ≡ does t → ⊥) → ⊥
      go over f k = apart_does over s t f (ap next (sym (at_end (suc a) s f)) ∙ e) (λ u q. let z : ◌≡◌ {A = ℕ} 0 1 = cc in omega arith)
      go (refuses r) f k = apart_does (refuses r) s t f (ap next (sym (at_refusal (suc a) s r f)) ∙ e) (λ u q. let z : ◌≡◌ {A = ℕ} 0 1 = cc in omega arith)
      go (does u) f k = k u (omega (arith, h, count_one a s u f)) (ap next (sym (one_unit a s u f)) ∙ e)

  -- Any further turn stays there.
  pub stays : (b : ℕ) (s : S) → ((t : S) → next s ≡ does t → ⊥) → run b s ≡ s
  stays b s h = go (next s) refl
    where
      go : (n : Next S) → next s ≡ n → run b s ≡ s
      go over e = at_end b s e
      go (refuses r) e = at_refusal b s r e
      go (does t) e = absurd (h t e)

  -- ---- what each unit adds

  -- A number that each unit raises by its cost is raised by the costs of the units done.
  pub adds : (size cost : S → ℕ) → ((s t : S) → next s ≡ does t → size t ≡ size s + cost s) → (a : ℕ) (s : S) → size (run a s) ≡ size s + summed next cost a s
  unfolding turn summed
  adds size cost h zero s = omega arith
  adds size cost h (suc a) s = go (next s) refl (λ t. adds size cost h a t)
    where
      go :
          (n : Next S) → next s ≡ n → ((t : S) → size (run a t) ≡ size t + summed next cost a t)
          → size (spent n s (λ t. turn next a t)).state ≡ size s + added n (cost s) (λ t. summed next cost a t)
      go over e k = omega arith
      go (refuses r) e k = omega arith
      go (does t) e k = omega (arith, k t, h s t e)

  -- What each unit keeps, a turn keeps.
  pub keeps : (P : S → Type 0) → ((s t : S) → P s → next s ≡ does t → P t) → (a : ℕ) (s : S) → P s → P (run a s)
  unfolding turn
  keeps P h zero s p = p
  keeps P h (suc a) s p = go (next s) refl (λ t. keeps P h a t)
    where
      go : (n : Next S) → next s ≡ n → ((t : S) → P t → P (run a t)) → P (spent n s (λ t. turn next a t)).state
      go over e k = p
      go (refuses r) e k = p
      go (does t) e k = k t (h s t p e)

  -- ---- what a turn says

  says_at : (a : ℕ) (s : S) (n : Next S) → next s ≡ n → ((t : S) → (turn next a t).said ≡ ended (next (run a t)) (ltb (units next a t) a))
      → (spent n s (λ t. turn next a t)).said ≡ ended (next (spent n s (λ t. turn next a t)).state) (ltb (counted n (λ t. units next a t)) (suc a))
  says_at a s over e h = rw e refl
  says_at a s (refuses r) e h = rw (e, is_true (ltb 0 (suc a)) (lt→ltb 0 (suc a) (omega arith))) refl
  says_at a s (does t) e h = h t ∙ ap (ended (next (turn next a t).state)) (sym (ltb_suc (units next a t) a))

  -- Finished exactly if no unit is left after it; refused exactly if the next unit refuses and the allowance had room for it; running otherwise.
  pub says : (a : ℕ) (s : S) → (turn next a s).said ≡ ended (next (run a s)) (ltb (units next a s) a)
  unfolding turn units
  says zero s = go (next s)
    where
      go : (n : Next S) → ended n false ≡ ended n (ltb 0 0)
      go over = refl
      go (refuses r) = refl
      go (does t) = refl
  says (suc a) s = says_at a s (next s) refl (λ t. says a t)

  -- ---- a loop that does one unit a turn: where it stops, and what refused

  pub met_none : (s : S) → met (turn next 0 s) ≡ record { state = s; said = running }
  unfolding turn
  met_none s = go (next s)
    where
      go : (n : Next S) → met record { state = s; said = ended n false } ≡ record { state = s; said = running }
      go over = refl
      go (refuses r) = refl
      go (does t) = refl

  refused_at : (n : ℕ) (s : S) (r : ℕ) → next s ≡ refuses r → met (turn next (suc n) s) ≡ record { state = s; said = refused r }
  unfolding turn
  refused_at n s r e = ap (λ (x : Next S). met (spent x s (λ t. turn next n t))) e

  done_at : (n : ℕ) (s t : S) → next s ≡ does t → met (turn next (suc n) s) ≡ met (turn next n t)
  unfolding turn
  done_at n s t e = ap (λ (x : Next S). met (spent x s (λ t. turn next n t))) e

  module _ (left : ℕ) (s : S) (some : 0 < left) where
    pub met_refused : (r : ℕ) → next s ≡ refuses r → met (turn next left s) ≡ record { state = s; said = refused r }
    met_refused r e = let f : left ≡ suc (left - 1) = omega arith in ap (λ (n : ℕ). met (turn next n s)) f ∙ refused_at (left - 1) s r e

    pub met_done : (t : S) → next s ≡ does t → met (turn next left s) ≡ met (turn next (left - 1) t)
    met_done t e = let f : left ≡ suc (left - 1) = omega arith in ap (λ (n : ℕ). met (turn next n s)) f ∙ done_at (left - 1) s t e

  -- ---- a turn taken apart: a first run of units, and then the rest if nothing refused

  abbrev pub onward : S → Said → (S → Turn S) → Turn S
  onward t finished f = f t
  onward t (refused r) f = record { state = t; said = refused r }
  onward t running f = f t

  pub over_turn : (b : ℕ) (s : S) → next s ≡ over → turn next b s ≡ record { state = s; said = finished }
  unfolding turn
  over_turn zero s e = ap (λ (n : Next S). record { state = s; said = ended n false }) e
  over_turn (suc b) s e = ap (λ (n : Next S). spent n s (λ t. turn next b t)) e

  apart_zero : (b : ℕ) (s : S) (n : Next S) → turn next b s ≡ onward s (ended n false) (λ t. turn next b t)
  apart_zero b s over = refl
  apart_zero b s (refuses r) = refl
  apart_zero b s (does t) = refl

  apart_at :
      (a b : ℕ) (s : S) (n : Next S) → next s ≡ n → ((t : S) → turn next (a + b) t ≡ onward (turn next a t).state (turn next a t).said (λ t. turn next b t))
      → spent n s (λ t. turn next (a + b) t) ≡ onward (spent n s (λ t. turn next a t)).state (spent n s (λ t. turn next a t)).said (λ t. turn next b t)
  apart_at a b s over e h = sym (over_turn b s e)
  apart_at a b s (refuses r) e h = refl
  apart_at a b s (does t) e h = h t

  apart : (a b : ℕ) (s : S) → turn next (a + b) s ≡ onward (turn next a s).state (turn next a s).said (λ t. turn next b t)
  unfolding turn
  apart zero b s = let e : 0 + b ≡ b = omega arith in ap (λ (n : ℕ). turn next n s) e ∙ apart_zero b s (next s)
  apart (suc a) b s = let e : suc a + b ≡ suc (a + b) = omega arith in ap (λ (n : ℕ). turn next n s) e ∙ apart_at a b s (next s) refl (λ t. apart a b t)

  onward_met : (t : S) (said : Said) (f : S → Turn S) → onward t said f ≡ onward t (halted said) f
  onward_met t finished f = refl
  onward_met t (refused r) f = refl
  onward_met t running f = refl

  -- what the first run met decides
  module _ (a b : ℕ) (s t : S) where
    pub first_refused : (r : ℕ) → met (turn next a s) ≡ record { state = t; said = refused r } → turn next (a + b) s ≡ record { state = t; said = refused r }
    first_refused r e =
        apart a b s ∙ onward_met (turn next a s).state (turn next a s).said (λ t. turn next b t)
        ∙ ap (λ (m : Turn S). onward m.state m.said (λ t. turn next b t)) e

    pub first_running : met (turn next a s) ≡ record { state = t; said = running } → turn next (a + b) s ≡ turn next b t
    first_running e =
        apart a b s ∙ onward_met (turn next a s).state (turn next a s).said (λ t. turn next b t)
        ∙ ap (λ (m : Turn S). onward m.state m.said (λ t. turn next b t)) e

  -- units that always go on until they refuse: where nothing refused, all were done
  pub all_done :
      (size : S → ℕ) → ((s t : S) → next s ≡ does t → size t ≡ size s + 1) → ((s : S) → next s ≡ over → ⊥)
      → (n : ℕ) (s t : S) → met (turn next n s) ≡ record { state = t; said = running } → size t ≡ size s + n
  all_done size one never zero s t e = let f : s ≡ t = ap (λ (m : Turn S). m.state) (sym (met_none s) ∙ e) in omega (arith, ap size f)
  all_done size one never (suc n) s t e = go (next s) refl (λ u. all_done size one never n u t)
    where
      go : (x : Next S) → next s ≡ x → ((u : S) → met (turn next n u) ≡ record { state = t; said = running } → size t ≡ size u + n) → size t ≡ size s + suc n
      go over f h = absurd (never s f)
      go (refuses r) f h =
          let q : refused r ≡ running = ap (λ (m : Turn S). m.said) (sym (refused_at n s r f) ∙ e) in let z : ◌≡◌ {A = ℕ} 0 1 = cc in absurd (omega arith)
      go (does u) f h = omega (arith, one s u f, h u (sym (done_at n s u f) ∙ e))

  -- a turn does no more units than it may
  pub most_done : (size : S → ℕ) → ((s t : S) → next s ≡ does t → size t ≡ size s + 1) → (n : ℕ) (s : S) → size (run n s) ≤ size s + n
  most_done size one zero s = omega (arith, ap size (none s))
  most_done size one (suc n) s = go (next s) refl (λ u. most_done size one n u)
    where
      go : (x : Next S) → next s ≡ x → ((u : S) → size (run n u) ≤ size u + n) → size (run (suc n) s) ≤ size s + suc n
      go over f h = omega (arith, ap size (at_end (suc n) s f))
      go (refuses r) f h = omega (arith, ap size (at_refusal (suc n) s r f))
      go (does u) f h = omega (arith, ap size (one_unit n s u f), one s u f, h u)

  no_units : (s : S) → units next 0 s ≡ 0
  unfolding units
  no_units s = refl

  -- the units done are those done before, and those of the turn
  pub counted_by : (size : S → ℕ) → ((s t : S) → next s ≡ does t → size t ≡ size s + 1) → (n : ℕ) (s : S) → size (run n s) ≡ size s + units next n s
  counted_by size one zero s = omega (arith, ap size (none s), no_units s)
  counted_by size one (suc n) s = go (next s) refl (λ u. counted_by size one n u)
    where
      go : (x : Next S) → next s ≡ x → ((u : S) → size (run n u) ≡ size u + units next n u) → size (run (suc n) s) ≡ size s + units next (suc n) s
      go over f h = omega (arith, ap size (at_end (suc n) s f), count_zero over s f (suc n) (λ t e. let z : ◌≡◌ {A = ℕ} 0 1 = cc in omega arith))
      go (refuses r) f h =
          omega (arith, ap size (at_refusal (suc n) s r f), count_zero (refuses r) s f (suc n) (λ t e. let z : ◌≡◌ {A = ℕ} 0 1 = cc in omega arith))
      go (does u) f h = omega (arith, ap size (one_unit n s u f), one s u f, h u, count_one n s u f)
