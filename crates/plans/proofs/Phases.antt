-- A turn in two phases: what the sweep met decides, and then what the filler met, in the part of the table that it is lent. Assumes nothing.
use mathlib.Core.Path.{◌≡◌, refl, sym, ap, ◌∙◌}
use mathlib.Core.Bool.{Bool, true, false, cond}
use mathlib.Core.List.{List, [], ◌∷◌, ◌++◌}
use Prim.Native.Nat.{ℕ, suc, ◌+◌, ◌-◌, ◌*◌, ◌/◌, ◌%◌, ◌≤◌, ◌<◌, min}
use native.Mathlib.Nat.{min-le_left, min-le_right}
use native.Mathlib.Omega.{arith}
use borrow.Author.Tests.{ltb-true, lt-ltb, le-ltb}
use lib.Dec.{ltb}
use lib.ListN.{length, set, take, drop, take-append-drop}
use lib.Seq.{length-take-le}
use Rattle.turns.specs.Turns.{Next, over, refuses, does, Said, finished, refused, running, Turn, halted, ended, turn, met}
use Rattle.turns.proofs.Laws.{first_refused, first_running, over_turn, all_done, most_done}
use Rattle.turns.proofs.Lifted.{lifted, lift_next, lift_run}
use Rattle.plans.specs.Plan.{Content, numbers, none, Plan, State, with_done, all_units, cells_done, swept, table_alone, put_in, cell_unit, next}
use Rattle.plans.specs.Loops.{Filling, put, filled, Lent, reached, after_run}
use Rattle.plans.specs.declared.Progress.{Progress}
use Rattle.plans.proofs.AtBorder.{swept_counts, swept_there}

-- where less than all are left, the allowance was the smaller
last_left : (left all count : ℕ) → count ≡ min left all → count < all → left - count ≡ 0
last_left left all count e h = omega (arith, e, h)

-- what a run met is never that all was done
pub never_finished : (x : Said) → halted x ≡ finished → ⊥
never_finished finished e = let z : ◌≡◌ {A = ℕ} 0 1 = cc in omega arith
never_finished (refused r) e = let z : ◌≡◌ {A = ℕ} 0 1 = cc in omega arith
never_finished running e = let z : ◌≡◌ {A = ℕ} 0 1 = cc in omega arith

-- ---- the sweep, beside an untouched table

module _ {X : Type 0} (p : Plan X) (cells : List X) where
  abbrev with_table : Progress → State X
  with_table at = record { at = at; cells = cells }

  table_alone_is : (n : Next Progress) → table_alone cells n ≡ lift_next with_table n
  table_alone_is over = refl
  table_alone_is (refuses r) = refl
  table_alone_is (does t) = refl

  at_border : (at : Progress) → at.done < p.sweep.samples → next p (with_table at) ≡ lift_next with_table (swept p.sweep at)
  unfolding next
  at_border at h = ap (λ (b : Bool). cond b (table_alone cells (swept p.sweep at)) (cond (ltb at.done (all_units p.sweep)) (cell_unit p (with_table at)) over)) (lt-ltb at.done p.sweep.samples h) ∙ table_alone_is (swept p.sweep at)

  pub sweep_is : (n : ℕ) (at : Progress) → n ≤ p.sweep.samples - at.done → met (turn (next p) n (with_table at)) ≡ lifted with_table (met (turn (swept p.sweep) n at))
  sweep_is n at h = lift_run with_table (swept p.sweep) (next p) (λ (a : Progress). p.sweep.samples - a.done) (λ a r. at_border a (omega arith)) (λ a t e. omega (arith, (swept_counts p.sweep a t e).units)) n at h

-- where the sweep of `count` units stopped, and what it met, given an allowance
module _ {X : Type 0} (p : Plan X) (at : Progress) (cells : List X) (allowance count : ℕ) (counted : count ≡ min allowance (p.sweep.samples - at.done))
    (stop : Progress) (said : Said) (e : record { state = stop; said = said } ≡ met (turn (swept p.sweep) count at)) where
  less : count ≤ allowance
  less = omega (arith, counted, min-le_left allowance (p.sweep.samples - at.done))

  room : count ≤ p.sweep.samples - at.done
  room = omega (arith, counted, min-le_right allowance (p.sweep.samples - at.done))

  abbrev here : State X
  here = record { at = at; cells = cells }

  abbrev there : State X
  there = record { at = stop; cells = cells }

  first_run : met (turn (next p) count here) ≡ record { state = there; said = said }
  first_run = sweep_is p cells count at room ∙ ap (lifted (λ (a : Progress). record { at = a; cells = cells })) (sym e)

  apart : turn (next p) allowance here ≡ turn (next p) (count + (allowance - count)) here
  apart = let f : allowance ≡ count + (allowance - count) = omega (arith, less) in ap (λ (n : ℕ). turn (next p) n here) f

  -- a sample refused: the turn ends there
  pub border_refused : (r : ℕ) → said ≡ refused r → turn (next p) allowance here ≡ record { state = there; said = refused r }
  border_refused r f = apart ∙ first_refused (next p) count (allowance - count) here there r (first_run ∙ ap (λ (x : Said). record { state = there; said = x }) f)

  -- none did: the rest of the turn goes on from there
  pub border_on : said ≡ running → turn (next p) allowance here ≡ turn (next p) (allowance - count) there
  border_on f = apart ∙ first_running (next p) count (allowance - count) here there (first_run ∙ ap (λ (x : Said). record { state = there; said = x }) f)

  border_done : said ≡ running → stop.done ≡ at.done + count
  border_done f = all_done (swept p.sweep) (λ (a : Progress). a.done) (λ a t d. (swept_counts p.sweep a t d).units) (swept_there p.sweep) count at stop (sym e ∙ ap (λ (x : Said). record { state = stop; said = x }) f)

  -- and either the border is behind it or the allowance is spent
  pub border_within : at.done ≤ all_units p.sweep → said ≡ running → stop.done ≤ all_units p.sweep
  border_within h f = omega (arith, h, border_done f, room)

  pub border_spent : said ≡ running → stop.done < p.sweep.samples → allowance - count ≡ 0
  border_spent f h = last_left allowance (p.sweep.samples - at.done) count counted (omega (arith, border_done f, h))

-- ---- the filler, in the part of the table behind `ahead`

module _ {X : Type 0} where
  set_behind : (p q : List X) (i : ℕ) (a : X) → set (p ++ q) (length p + i) a ≡ p ++ set q i a
  set_behind [] q i a = let e : 0 + i ≡ i = omega arith in ap (λ (k : ℕ). set q k a) e
  set_behind (x ∷ p) q i a =
      let e : suc (length p) + i ≡ suc (length p + i) = omega arith in
      ap (λ (k : ℕ). set (x ∷ (p ++ q)) k a) e ∙ ap (λ (l : List X). x ∷ l) (set_behind p q i a)

module _ {X : Type 0} (p : Plan X) (first : ℕ) (at : Progress) (ahead : List X) (far : length ahead ≡ 2 * first) where
  abbrev in_table : Filling X → State X
  in_table f = record { at = with_done at (p.sweep.samples + (first + f.done)); cells = ahead ++ f.cells }

  put_is : (x : Content X) (f : Filling X) → put_in x (first + f.done) (in_table f) ≡ lift_next in_table (put x f)
  put_is (none r) f = refl
  put_is (numbers a b) f =
      let n : p.sweep.samples + (first + f.done) + 1 ≡ p.sweep.samples + (first + (f.done + 1)) = omega arith in
      let i : 2 * (first + f.done) ≡ length ahead + 2 * f.done = omega arith in
      let j : 2 * (first + f.done) + 1 ≡ length ahead + (2 * f.done + 1) = omega arith in
      let c : set (set (ahead ++ f.cells) (2 * (first + f.done)) a) (2 * (first + f.done) + 1) b ≡ ahead ++ set (set f.cells (2 * f.done) a) (2 * f.done + 1) b =
      ap (λ (k : ℕ). set (set (ahead ++ f.cells) k a) (2 * (first + f.done) + 1) b) i
      ∙ ap (λ (k : ℕ). set (set (ahead ++ f.cells) (length ahead + 2 * f.done) a) k b) j
      ∙ ap (λ (l : List X). set l (length ahead + (2 * f.done + 1)) b) (set_behind ahead f.cells (2 * f.done) a)
      ∙ set_behind ahead (set f.cells (2 * f.done) a) (2 * f.done + 1) b in
      ap (λ (k : ℕ). does record { at = with_done at k; cells = set (set (ahead ++ f.cells) (2 * (first + f.done)) a) (2 * (first + f.done) + 1) b }) n
      ∙ ap (λ (l : List X). does record { at = with_done at (p.sweep.samples + (first + (f.done + 1))); cells = l }) c

  abbrev here_filled : Filling X → Next (Filling X)
  here_filled = filled (p.cell at.region) p.sweep.width first

  at_cells : (f : Filling X) → first + f.done < p.sweep.width * p.sweep.height → next p (in_table f) ≡ lift_next in_table (here_filled f)
  unfolding next filled
  at_cells f h =
      let d = p.sweep.samples + (first + f.done) in
      let e : d - p.sweep.samples ≡ first + f.done = omega arith in
      ap (λ (b : Bool). cond b (table_alone (ahead ++ f.cells) (swept p.sweep (in_table f).at)) (cond (ltb d (all_units p.sweep)) (cell_unit p (in_table f)) over)) (le-ltb d p.sweep.samples (omega arith))
      ∙ ap (λ (b : Bool). cond b (cell_unit p (in_table f)) over) (lt-ltb d (all_units p.sweep) (omega arith))
      ∙ ap (λ (c : ℕ). put_in (p.cell at.region (c % p.sweep.width) (c / p.sweep.width)) c (in_table f)) e
      ∙ put_is (p.cell at.region ((first + f.done) % p.sweep.width) ((first + f.done) / p.sweep.width)) f

  filled_counts : (f g : Filling X) → here_filled f ≡ does g → g.done ≡ f.done + 1
  unfolding filled
  filled_counts f g = counted (p.cell at.region ((first + f.done) % p.sweep.width) ((first + f.done) / p.sweep.width))
    where
      counted : (x : Content X) → put x f ≡ does g → g.done ≡ f.done + 1
      counted (none r) e = let z : ◌≡◌ {A = ℕ} 0 1 = cc in absurd (omega arith)
      counted (numbers a b) e = cc

  filled_there : (f : Filling X) → here_filled f ≡ over → ⊥
  unfolding filled
  filled_there f = there_is (p.cell at.region ((first + f.done) % p.sweep.width) ((first + f.done) / p.sweep.width))
    where
      there_is : (x : Content X) → put x f ≡ over → ⊥
      there_is (none r) e = let z : ◌≡◌ {A = ℕ} 0 1 = cc in omega arith
      there_is (numbers a b) e = let z : ◌≡◌ {A = ℕ} 0 1 = cc in omega arith

  fill_is : (n : ℕ) (f : Filling X) → first + f.done + n ≤ p.sweep.width * p.sweep.height → met (turn (next p) n (in_table f)) ≡ lifted in_table (met (turn here_filled n f))
  fill_is n f h = lift_run in_table here_filled (next p) (λ (g : Filling X). p.sweep.width * p.sweep.height - (first + g.done)) (λ g r. at_cells g (omega arith)) (λ g t e. omega (arith, filled_counts g t e)) n f (omega arith)

-- ---- a turn at its end

cell_there : {X : Type 0} (x : Content X) (c : ℕ) (s : State X) → ended (put_in x c s) false ≡ running
cell_there (numbers a b) c s = refl
cell_there (none r) c s = refl

module _ {X : Type 0} (p : Plan X) (s : State X) where
  abbrev says : Said → Turn (State X)
  says said = record { state = s; said = said }

  past_border : p.sweep.samples ≤ s.at.done → next p s ≡ cond (ltb s.at.done (all_units p.sweep)) (cell_unit p s) over
  unfolding next
  past_border h = ap (λ (b : Bool). cond b (table_alone s.cells (swept p.sweep s.at)) (cond (ltb s.at.done (all_units p.sweep)) (cell_unit p s) over)) (le-ltb s.at.done p.sweep.samples h)

  before_border : s.at.done < p.sweep.samples → next p s ≡ table_alone s.cells (swept p.sweep s.at)
  unfolding next
  before_border h = ap (λ (b : Bool). cond b (table_alone s.cells (swept p.sweep s.at)) (cond (ltb s.at.done (all_units p.sweep)) (cell_unit p s) over)) (lt-ltb s.at.done p.sweep.samples h)

  none_spent : turn (next p) 0 s ≡ says (ended (next p s) false)
  unfolding turn
  none_spent = refl

  -- with its allowance spent, or no cell left, a turn is at its end
  pub at_last : (k : ℕ) → p.sweep.samples ≤ s.at.done → (s.at.done < all_units p.sweep → k ≡ 0) → turn (next p) k s ≡ says (reached s.at.done (all_units p.sweep))
  at_last k past spent = go (ltb s.at.done (all_units p.sweep)) refl
    where
      go : (b : Bool) → ltb s.at.done (all_units p.sweep) ≡ b → turn (next p) k s ≡ says (cond b running finished)
      go true e =
          ap (λ (n : ℕ). turn (next p) n s) (spent (ltb-true s.at.done (all_units p.sweep) e))
          ∙ none_spent
          ∙ ap (λ (n : Next (State X)). says (ended n false)) (past_border past ∙ ap (λ (b : Bool). cond b (cell_unit p s) over) e)
          ∙ ap says (cell_there (p.cell s.at.region (cells_done p.sweep s % p.sweep.width) (cells_done p.sweep s / p.sweep.width)) (cells_done p.sweep s) s)
      go false e = over_turn (next p) k s (past_border past ∙ ap (λ (b : Bool). cond b (cell_unit p s) over) e)

  -- before the border's end with its allowance spent
  pub at_border_spent : s.at.done < p.sweep.samples → turn (next p) 0 s ≡ says running
  at_border_spent h = none_spent ∙ ap (λ (n : Next (State X)). says (ended n false)) (before_border h) ∙ ap says (go (swept p.sweep s.at) refl)
    where
      go : (n : Next Progress) → swept p.sweep s.at ≡ n → ended (table_alone s.cells n) false ≡ running
      go over e = absurd (swept_there p.sweep s.at e)
      go (refuses r) e = refl
      go (does t) e = refl

-- ---- the cells: `done` of `count` were filled from the one numbered `first` on, and the filler met that
module _ {X : Type 0} (p : Plan X) (at : Progress) (cells : List X) (left first count : ℕ) (here : at.done ≡ p.sweep.samples + first) (counted : count ≡ min left (p.sweep.width * p.sweep.height - first))
    (within : first ≤ p.sweep.width * p.sweep.height) (long : length cells ≡ 2 * (p.sweep.width * p.sweep.height)) (done : ℕ) (said : Said) (after : List X) (l : Lent (p.cell at.region) p.sweep.width first count cells done said after) where
  abbrev ahead : List X
  ahead = take (2 * first) cells

  far : length ahead ≡ 2 * first
  far = length-take-le (2 * first) cells (omega arith)

  abbrev begin : State X
  begin = record { at = at; cells = cells }

  abbrev end : State X
  end = record { at = with_done at (p.sweep.samples + (first + done)); cells = after }

  start_is : in_table p first at ahead far record { done = 0; cells = drop (2 * first) cells } ≡ begin
  start_is =
      let d : p.sweep.samples + (first + 0) ≡ at.done = omega arith in
      ap (λ (n : ℕ). record { at = with_done at n; cells = ahead ++ drop (2 * first) cells }) d ∙ ap (λ (c : List X). record { at = at; cells = c }) (take-append-drop (2 * first) cells)

  end_is : in_table p first at ahead far record { done = done; cells = drop (2 * first) after } ≡ end
  end_is = ap (λ (c : List X). record { at = with_done at (p.sweep.samples + (first + done)); cells = c }) (ap (λ (a : List X). a ++ drop (2 * first) after) (sym l.untouched) ∙ take-append-drop (2 * first) after)

  cells_run : met (turn (next p) count begin) ≡ record { state = end; said = said }
  cells_run =
      ap (λ (s : State X). met (turn (next p) count s)) (sym start_is)
      ∙ fill_is p first at ahead far count record { done = 0; cells = drop (2 * first) cells } (omega (arith, min-le_right left (p.sweep.width * p.sweep.height - first)))
      ∙ ap (lifted (in_table p first at ahead far)) (sym l.part)
      ∙ ap (λ (s : State X). record { state = s; said = said }) end_is

  cells_apart : turn (next p) left begin ≡ turn (next p) (count + (left - count)) begin
  cells_apart = let e : left ≡ count + (left - count) = omega (arith, min-le_left left (p.sweep.width * p.sweep.height - first)) in ap (λ (n : ℕ). turn (next p) n begin) e

  -- a cell refused: the turn ends there
  cells_refused : (r : ℕ) → said ≡ refused r → turn (next p) left begin ≡ record { state = end; said = refused r }
  cells_refused r e = cells_apart ∙ first_refused (next p) count (left - count) begin end r (cells_run ∙ ap (λ (x : Said). record { state = end; said = x }) e)

  pub filled_most : done ≤ count
  filled_most =
      let d = most_done (filled (p.cell at.region) p.sweep.width first) (λ (g : Filling X). g.done) (filled_counts p first at ahead far) count record { done = 0; cells = drop (2 * first) cells } in
      omega (arith, d, ap (λ (t : Turn (Filling X)). t.state.done) l.part)

  all_filled : said ≡ running → done ≡ count
  all_filled e =
      let d = all_done (filled (p.cell at.region) p.sweep.width first) (λ (g : Filling X). g.done) (filled_counts p first at ahead far) (filled_there p first at ahead far) count
      record { done = 0; cells = drop (2 * first) cells } record { done = done; cells = drop (2 * first) after }
      (sym l.part ∙ ap (λ (x : Said). record { state = record { done = done; cells = drop (2 * first) after }; said = x }) e) in
      omega (arith, d)

  -- none did: all are done that the turn may do, or that there are
  cells_on : said ≡ running → turn (next p) left begin ≡ record { state = end; said = reached (p.sweep.samples + (first + done)) (all_units p.sweep) }
  cells_on e =
      cells_apart
      ∙ first_running (next p) count (left - count) begin end (cells_run ∙ ap (λ (x : Said). record { state = end; said = x }) e)
      ∙ at_last p end (left - count) (omega arith) (λ h. last_left left (p.sweep.width * p.sweep.height - first) count counted (omega (arith, all_filled e)))

  abbrev ends_with : ℕ → Said → Turn (State X)
  ends_with n x = record { state = record { at = with_done at n; cells = after }; said = after_run x (reached n (all_units p.sweep)) }

  -- a turn's cells: it ends behind those done, refused where the filler was
  pub cells_end : ends_with (at.done + done) said ≡ turn (next p) left begin
  cells_end =
      let e : at.done + done ≡ p.sweep.samples + (first + done) = omega (arith, here) in
      ap (λ (n : ℕ). ends_with n said) e ∙ sym (go said refl)
    where
      go : (x : Said) → said ≡ x → turn (next p) left begin ≡ ends_with (p.sweep.samples + (first + done)) x
      go (refused r) e = cells_refused r e
      go running e = cells_on e
      go finished e = absurd (never_finished (turn (filled (p.cell at.region) p.sweep.width first) count record { done = 0; cells = drop (2 * first) cells }).said (sym (ap (λ (t : Turn (Filling X)). t.said) l.part) ∙ e))
