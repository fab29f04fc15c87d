-- What the two loops of a turn come to: a run of border units, and a run of cells that fills the part of the table it
-- is lent. Definitions only.
use Rattle.std.specs.Prelude.{◌≡◌, cond, List, ℕ, ◌+◌, ◌*◌, ◌/◌, ◌%◌, ltb, set, take, drop}
use Rattle.turns.specs.Turns.{Next, refuses, does, Said, finished, refused, running, turn, met}
use Rattle.plans.specs.Plan.{Content, numbers, none}

-- ---- cells, from the one numbered `first` on, into the part of the table that begins with it

pub record Filling (X : Type 0) : Type 0 where
  pub done : ℕ
  pub cells : List X

abbrev pub put : {X : Type 0} → Content X → Filling X → Next (Filling X)
put (none r) f = refuses r
put (numbers a b) f = does record {
  done = f.done + 1;
  cells = set (set f.cells (2 * f.done) a) (2 * f.done + 1) b;
}

-- `cell` says what the cell of a column and a row holds
unfoldable pub filled : {X : Type 0} → (ℕ → ℕ → Content X) → ℕ → ℕ → Filling X → Next (Filling X)
filled cell width first f = put (cell ((first + f.done) % width) ((first + f.done) / width)) f

-- what a run of so many cells makes of the table: nothing of what is ahead of it, and behind that what the cells hold;
-- `done` of them, and what it met
pub record Lent
    {X :
    Type 0} (cell : ℕ → ℕ
    → Content X) (width first count : ℕ) (before : List X) (done : ℕ) (said : Said) (after : List X)
    : Type 0 where
  pub untouched : take (2 * first) after ≡ take (2 * first) before
  pub part :
      record { state = record { done = done; cells = drop (2 * first) after }; said = said }
      ≡ met (turn (filled cell width first) count record { done = 0; cells = drop (2 * first) before })

-- ---- a turn's end: what it says that nothing refused, and what it says after a run that met this

abbrev pub reached : ℕ → ℕ → Said
reached done all = cond (ltb done all) running finished

abbrev pub after_run : Said → Said → Said
after_run (refused r) then = refused r
after_run running then = then
after_run finished then = then
