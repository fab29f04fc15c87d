-- The filler's loop, whatever a cell holds two of: what it keeps from cell to cell, and how a run ends. Assumes nothing.
use mathlib.Core.Path.{◌≡◌, refl, sym, ap, ◌∙◌}
use mathlib.Core.List.{List}
use Prim.Native.Nat.{ℕ, ◌+◌, ◌-◌, ◌*◌, ◌/◌, ◌%◌, ◌≤◌, ◌<◌}
use native.Mathlib.Nat.{mod-lt, div-add-mod', add-zero, mod-eq_of_lt, div-eq_of_lt, mul-add-mod_self_right, mul-add-div_right}
use native.Mathlib.Omega.{arith}
use lib.ListN.{length, set, length-set}
use Rattle.turns.specs.Turns.{refused, running, Turn, turn, met}
use Rattle.turns.proofs.Laws.{met_none, met_refused, met_done}
use Rattle.plans.specs.Loops.{Filling, put, filled}
use Rattle.plans.specs.Plan.{Content, numbers, none}

-- ---- a cell's column and row, by its number

module _ (width u v n : ℕ) (within : u < width) (e : v * width + u ≡ n) where
  column : n % width ≡ u
  column = ap (λ (k : ℕ). k % width) (sym e) ∙ mul-add-mod_self_right v width u ∙ mod-eq_of_lt within

  row : n / width ≡ v
  row = ap (λ (k : ℕ). k / width) (sym e) ∙ mul-add-div_right (omega arith) v u ∙ ap (λ (k : ℕ). v + k) (div-eq_of_lt within) ∙ omega arith

-- ---- the loop

module _ {X : Type 0} (cell : ℕ → ℕ → Content X) (width first count : ℕ) (rest₀ : List X) where
  abbrev pub run : ℕ → ℕ → List X → Turn (Filling X)
  run n i rest = met (turn (filled cell width first) n record { done = i; cells = rest })

  abbrev pub whole : Turn (Filling X)
  whole = run count 0 rest₀

  -- i cells are filled, the next one's place is (u, v), and the cells left from here meet what all of them meet
  pub record Filled (u v i : ℕ) (rest : List X) : Type 0 where
    pub within : i ≤ count
    pub inside : u < width
    pub place : v * width + u ≡ first + i
    pub long : length rest ≡ length rest₀
    pub meets : run (count - i) i rest ≡ whole

module _ {X : Type 0} {cell : ℕ → ℕ → Content X} {width first count : ℕ} {rest₀ : List X} where
  pub none_filled : 0 < width → Filled cell width first count rest₀ (first % width) (first / width) 0 rest₀
  none_filled w =
      let e : count - 0 ≡ count = omega arith in
      record {
        within = omega arith;
        inside = mod-lt first w;
        place = div-add-mod' first width ∙ sym (add-zero first);
        long = refl;
        meets = ap (λ (n : ℕ). run cell width first count rest₀ n 0 rest₀) e;
      }

  module _ {u v i : ℕ} {rest : List X} (f : Filled cell width first count rest₀ u v i rest) where
    abbrev here : Filling X
    here = record { done = i; cells = rest }

    abbrev onward : ℕ → Filling X → Turn (Filling X)
    onward n s = met (turn (filled cell width first) n s)

    pub all_filled : count ≤ i → record { state = here; said = running } ≡ whole cell width first count rest₀
    all_filled h =
        let z : count - i ≡ 0 = omega (arith, h) in
        sym (ap (λ (n : ℕ). onward n here) z ∙ met_none (filled cell width first) here) ∙ f.meets

    module _ (some : i < count) where
      next_is : (x : Content X) → cell u v ≡ x → filled cell width first here ≡ put x here
      unfolding filled
      next_is x e =
          ap (λ (n : ℕ). put (cell n ((first + i) / width)) here) (column width u v (first + i) f.inside f.place)
          ∙ ap (λ (n : ℕ). put (cell u n) here) (row width u v (first + i) f.inside f.place)
          ∙ ap (λ (y : Content X). put y here) e

      pub one_refused : (r : ℕ) → cell u v ≡ none r → record { state = here; said = refused r } ≡ whole cell width first count rest₀
      one_refused r e = sym (met_refused (filled cell width first) (count - i) here (omega (arith, some)) r (next_is (none r) e)) ∙ f.meets

      pub one_filled :
          (a b : X) → cell u v ≡ numbers a b → (u' v' : ℕ) → u' < width → v' * width + u' ≡ v * width + u + 1
          → Filled cell width first count rest₀ u' v' (i + 1) (set (set rest (2 * i) a) (2 * i + 1) b)
      one_filled a b e u' v' w n =
          let t : Filling X = record { done = i + 1; cells = set (set rest (2 * i) a) (2 * i + 1) b } in
          let k : count - (i + 1) ≡ count - i - 1 = omega (arith, some) in
          record {
            within = omega (arith, some);
            inside = w;
            place = omega (arith, n, f.place);
            long = length-set (set rest (2 * i) a) (2 * i + 1) b ∙ length-set rest (2 * i) a ∙ f.long;
            meets = ap (λ (m : ℕ). onward m t) k ∙ sym (met_done (filled cell width first) (count - i) here (omega (arith, some)) t (next_is (numbers a b) e)) ∙ f.meets;
          }
