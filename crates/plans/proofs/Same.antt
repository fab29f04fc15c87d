-- What a build owes leaves nothing open: two states that are built with as many units are the same. Assumes nothing.
use mathlib.Core.Path.{◌≡◌, refl, sym, ap, ap₂, ◌∙◌, subst}
use mathlib.Core.Bool.{Bool, true, false}
use mathlib.Core.List.{List, [], ◌∷◌}
use Prim.Native.Nat.{ℕ, ◌+◌, ◌*◌, ◌/◌, ◌%◌, min}
use native.Mathlib.Omega.{arith}
use borrow.Author.Tests.{eqb-true, eqb-false, ltb-true, ltb-false}
use lib.Dec.{eqb, ltb}
use lib.ListN.{length, get_or}
use lib.Seq.{ext_get_or}
use Rattle.plans.specs.Plan.{Content, numbers, Plan, State, cells_done}
use Rattle.plans.specs.Built.{progress_of, content_at, doable, Built}
use Rattle.plans.specs.declared.Progress.{Progress}

pair_same : {X : Type 0} (x : Content X) (a d a' d' : X) → x ≡ numbers a d → x ≡ numbers a' d' → (a ≡ a') × (d ≡ d')
pair_same x a d a' d' e f = (cc, cc)

empty : {X : Type 0} (l : List X) → length l ≡ 0 → l ≡ []
empty [] e = refl
empty (x ∷ l) e = absurd (omega (arith, e))

-- the two places of a cell
by_two : (P : ℕ → Type 0) (i : ℕ) → P (2 * (i / 2)) → P (2 * (i / 2) + 1) → P i
by_two P i even odd = go (eqb (i % 2) 0) refl
  where
    go : (y : Bool) → eqb (i % 2) 0 ≡ y → P i
    go true f = let e : 2 * (i / 2) ≡ i = omega (arith, eqb-true (i % 2) 0 f) in subst P e even
    go false f = let e : 2 * (i / 2) + 1 ≡ i = omega (arith, eqb-false (i % 2) 0 f) in subst P e odd

-- two builds over one table, of plans with the same cells, that have as many cells done
module _ {X : Type 0} (p q : Plan X) (alike : (c : ℕ) → content_at p c ≡ content_at q c) (table : List X) (A B : ℕ) (s t : State X) (b : Built p table A s) (c : Built q table B t) (done_same : cells_done p.sweep s ≡ cells_done q.sweep t) where
  each_place : (d : X) (i : ℕ) (x : Bool) → ltb (i / 2) (cells_done p.sweep s) ≡ x → get_or s.cells i d ≡ get_or t.cells i d
  each_place d i false e =
      let past = ltb-false (i / 2) (cells_done p.sweep s) e in
      b.untouched i d (omega (arith, past)) ∙ sym (c.untouched i d (omega (arith, past, done_same)))
  each_place d i true e =
      let l = ltb-true (i / 2) (cells_done p.sweep s) e in
      let two = pair_same (content_at p (i / 2)) _ _ _ _ (b.cells_hold (i / 2) d l) (alike (i / 2) ∙ c.cells_hold (i / 2) d (omega (arith, l, done_same))) in
      by_two (λ j. get_or s.cells j d ≡ get_or t.cells j d) i two.0 two.1

  pub same_cells : s.cells ≡ t.cells
  same_cells = go table refl
    where
      go : (l : List X) → table ≡ l → s.cells ≡ t.cells
      go [] e = empty s.cells (b.as_long ∙ ap length e) ∙ sym (empty t.cells (c.as_long ∙ ap length e))
      go (d ∷ l) e = ext_get_or d s.cells t.cells (b.as_long ∙ sym c.as_long) (λ i h. each_place d i (ltb (i / 2) (cells_done p.sweep s)) refl)

module _ {X : Type 0} (p : Plan X) (table : List X) (A B : ℕ) (s t : State X) (b : Built p table A s) (c : Built p table B t) (same : min A (doable p) ≡ min B (doable p)) where
  same_progress : s.at ≡ t.at
  same_progress = b.progress ∙ ap (progress_of p.sweep) same ∙ sym c.progress

  pub built_same : s ≡ t
  built_same =
      ap₂ (λ (at : Progress) (cells : List X). record { at = at; cells = cells }) same_progress
      (same_cells p p (λ c. refl) table A B s t b c (omega (arith, ap (λ (x : Progress). x.done) same_progress)))
