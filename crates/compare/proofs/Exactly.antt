-- The differing cells by their number in row order; no cell differs exactly if the tables are equal. Assumes nothing.
use mathlib.Core.Path.{◌≡◌, refl, ap, ap₂, ◌∙◌}
use mathlib.Core.Bool.{Bool, true, false, cond, ◌&&◌}
use mathlib.Core.List.{List, [], ◌∷◌, ◌++◌}
use Prim.Native.Nat.{ℕ, suc, ◌+◌, ◌*◌, ◌<◌}
use native.Mathlib.Omega.{arith}
use borrow.Author.Tests.{eq-eqb}
use lib.Dec.{eqb}
use lib.ListN.{length, get_or, drop}
use Rattle.listing_lines.specs.Line.{difference_line}
use Rattle.listing.specs.Listing.{across, down, each}
use Rattle.listing.proofs.Each.{by_number, two, no_more}
use Rattle.compare.specs.Report.{differing, told_at}

-- ---- each cell by its number

module _ (w n : ℕ) (old new : List ℕ) (f : length old ≡ 2 * n) (g : length new ≡ 2 * n) where
  -- what is told of cell k, which stands at (u, v)
  abbrev line_of : ℕ → ℕ → ℕ → List (List ℕ)
  line_of k u v =
      let a = get_or old (2 * k) 0 in
      let b = get_or old (2 * k + 1) 0 in
      let c = get_or new (2 * k) 0 in
      let d = get_or new (2 * k + 1) 0 in
      cond (eqb a c && eqb b d) [] (difference_line u v a b c d ∷ [])

  pub each_differing : 0 < w → differing w 0 0 old new ≡ each (told_at w old new) 0 n
  unfolding differing
  each_differing l = by_number w n line_of (λ k u v. differing w u v (drop (2 * k) old) (drop (2 * k) new)) ends goes l
    where
      ends : (u v : ℕ) → differing w u v (drop (2 * n) old) (drop (2 * n) new) ≡ []
      ends u v = ap (λ (t : List ℕ). differing w u v t (drop (2 * n) new)) (no_more old n f)

      by_cell :
          (t : Bool) (s : List ℕ) (later : List (List ℕ)) →
          cond t later (s ∷ later) ≡ cond t [] (s ∷ []) ++ later
      by_cell true s later = refl
      by_cell false s later = refl

      goes :
          (k u v : ℕ) → k < n → u < w → v * w + u ≡ k →
          differing w u v (drop (2 * k) old) (drop (2 * k) new)
          ≡ line_of k u v ++ differing w (across w u) (down w u v) (drop (2 * suc k) old) (drop (2 * suc k) new)
      goes k u v i j e =
          let a = get_or old (2 * k) 0 in
          let b = get_or old (2 * k + 1) 0 in
          let c = get_or new (2 * k) 0 in
          let d = get_or new (2 * k + 1) 0 in
          ap₂ (differing w u v) (two old k (omega arith)) (two new k (omega arith))
          ∙ by_cell (eqb a c && eqb b d) (difference_line u v a b c d)
          (differing w (across w u) (down w u v) (drop (2 * suc k) old) (drop (2 * suc k) new))

-- ---- equal tables

pub none_differing : (w u v : ℕ) (cells : List ℕ) → differing w u v cells cells ≡ []
unfolding differing
none_differing w u v [] = refl
none_differing w u v (a ∷ []) = refl
none_differing w u v (a ∷ b ∷ cells) = simp (eq-eqb a a refl, eq-eqb b b refl) (none_differing w (across w u) (down w u v) cells)
