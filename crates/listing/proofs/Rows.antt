-- The cells one after the other: what the code does in a turn is what the definition says of the rest of the table. Assumes nothing.
use mathlib.Core.Path.{◌≡◌, refl, sym, ap, ap₂, ◌∙◌}
use mathlib.Core.Bool.{Bool, true, false, cond}
use mathlib.Core.List.{List, [], ◌∷◌, ◌++◌}
use Prim.Native.Nat.{ℕ, ◌+◌, ◌≤◌, ◌<◌}
use native.Mathlib.Omega.{arith}
use borrow.Author.Tests.{lt-ltb, le-ltb}
use lib.Dec.{eqb}
use lib.Ieee.{Float, nan}
use lib.ListN.{length, get_or, length-append}
use Rattle.region.specs.declared.Region.{Region}
use Rattle.listing_lines.specs.Line.{table_line, region_line, cell_line}
use Rattle.listing.specs.Listing.{across, down, cell_texts, cell_lines, listing_lines}
use Rattle.put_text.specs.Placed.{Written, written, placed, placed_all}
use Rattle.put_text.proofs.Putting.{stopped, went_on}
use Rattle.listing_lines.proofs.Lines.{table_some, region_some, cell_some}

-- ---- the next place

by_end : (t : Bool) (a b : ℕ) (m : ℕ) → a ≤ m → b ≤ m → cond t a b ≤ m
by_end true a b m h k = h
by_end false a b m h k = k

across_most : (width u : ℕ) → across width u ≤ u + 1
unfolding across
across_most width u = by_end (eqb (u + 1) width) 0 (u + 1) (u + 1) (omega arith) (omega arith)

down_most : (width u v : ℕ) → down width u v ≤ v + 1
unfolding down
down_most width u v = by_end (eqb (u + 1) width) (v + 1) v (v + 1) (omega arith) (omega arith)

-- ---- the rest of the table

at_most_one : (width height u v : ℕ) (rest : List Float) → length rest < 2 → cell_lines width height u v rest ≡ []
unfolding cell_texts
at_most_one width height u v [] h = refl
at_most_one width height u v (a ∷ []) h = refl
at_most_one width height u v (a ∷ b ∷ rest) h = absurd (omega arith)

past_rows : (width height u v : ℕ) (rest : List Float) → height ≤ v → cell_lines width height u v rest ≡ []
unfolding cell_texts
past_rows width height u v [] l = refl
past_rows width height u v (a ∷ []) l = refl
past_rows width height u v (a ∷ b ∷ rest) l = simp (le-ltb v height l)

in_rows : (width height u v : ℕ) (pair rest : List Float) → length pair ≡ 2 → v < height →
    cell_lines width height u v (pair ++ rest)
    ≡ cell_line u v (get_or pair 0 nan) (get_or pair 1 nan) ∷ cell_lines width height (across width u) (down width u v) rest
unfolding cell_texts
in_rows width height u v [] rest h l = absurd (omega arith)
in_rows width height u v (a ∷ []) rest h l = absurd (omega arith)
in_rows width height u v (a ∷ b ∷ []) rest h l = simp (lt-ltb v height l)
in_rows width height u v (a ∷ b ∷ c ∷ pair) rest h l = absurd (omega arith)

-- ---- what holds at each turn

-- what is put of the rest of the table from here is what is put of the whole table from the start
pub record Passed (w₀ : Written) (table : List Float) (width height : ℕ) (w : Written) (u v : ℕ) (rest : List Float) : Type 0 where
  pub left : u + length rest ≤ length table
  pub above : v + length rest ≤ length table
  pub makes : placed_all w (cell_lines width height u v rest) ≡ placed_all w₀ (cell_lines width height 0 0 table)

pub none_passed : (w : Written) (table rest : List Float) (width height : ℕ) → rest ≡ table → Passed w table width height w 0 0 rest
none_passed w table rest width height e = record {
  left = omega (arith, ap length e);
  above = omega (arith, ap length e);
  makes = ap (λ (l : List Float). placed_all w (cell_lines width height 0 0 l)) e;
}

module _ (w₀ : Written) (table : List Float) (width height : ℕ) (w : Written) (u v : ℕ) (rest : List Float) (p : Passed w₀ table width height w u v rest) where
  nothing_left : cell_lines width height u v rest ≡ [] → w ≡ placed_all w₀ (cell_lines width height 0 0 table)
  unfolding placed_all
  nothing_left e = ap (placed_all w) (sym e) ∙ p.makes

  pub all_passed : length rest < 2 → w ≡ placed_all w₀ (cell_lines width height 0 0 table)
  all_passed h = nothing_left (at_most_one width height u v rest h)

  pub rows_passed : height ≤ v → w ≡ placed_all w₀ (cell_lines width height 0 0 table)
  rows_passed l = nothing_left (past_rows width height u v rest l)

  module _ (pair more : List Float) (two : length pair ≡ 2) (d : rest ≡ pair ++ more) (l : v < height) where
    abbrev here : List ℕ
    here = cell_line u v (get_or pair 0 nan) (get_or pair 1 nan)

    abbrev behind : List (List ℕ)
    behind = cell_lines width height (across width u) (down width u v) more

    whole : placed_all w (here ∷ behind) ≡ placed_all w₀ (cell_lines width height 0 0 table)
    whole =
        ap (placed_all w) (sym (in_rows width height u v pair more two l))
        ∙ ap (λ (r : List Float). placed_all w (cell_lines width height u v r)) (sym d)
        ∙ p.makes

    module _ (out : List ℕ) (r : ℕ) (e : written out r ≡ placed w here) where
      pub no_room : r ≡ w.at → written out w.at ≡ placed_all w₀ (cell_lines width height 0 0 table)
      no_room s =
          ap (written out) (sym s)
          ∙ stopped w here behind out r (cell_some u v (get_or pair 0 nan) (get_or pair 1 nan)) e s
          ∙ whole

      pub one_passed :
          (u' v' : ℕ) →
          (r ≡ w.at → ⊥) →
          u' ≡ across width u →
          v' ≡ down width u v →
          Passed w₀ table width height (written out r) u' v' more
      one_passed u' v' ne eu ev =
          let n : length rest ≡ 2 + length more = omega (arith, ap length d, length-append pair more) in
          record {
            left = omega (arith, across_most width u, p.left);
            above = omega (arith, down_most width u v, p.above);
            makes =
                ap₂ (λ (x y : ℕ). placed_all (written out r) (cell_lines width height x y more)) eu ev
                ∙ went_on w here behind out r (cell_some u v (get_or pair 0 nan) (get_or pair 1 nan)) e ne
                ∙ whole;
          }

-- ---- the listing

module _ (w : Written) (width height updates : ℕ) (region : Region) (table : List Float) (out : List ℕ) (r : ℕ) (e : written out r ≡ placed w (table_line width height updates)) where
  pub no_header : r ≡ w.at → written out w.at ≡ placed_all w (listing_lines width height updates region table)
  unfolding listing_lines
  no_header s =
      ap (written out) (sym s)
      ∙ stopped w (table_line width height updates) (region_line region ∷ cell_lines width height 0 0 table) out r (table_some width height updates) e s

  header_on :
      (r ≡ w.at → ⊥) →
      placed_all (written out r) (region_line region ∷ cell_lines width height 0 0 table)
      ≡ placed_all w (listing_lines width height updates region table)
  unfolding listing_lines
  header_on ne = went_on w (table_line width height updates) (region_line region ∷ cell_lines width height 0 0 table) out r (table_some width height updates) e ne

  module _ (ne : r ≡ w.at → ⊥) (out' : List ℕ) (r' : ℕ) (e' : written out' r' ≡ placed (written out r) (region_line region)) where
    pub no_region : r' ≡ r → written out' r ≡ placed_all w (listing_lines width height updates region table)
    no_region s =
        ap (written out') (sym s)
        ∙ stopped (written out r) (region_line region) (cell_lines width height 0 0 table) out' r' (region_some region) e' s
        ∙ header_on ne

    pub all_lines :
        (out'' : List ℕ) (r'' : ℕ) →
        (r' ≡ r → ⊥) →
        written out'' r'' ≡ placed_all (written out' r') (cell_lines width height 0 0 table) →
        written out'' r'' ≡ placed_all w (listing_lines width height updates region table)
    all_lines out'' r'' ne' e'' =
        e''
        ∙ went_on (written out r) (region_line region) (cell_lines width height 0 0 table) out' r' (region_some region) e' ne'
        ∙ header_on ne
