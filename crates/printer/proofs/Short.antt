-- How long the lines of a listing are. Assumes nothing.
use mathlib.Core.Path.{◌≡◌, refl}
use mathlib.Core.Bool.{Bool, true, false, cond}
use mathlib.Core.List.{List, [], ◌∷◌}
use Prim.Native.Nat.{ℕ, suc, ◌+◌, ◌*◌, ◌^◌, ◌≤◌, ◌<◌}
use native.Mathlib.Omega.{arith}
use borrow.Author.Tests.{ltb-true, eqb-false}
use lib.Dec.{eqb, ltb}
use lib.Ieee.{Float, binary32, to_bits}
use lib.ListN.{length, length-append}
use Rattle.region.specs.declared.Region.{Region}
use Rattle.decimal.proofs.Digits.{decimal_short}
use Rattle.put_text.specs.Placed.{joined}
use Rattle.listing_lines.specs.Line.{table_line, region_line, cell_line, refused_line}
use Rattle.listing.specs.Listing.{across, down, cell_texts, cell_lines}
use Rattle.listing_lines.proofs.Length.{table_length, region_length, cell_length, refused_length}

-- ---- lines

pub refused_short : (n : ℕ) → n < 10 ^ 2 → length (refused_line n) ≤ 11
refused_short n h = omega (arith, refused_length n, decimal_short n 1 h)

pub table_short : (width height updates : ℕ) → width < 10 ^ 4 → height < 10 ^ 4 → updates < 10 ^ 7 → length (table_line width height updates) ≤ 24
table_short width height updates h i j = omega (arith, table_length width height updates, decimal_short width 3 h, decimal_short height 3 i, decimal_short updates 6 j)

pub region_long : (r : Region) → length (region_line r) ≡ 75
region_long r = region_length _ _ _ _

cell_short : (u v : ℕ) (a b : Float) → u < 10 ^ 4 → v < 10 ^ 4 → length (cell_line u v a b) ≤ 33
cell_short u v a b h i = omega (arith, cell_length u v (to_bits binary32 a) (to_bits binary32 b), decimal_short u 3 h, decimal_short v 3 i)

-- ---- cells

across_within : (width u : ℕ) → u < width → across width u < width
unfolding across
across_within width u h = go (eqb (u + 1) width) refl
  where
    go : (b : Bool) → eqb (u + 1) width ≡ b → cond b 0 (u + 1) < width
    go true e = omega arith
    go false e = omega (arith, eqb-false (u + 1) width e)

-- the lines of a table's cells have no more than 33 bytes for each two of its numbers
pub cells_short : (width height u v : ℕ) (table : List Float) → width < 10 ^ 4 → height < 10 ^ 4 → u < width → 2 * length (joined (cell_lines width height u v table)) ≤ 33 * length table
unfolding cell_texts joined
cells_short width height u v [] h i j = omega arith
cells_short width height u v (a ∷ []) h i j = omega arith
cells_short width height u v (a ∷ b ∷ rest) h i j = go (ltb v height) refl (cells_short width height (across width u) (down width u v) rest h i (across_within width u j))
  where
    more : List (List ℕ)
    more = cell_lines width height (across width u) (down width u v) rest

    go : (t : Bool) → ltb v height ≡ t → 2 * length (joined more) ≤ 33 * length rest → 2 * length (joined (cond t (cell_line u v a b ∷ more) [])) ≤ 33 * suc (suc (length rest))
    go true e k = omega (arith, length-append (cell_line u v a b) (joined more), cell_short u v a b (omega arith) (omega (arith, ltb-true v height e)), k)
    go false e k = omega arith
