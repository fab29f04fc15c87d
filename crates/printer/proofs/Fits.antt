-- A refusal's line, and the listing of a table of no more cells than the most, have no more than 34 bytes for each of
-- 4,096 cells. Assumes nothing.
use mathlib.Core.Path.{subst}
use mathlib.Core.List.{List, ◌++◌}
use Prim.Native.Nat.{ℕ, ◌*◌, ◌≤◌, ◌<◌}
use native.Mathlib.Omega.{arith}
use lib.Ieee.{Float}
use lib.ListN.{length, length-append}
use Rattle.region.specs.Size.{Sized}
use Rattle.region.specs.declared.Region.{Region}
use Rattle.put_text.specs.Placed.{joined}
use Rattle.listing_lines.specs.Line.{table_line, region_line, refused_line}
use Rattle.listing.specs.Listing.{cell_lines, listing_lines, listing}
use Rattle.listing.specs.Read.{listed, listed_text}
use Rattle.listing.proofs.Laws.{listing_is}
use Rattle.printer.specs.Made.{most_cells}
use Rattle.printer.specs.Printed.{most_printed}
use Rattle.printer.proofs.Short.{refused_short, table_short, region_long, cells_short}

abbrev pub Short : List ℕ → Type 0
Short text = length text ≤ most_printed

pub refusal_short : (n : ℕ) → n ≤ 19 → Short (refused_line n)
refusal_short n h = omega (arith, refused_short n (omega arith))

module _ (width height updates : ℕ) (region : Region) (table : List Float) (s : Sized width height) (u : updates < 10000000)
    (long : length table ≤ 2 * most_cells) where
  all_short : Short (listing width height updates region table)
  unfolding listing listing_lines joined
  all_short =
      let header = table_line width height updates in
      let edges = region_line region in
      let cells = joined (cell_lines width height 0 0 table) in
      omega (
        arith,
        length-append header (edges ++ cells),
        length-append edges cells,
        region_long region,
        table_short width height updates (omega (arith, s.not_wider)) (omega (arith, s.not_higher)) u,
        cells_short width height 0 0 table (omega (arith, s.not_wider)) (omega (arith, s.not_higher)) (omega (arith, s.wide)),
        long,
      )

  pub listed_short : Short (listed_text (listed width height updates region table))
  listed_short = subst Short (listing_is width height updates region table) all_short
