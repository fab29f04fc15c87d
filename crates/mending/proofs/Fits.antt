-- All that is printed has room: 34 bytes for the line of each of 4,096 cells, and 18 for one line of the report.
-- Assumes nothing.
use mathlib.Core.Path.{◌≡◌, ap, ◌∙◌}
use mathlib.Core.Bool.{Bool, true, false, cond, ◌&&◌}
use mathlib.Core.List.{List, [], ◌∷◌, ◌++◌}
use Rattle.std.proofs.Common.{Option, Some, None}
use Prim.Native.Nat.{ℕ, ◌+◌, ◌*◌, ◌^◌, ◌≤◌, ◌<◌}
use native.Mathlib.Omega.{arith}
use lib.Dec.{eqb}
use lib.ListN.{length, length-append}
use Rattle.region.specs.Size.{Sized}
use Rattle.decimal.proofs.Digits.{decimal_short}
use Rattle.put_text.specs.Placed.{joined}
use Rattle.listing_lines.specs.Line.{cell_text, filled_line, differs_line}
use Rattle.listing_lines.specs.declared.CellLine.{CellLine}
use Rattle.listing_lines.specs.Read.{header_text, edges_text}
use Rattle.listing_lines.proofs.Length.{table_length, region_length, cell_length, filled_length, differs_length}
use Rattle.listing.specs.Listing.{across, down}
use Rattle.listing.specs.Read.{Listed}
use Rattle.listing.proofs.Cut.{joined_append}
use Rattle.listing.proofs.Grid.{next, in_a_row}
use Rattle.mending.specs.Mended.{mended_cell, filled_cell, differing_cell, each_cell}
use Rattle.mending.specs.Written.{told, cells_told, lines_told, most_mended}
use Rattle.mending.specs.declared.Kind.{Kind}
use Rattle.mending.specs.declared.Kind.TheVariants.{Line, Filled, Differs}

-- a cell has its line, and one of the report at most
one_cell :
    (o : Option CellLine) (u v a b : ℕ) →
    u < 10 ^ 4 →
    v < 10 ^ 4 →
    length (joined (mended_cell o u v a b)) + length (joined (filled_cell o u v a b)) + length (joined (differing_cell o u v a b)) ≤ 51
unfolding joined
one_cell None u v a b h k =
    omega (
      arith,
      length-append (cell_text u v a b) [],
      cell_length u v a b,
      length-append (filled_line u v) [],
      filled_length u v,
      decimal_short u 3 h,
      decimal_short v 3 k,
    )
one_cell (Some c) u v a b h k = go (eqb c.a a && eqb c.b b)
  where
    go : (t : Bool) → length (cell_text u v c.a c.b ++ []) + 0 + length (joined (cond t [] (differs_line u v ∷ []))) ≤ 51
    go true = omega (arith, length-append (cell_text u v c.a c.b) [], cell_length u v c.a c.b, decimal_short u 3 h, decimal_short v 3 k)
    go false =
        omega (
          arith,
          length-append (cell_text u v c.a c.b) [],
          cell_length u v c.a c.b,
          length-append (differs_line u v) [],
          differs_length u v,
          decimal_short u 3 h,
          decimal_short v 3 k,
        )

module _ (given : ℕ → ℕ → Option CellLine) (width height : ℕ) (h : width < 10 ^ 4) (k : height < 10 ^ 4) where
  abbrev from : Kind → ℕ → ℕ → List ℕ → List (List ℕ)
  from kind u v cells = each_cell (λ x y. told kind (given x y) x y) width u v cells

  cells_short :
      (u v : ℕ) (cells : List ℕ) →
      u < width →
      length cells + 2 * (v * width + u) ≤ 2 * (width * height) →
      2 * (length (joined (from Line u v cells)) + length (joined (from Filled u v cells)) + length (joined (from Differs u v cells))) ≤ 51 * length cells
  unfolding each_cell joined
  cells_short u v [] i l = omega arith
  cells_short u v (a ∷ []) i l = omega arith
  cells_short u v (a ∷ b ∷ cells) i l =
      let n = next width u v i in
      let j : v < height = in_a_row width height u v (omega arith) in
      let more = cells_short (across width u) (down width u v) cells n.0 (omega (arith, n.1)) in
      let o = given u v in
      let both : (kind : Kind) → length (joined (told kind o u v a b ++ from kind (across width u) (down width u v) cells))
      ≡ length (joined (told kind o u v a b)) + length (joined (from kind (across width u) (down width u v) cells)) =
      λ kind. ap length (joined_append (told kind o u v a b) (from kind (across width u) (down width u v) cells))
      ∙ length-append (joined (told kind o u v a b)) (joined (from kind (across width u) (down width u v) cells)) in
      omega (arith, more, one_cell o u v a b (omega arith) (omega arith), both Line, both Filled, both Differs)

pub lines_short :
    (given : ℕ → ℕ → Option CellLine) (fresh : Listed) →
    Sized fresh.header.width fresh.header.height →
    fresh.header.width * fresh.header.height ≤ 4096 →
    fresh.header.updates < 10 ^ 10 →
    length fresh.cells ≡ 2 * (fresh.header.width * fresh.header.height) →
    length (joined (lines_told given fresh)) ≤ most_mended
unfolding lines_told joined
lines_short given fresh s few u long =
    let h = fresh.header in
    let header = header_text h in
    let region = edges_text fresh.edges in
    let cells : Kind → List (List ℕ) = λ kind. cells_told kind given h.width fresh.cells in
    let short = cells_short given h.width h.height (omega (arith, s.not_wider)) (omega (arith, s.not_higher)) 0 0 fresh.cells (omega (arith, s.wide)) (omega (arith, long)) in
    omega (
      arith,
      short,
      few,
      long,
      length-append header (region ++ joined (cells Line ++ (cells Filled ++ cells Differs))),
      length-append region (joined (cells Line ++ (cells Filled ++ cells Differs))),
      ap length (joined_append (cells Line) (cells Filled ++ cells Differs)) ∙ length-append (joined (cells Line)) (joined (cells Filled ++ cells Differs)),
      ap length (joined_append (cells Filled) (cells Differs)) ∙ length-append (joined (cells Filled)) (joined (cells Differs)),
      table_length h.width h.height h.updates,
      region_length fresh.edges.left fresh.edges.top fresh.edges.right fresh.edges.bottom,
      decimal_short h.width 3 (omega (arith, s.not_wider)),
      decimal_short h.height 3 (omega (arith, s.not_higher)),
      decimal_short h.updates 9 u,
    )
