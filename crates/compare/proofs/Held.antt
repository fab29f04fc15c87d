-- The lines of a listing are held whole. Assumes nothing.
use mathlib.Core.Path.{◌≡◌, refl}
use mathlib.Core.Bool.{Bool, true, false, cond}
use mathlib.Core.List.{List, [], ◌∷◌}
use Prim.Native.Nat.{ℕ, ◌^◌, ◌≤◌, ◌<◌}
use native.Mathlib.Omega.{arith}
use borrow.Author.Tests.{ltb-true}
use lib.Dec.{ltb}
use lib.ListN.{length}
use Rattle.decimal.specs.Decimal.{decimal}
use Rattle.decimal.proofs.Digits.{decimal_short}
use Rattle.listing_lines.specs.Line.{hex, word_table, word_region, word_cell, table_line, region_text, cell_text}
use Rattle.listing_lines.specs.declared.TableLine.{TableLine}
use Rattle.listing_lines.specs.declared.RegionLine.{RegionLine}
use Rattle.listing_lines.specs.declared.CellLine.{CellLine}
use Rattle.listing_lines.specs.Read.{header_text, edges_text, text_of_cell}
use Rattle.listing_lines.proofs.Back.{table_plain, region_plain, cell_plain, plains_of_table, plains_of_region, plains_of_cell}
use Rattle.listing_lines.proofs.Length.{table_length, region_length, cell_length}
use Rattle.listing.specs.Listing.{across, down, cell_texts}
use Rattle.listing.specs.Read.{Listed, listed_lines}
use Rattle.listing.proofs.Fair.{Fair}
use Rattle.listing.proofs.Grid.{next}
use Rattle.compare.specs.Judged.{longest}
use Rattle.compare.proofs.Cutting.{Ended, Held, line_ended}

table_held : (h : TableLine) → h.width ≤ 4096 → h.height ≤ 4096 → h.updates < 2 ^ 32 → Ended (header_text h) × (length (header_text h) ≤ longest)
unfolding table_line
table_held h w k u = (
  line_ended word_table (decimal h.width ∷ decimal h.height ∷ decimal h.updates ∷ []) table_plain (plains_of_table h.width h.height h.updates),
  omega (arith, table_length h.width h.height h.updates, decimal_short h.width 3 (omega arith), decimal_short h.height 3 (omega arith), decimal_short h.updates 9 (omega arith)),
)

region_held : (e : RegionLine) → Ended (edges_text e) × (length (edges_text e) ≤ longest)
unfolding region_text
region_held e = (
  line_ended word_region (hex 16 e.left ∷ hex 16 e.top ∷ hex 16 e.right ∷ hex 16 e.bottom ∷ []) region_plain (plains_of_region e),
  omega (arith, region_length e.left e.top e.right e.bottom),
)

cell_held : (c : CellLine) → c.u ≤ 4096 → c.v ≤ 4096 → Ended (text_of_cell c) × (length (text_of_cell c) ≤ longest)
unfolding cell_text
cell_held c u v = (
  line_ended word_cell (decimal c.u ∷ decimal c.v ∷ hex 8 c.a ∷ hex 8 c.b ∷ []) cell_plain (plains_of_cell c),
  omega (arith, cell_length c.u c.v c.a c.b, decimal_short c.u 3 (omega arith), decimal_short c.v 3 (omega arith)),
)

module _ (w h : ℕ) (hw : w ≤ 4096) (hh : h ≤ 4096) where
  pub cells_held : (u v : ℕ) (cells : List ℕ) → u < w → Held (cell_texts w h u v cells)
  unfolding cell_texts
  cells_held u v [] l = tt
  cells_held u v (a ∷ []) l = tt
  cells_held u v (a ∷ b ∷ cells) l = by_row (ltb v h) refl (cells_held (across w u) (down w u v) cells (next w u v l).0)
    where
      by_row :
          (t : Bool) →
          ltb v h ≡ t →
          Held (cell_texts w h (across w u) (down w u v) cells) →
          Held (cond t (cell_text u v a b ∷ cell_texts w h (across w u) (down w u v) cells) [])
      by_row true e k = (cell_held (record { u = u; v = v; a = a; b = b }) (omega arith) (omega (arith, ltb-true v h e)), k)
      by_row false e k = tt

pub lines_held : (l : Listed) → Fair l → Held (listed_lines l)
unfolding listed_lines
lines_held l f =
    let s = f.size in (
      table_held l.header s.not_wider s.not_higher f.updates,
      (region_held l.edges, cells_held l.header.width l.header.height s.not_wider s.not_higher 0 0 l.cells (omega (arith, s.wide))),
    )
