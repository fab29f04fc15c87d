-- What a caller may rely on, of the definitions of specs/ and of the contracts of src/. Assumes nothing.
use mathlib.Core.Path.{◌≡◌, refl, sym, ◌∙◌}
use mathlib.Core.Bool.{true, ◌&&◌}
use mathlib.Core.List.{List, [], ◌∷◌}
use Rattle.std.proofs.Common.{Some}
use Prim.Native.Nat.{ℕ}
use Rattle.exact.specs.Determined.{Determined, DeterminedWith}
use Rattle.decimal.specs.Decimal.{places, decimal}
use Rattle.put_text.proofs.Laws.{both}
use Rattle.listing_lines.specs.Line.{hex, line, table_line, refused_line}
use Rattle.listing_lines.specs.declared.TableLine.{TableLine}
use Rattle.listing_lines.specs.declared.RegionLine.{RegionLine}
use Rattle.listing_lines.specs.declared.CellLine.{CellLine}
use Rattle.listing_lines.specs.Read.{single, fields, header_text, fair_numbers, header_of, read_table}
use Rattle.listing_lines.specs.Read.{edges_text, fair_edges, edges_of, read_region, text_of_cell}
use Rattle.listing_lines.specs.Read.{fair_cell, cell_of, read_cell}
use Rattle.listing_lines.proofs.Reading.{both_true, read_again, only_read}
use Rattle.listing_lines.proofs.Back.{header_back, edges_back, cell_back}
use Rattle.listing_lines.proofs.table_line.Reads as table-line-contract
use Rattle.listing_lines.proofs.region_line.Reads as region-line-contract
use Rattle.listing_lines.proofs.cell_line.Reads as cell-line-contract
use Rattle.listing_lines.proofs.refused_line.Reads as refused-line-contract
use Rattle.listing_lines.proofs.region_text.Reads as region-text-contract
use Rattle.listing_lines.proofs.cell_text.Reads as cell-text-contract
use Rattle.listing_lines.proofs.difference_line.Reads as difference-line-contract
use Rattle.listing_lines.proofs.count_line.Reads as count-line-contract
use Rattle.listing_lines.proofs.filled_line.Reads as filled-line-contract
use Rattle.listing_lines.proofs.differs_line.Reads as differs-line-contract
use Rattle.listing_lines.proofs.read_table.Reads as read-table-contract
use Rattle.listing_lines.proofs.read_region.Reads as read-region-contract
use Rattle.listing_lines.proofs.read_cell.Reads as read-cell-contract

-- ---- each contract permits one answer, and one buffer

-- Any two answers that the contract of `table_line` permits to one call are equal, and so are any two buffers at the
-- return;
pub table_line_determined : DeterminedWith table-line-contract.Post (λ κ s. s.0.now)
table_line_determined κ a s s' r r' p q = both (p ∙ sym q)

-- and so for `region_line`,
pub region_line_determined : DeterminedWith region-line-contract.Post (λ κ s. s.0.now)
region_line_determined κ a s s' r r' p q = both (p ∙ sym q)

-- `region_text`,
pub region_text_determined : DeterminedWith region-text-contract.Post (λ κ s. s.0.now)
region_text_determined κ a s s' r r' p q = both (p ∙ sym q)

-- `cell_text`,
pub cell_text_determined : DeterminedWith cell-text-contract.Post (λ κ s. s.0.now)
cell_text_determined κ a s s' r r' p q = both (p ∙ sym q)

-- `cell_line`,
pub cell_line_determined : DeterminedWith cell-line-contract.Post (λ κ s. s.0.now)
cell_line_determined κ a s s' r r' p q = both (p ∙ sym q)

-- `refused_line`,
pub refused_line_determined : DeterminedWith refused-line-contract.Post (λ κ s. s.0.now)
refused_line_determined κ a s s' r r' p q = both (p ∙ sym q)

-- `difference_line`,
pub difference_line_determined : DeterminedWith difference-line-contract.Post (λ κ s. s.0.now)
difference_line_determined κ a s s' r r' p q = both (p ∙ sym q)

-- `count_line`,
pub count_line_determined : DeterminedWith count-line-contract.Post (λ κ s. s.0.now)
count_line_determined κ a s s' r r' p q = both (p ∙ sym q)

-- `filled_line`
pub filled_line_determined : DeterminedWith filled-line-contract.Post (λ κ s. s.0.now)
filled_line_determined κ a s s' r r' p q = both (p ∙ sym q)

-- and `differs_line`.
pub differs_line_determined : DeterminedWith differs-line-contract.Post (λ κ s. s.0.now)
differs_line_determined κ a s s' r r' p q = both (p ∙ sym q)

-- Any two answers to one call that the contract of `read_table` permits are equal; and so for `read_region` and
-- `read_cell`.
pub read_table_determined : Determined read-table-contract.Post
read_table_determined κ a s s' r r' p q = p ∙ sym q

pub read_region_determined : Determined read-region-contract.Post
read_region_determined κ a s s' r r' p q = p ∙ sym q

pub read_cell_determined : Determined read-cell-contract.Post
read_cell_determined κ a s s' r r' p q = p ∙ sym q

-- ---- reading back

-- From a table's line its width, height and updates come back, whichever they are of the 2^32,
pub table_read : (h : TableLine) → fair_numbers h ≡ true → read_table (header_text h) ≡ Some h
unfolding read_table
table_read h f =
    read_again fair_numbers header_text _ (header_text h) h (header_back h.width h.height h.updates) refl f

-- from a region's line the bit patterns of its edges come back, whichever they are of the 2^64,
pub region_read : (e : RegionLine) → fair_edges e ≡ true → read_region (edges_text e) ≡ Some e
unfolding read_region
region_read e f = read_again fair_edges edges_text _ (edges_text e) e (edges_back e f) refl f

-- and from a cell's line its place and its two bit patterns, whichever they are of the 2^32.
pub cell_read : (c : CellLine) → fair_cell c ≡ true → read_cell (text_of_cell c) ≡ Some c
unfolding read_cell
cell_read c f =
    read_again fair_cell text_of_cell _ (text_of_cell c) c
    (cell_back c (both_true (single c.u && single c.v) _ f).1) refl f

-- Bytes that are read as a table's line are the line that is written of those numbers; no other bytes are read,
pub only_table :
    (text : List ℕ) (h : TableLine) → read_table text ≡ Some h → (text ≡ header_text h) × (fair_numbers h ≡ true)
unfolding read_table
only_table text h e = only_read fair_numbers header_text (header_of (fields text)) text h e

-- nor as a region's,
pub only_region :
    (text : List ℕ) (r : RegionLine) → read_region text ≡ Some r → (text ≡ edges_text r) × (fair_edges r ≡ true)
unfolding read_region
only_region text r e = only_read fair_edges edges_text (edges_of (fields text)) text r e

-- or a cell's.
pub only_cell : (text : List ℕ) (c : CellLine) → read_cell text ≡ Some c → (text ≡ text_of_cell c) × (fair_cell c ≡ true)
unfolding read_cell
only_cell text c e = only_read fair_cell text_of_cell (cell_of (fields text)) text c e

-- ---- lines written out

-- `refused`, tab, `12`, line end
pub refused_12 : refused_line 12 ≡ 114 ∷ 101 ∷ 102 ∷ 117 ∷ 115 ∷ 101 ∷ 100 ∷ 9 ∷ 49 ∷ 50 ∷ 10 ∷ []
unfolding refused_line line decimal places
refused_12 = refl

-- `table`, tab, `3`, tab, `2`, tab, `0`, line end
pub table_3_2_0 : table_line 3 2 0 ≡ 116 ∷ 97 ∷ 98 ∷ 108 ∷ 101 ∷ 9 ∷ 51 ∷ 9 ∷ 50 ∷ 9 ∷ 48 ∷ 10 ∷ []
unfolding table_line line decimal places
table_3_2_0 = refl

-- the bits of -2 as an f32's, in a field
pub field_c0000000 : hex 8 0xc000_0000 ≡ 99 ∷ 48 ∷ 48 ∷ 48 ∷ 48 ∷ 48 ∷ 48 ∷ 48 ∷ []
unfolding hex
field_c0000000 = refl
