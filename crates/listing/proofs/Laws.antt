-- What a caller may rely on, of the definitions of specs/ and of the contracts of src/. Assumes nothing.
use mathlib.Core.Path.{◌≡◌, refl, sym, ap, ◌∙◌}
use mathlib.Core.Bool.{true}
use mathlib.Core.List.{List, [], map}
use Rattle.std.proofs.Common.{Some}
use Prim.Native.Nat.{ℕ, ◌+◌, ◌*◌, ◌≤◌, ◌<◌}
use native.Mathlib.Omega.{arith}
use lib.Ieee.{Float, nan, binary32, to_bits}
use lib.ListN.{length, length-map, get_or}
use Rattle.exact.specs.Determined.{DeterminedWith}
use Rattle.region.specs.declared.Region.{Region}
use Rattle.put_text.specs.Placed.{written, placed, placed_all}
use Rattle.put_text.proofs.Laws.{both, texts_in_place}
use Rattle.listing_lines.specs.Line.{cell_line}
use Rattle.listing_lines.proofs.Reading.{read_again, only_read}
use Rattle.listing_lines.proofs.Back.{header_back, edges_back}
use Rattle.listing.specs.Listing.{cell_texts, cell_lines, listing_lines, listing}
use Rattle.listing.specs.Read.{Listed, listed, listed_lines, listed_text, fair}
use Rattle.listing.specs.Read.{lines, patterns, listed_of, read_listing}
use Rattle.listing.proofs.Cut.{listed_cut}
use Rattle.listing.proofs.Fair.{is_fair}
use Rattle.listing.proofs.Grid.{patterns_back, count, line_at, before_end}
use Rattle.listing.proofs.cells.Reads as cells-contract
use Rattle.listing.proofs.write_listing.Reads as write-listing-contract

-- ---- each contract permits one answer, and one buffer

-- Any two answers that the contract of `cells` permits to one call are equal, and so are any two buffers at the return;
pub cells_determined : DeterminedWith cells-contract.Post (λ κ s. s.0.now)
cells_determined κ a s s' r r' p q = both (p ∙ sym q)

-- and so for `write_listing`.
pub write_listing_determined : DeterminedWith write-listing-contract.Post (λ κ s. s.0.now)
write_listing_determined κ a s s' r r' p q = both (p ∙ sym q)

-- ---- the whole

-- Where a whole listing fits, what is put line by line is the listing.
pub listing_in_place :
    (out : List ℕ) (at width height updates : ℕ) (region : Region) (table : List Float) →
    at + length (listing width height updates region table) ≤ length out →
    placed_all (written out at) (listing_lines width height updates region table)
    ≡ placed (written out at) (listing width height updates region table)
unfolding listing
listing_in_place out at width height updates region table h =
    texts_in_place out at (listing_lines width height updates region table) h

-- ---- the cells

module _ (width height : ℕ) (table : List Float) (long : length table ≡ 2 * (width * height)) where
  -- A table of w·h cells has w·h lines of cells.
  pub cells_counted : 0 < width → length (cell_lines width height 0 0 table) ≡ width * height
  cells_counted h =
      let m : length (map (to_bits binary32) table) ≡ length table = length-map table (to_bits binary32) in
      let n : 2 * length (cell_lines width height 0 0 table) ≡ length (map (to_bits binary32) table) =
      count width height 0 0 (map (to_bits binary32) table) h (omega arith) in
      omega arith

  -- The line of the cell (u, v) is line v·w + u of them, and has the table's numbers 2(v·w + u) and the one after it.
  pub cell_at :
      (u v : ℕ) →
      u < width →
      v < height →
      get_or (cell_lines width height 0 0 table) (v * width + u) []
      ≡ cell_line u v (get_or table (2 * (v * width + u)) nan) (get_or table (2 * (v * width + u) + 1) nan)
  cell_at u v h k =
      line_at width height (v * width + u) 0 0 u v table (omega arith) h k (omega arith)
      (omega (arith, before_end width height u v h k))

-- ---- reading back

-- The bytes of a listing are what is written of the bit patterns of its table and region.
pub listing_is :
    (width height updates : ℕ) (region : Region) (table : List Float) →
    listing width height updates region table ≡ listed_text (listed width height updates region table)
unfolding listing listing_lines listed_lines listed_text
listing_is width height updates region table = refl

-- What the lines of a listing's text tell is what they were written of.
pub listed_back : (l : Listed) → fair l ≡ true → listed_of (lines (listed_text l)) ≡ l
unfolding listed_of listed_lines
listed_back l f =
    let h = l.header in
    let n = is_fair l f in
    let cells : patterns (cell_texts h.width h.height 0 0 l.cells) ≡ l.cells =
    patterns_back h.width h.height 0 0 l.cells (omega (arith, n.size.wide)) (omega (arith, n.count))
    n.singles in
    ap listed_of (listed_cut l)
    ∙ simp (header_back h.width h.height h.updates, edges_back l.edges n.edges, cells)

-- From the bytes that are written of what a listing may tell, that comes back: w·h cells row by row, sides of 2 to
-- 4,096, any bit pattern.
pub listing_read : (l : Listed) → fair l ≡ true → read_listing (listed_text l) ≡ Some l
unfolding read_listing
listing_read l f =
    read_again fair listed_text (listed_of (lines (listed_text l))) (listed_text l) l (listed_back l f) refl f

-- And no other bytes are read: what is read of a text may be told, and the text is what is written of it.
pub only_listing : (text : List ℕ) (l : Listed) → read_listing text ≡ Some l → (text ≡ listed_text l) × (fair l ≡ true)
unfolding read_listing
only_listing text l e = only_read fair listed_text (listed_of (lines text)) text l e

-- So a text that is read has a line for each of its w·h cells behind the first two: one with a cell left out is not
-- read.
pub read_counted :
    (text : List ℕ) (l : Listed) →
    read_listing text ≡ Some l →
    length (lines text) ≡ 2 + l.header.width * l.header.height
unfolding listed_lines
read_counted text l e =
    let o = only_listing text l e in
    let h = l.header in
    let n = is_fair l o.1 in
    let c : 2 * length (cell_texts h.width h.height 0 0 l.cells) ≡ length l.cells =
    count h.width h.height 0 0 l.cells (omega (arith, n.size.wide)) (omega (arith, n.count)) in
    ap (λ (t : List ℕ). length (lines t)) o.0 ∙ ap length (listed_cut l) ∙ omega (arith, c, n.count)
