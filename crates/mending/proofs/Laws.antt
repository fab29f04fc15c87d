-- What a reader may rely on, of what is printed of a camera file's text and a listing's, and of the contracts of src/.
-- Assumes nothing.
use mathlib.Core.Path.{◌≡◌, sym, ap, ap₂, ◌∙◌, refl}
use mathlib.Core.Bool.{true, not}
use mathlib.Core.List.{List, [], ◌∷◌, ◌++◌}
use Rattle.std.proofs.Common.{Option, Some, None}
use Prim.Native.Nat.{ℕ, ◌+◌, ◌*◌, ◌/◌, ◌%◌, ◌<◌, ◌≤◌}
use lib.Arith.{digits_div, digits_mod}
use lib.Dec.{eqb}
use lib.ListN.{length, get_or, replicate}
use lib.Ieee.{Float}
use Rattle.exact.specs.Determined.{DeterminedWith}
use Rattle.decimal.specs.Text.{newline, all}
use Rattle.region.specs.Size.{sized}
use Rattle.region.specs.declared.Region.{Region}
use Rattle.put_text.specs.Placed.{joined, written, with_text}
use Rattle.put_text.proofs.Laws.{both}
use Rattle.listing_lines.specs.Line.{cell_text, refused_line, filled_line, differs_line}
use Rattle.listing_lines.specs.declared.CellLine.{CellLine}
use Rattle.listing_lines.specs.Read.{header_text, edges_text, text_of_cell, read_cell}
use Rattle.listing_lines.proofs.Others.{filled_no_cell, differs_no_cell, endless_no_cell}
use Rattle.listing.specs.Listing.{cell_texts, each}
use Rattle.listing.specs.Read.{lines, Listed, listed_lines, listed_text, fair, listed_of, read_listing}
use Rattle.listing.proofs.Fair.{is_fair}
use Rattle.listing.proofs.Grid.{before_end}
use Rattle.printer.specs.Made.{Made, table, no_table, made, a_table, in_room, build, blank_room}
use Rattle.printer.specs.Printed.{made_text, printed}
use Rattle.printer.proofs.Laws.{made_fair}
use Rattle.mending.specs.Mended.{given, First, mended_cell, filled_cell, differing_cell, mended_listing}
use Rattle.mending.specs.Mended.{filled_lines, differs_lines, mended_lines}
use Rattle.mending.specs.Texts.{mended_text, mended, listing_part}
use Rattle.mending.specs.Kept.{kept, keep_all}
use Rattle.mending.specs.Fed.{Fed, fed, feed, feed_pieces, nothing_fed}
use Rattle.mending.specs.Written.{lines_told, most_mended, written_mended}
use Rattle.mending.proofs.Given.{nothing_of_it, bad_alone, outside_alone, given_later, a_of, b_of, first_given}
use Rattle.mending.proofs.Given.{given_first}
use Rattle.mending.proofs.Again as again
use Rattle.mending.proofs.ReadBack.{printed_whole}
use Rattle.mending.proofs.Texts.{good, comes_back, same_part, settles, of_table}
use Rattle.mending.proofs.Map.{kept_is_given}
use Rattle.mending.proofs.Feeding.{fed_on, fed_whole}
use Rattle.mending.proofs.Same.{map_mended}
use Rattle.mending.proofs.Asked.{mended_short, mended_by_pieces}
use Rattle.mending.proofs.keep.Reads as keep-contract
use Rattle.mending.proofs.feed.Reads as feed-contract
use Rattle.mending.proofs.write_mended.Reads as write-mended-contract
use Rattle.mending.proofs.mend.Reads as mend-contract

-- ---- any two texts

module _ (input : List ℕ) where
  -- What the printer prints of a camera file comes back as it went in: a whole fresh listing, with no report line; and
  -- a refusal's line.
  pub printed_comes_back : mended input (printed input) ≡ printed input
  unfolding mended printed
  printed_comes_back = comes_back (made input) (good input)

  module _ (text : List ℕ) where
    -- Of a camera file that the printer refuses, its refusal's line is all that is printed, whatever the other text is.
    pub refused_alone :
        (n : ℕ) → made input ≡ no_table n → (mended input text ≡ refused_line n) × (printed input ≡ refused_line n)
    unfolding mended printed
    refused_alone n e = (ap (λ (m : Made). mended_text m (lines text)) e, ap made_text e)

    -- Of any other, whatever the other text is: the fresh table's listing mended by its lines, then the report. What
    -- these are is said below of any table that a listing may tell of, as this one is (made-fair of printer).
    pub never_refused :
        (fresh : Listed) → made input ≡ table fresh → mended input text ≡ joined (mended_lines fresh (lines text))
    never_refused = of_table input text

    -- Mending what was mended gives the same listing, byte for byte.
    pub same_listing : listing_part (made input) (lines (mended input text)) ≡ listing_part (made input) (lines text)
    unfolding mended
    same_listing = same_part (made input) (good input) (lines text)

    -- The report then tells of no filled cell, and of the same cells that differ.
    pub second_time :
        (fresh : Listed) →
        made input ≡ table fresh →
        mended input (mended input text)
        ≡ joined (mended_listing fresh (lines text) ++ differs_lines fresh (lines text))
    second_time fresh e =
        of_table input (mended input text) fresh e
        ∙ ap (λ (t : List ℕ). joined (mended_lines fresh (lines t))) (of_table input text fresh e)
        ∙ ap joined (again.lines_twice fresh (is_fair fresh (made_fair input fresh e)) (lines text))

    -- And what is mended a third time is as it was the second.
    pub third_time : mended input (mended input (mended input text)) ≡ mended input (mended input text)
    unfolding mended
    third_time = settles (made input) (good input) (lines text)

-- ---- what the lines of a text give

-- What is given of a cell is what its first line says, wherever that stands,
pub first_line_given : (texts : List (List ℕ)) (u v : ℕ) (c : CellLine) → First texts u v c → given texts u v ≡ Some c
first_line_given = first_given

-- and only then.
pub only_first_given : (texts : List (List ℕ)) (u v : ℕ) (c : CellLine) → given texts u v ≡ Some c → First texts u v c
only_first_given = given_first

-- The report's lines are bad lines.
pub report_bad : (u v : ℕ) → (read_cell (filled_line u v) ≡ None) × (read_cell (differs_line u v) ≡ None)
report_bad u v = (filled_no_cell u v, differs_no_cell u v)

-- So is what stands behind the last line's end.
pub endless_bad : (text : List ℕ) → all (λ b. not (eqb b newline)) text ≡ true → read_cell text ≡ None
endless_bad = endless_no_cell

-- ---- a fresh table that a listing may tell of, and any lines

module _ (fresh : Listed) (f : fair fresh ≡ true) where
  abbrev pub w : ℕ
  w = fresh.header.width

  abbrev pub h : ℕ
  h = fresh.header.height

  -- the fresh patterns of cell k, which stands in column k mod w and row k div w
  abbrev pub a_at : ℕ → ℕ
  a_at k = get_or fresh.cells (2 * k) 0

  abbrev pub b_at : ℕ → ℕ
  b_at k = get_or fresh.cells (2 * k + 1) 0

  module _ (texts : List (List ℕ)) where
    -- The listing is the fresh table's line, its region's, and one line for each of the w·h cells, in the order of k:
    -- as it was given, or else as the fresh table has it.
    pub mended_exactly :
        mended_listing fresh texts
        ≡ header_text fresh.header
        ∷ edges_text fresh.edges
        ∷ each (λ k. mended_cell (given texts (k % w) (k / w)) (k % w) (k / w) (a_at k) (b_at k)) 0 (w * h)
    mended_exactly = again.listing_by_number fresh (is_fair fresh f) texts

    -- The `filled` lines are those of exactly the cells that no line gave, in the order of k.
    pub filled_exactly :
        filled_lines fresh texts
        ≡ each (λ k. filled_cell (given texts (k % w) (k / w)) (k % w) (k / w) (a_at k) (b_at k)) 0 (w * h)
    filled_exactly = again.filled_by_number fresh (is_fair fresh f) texts

    -- The `differs` lines are those of exactly the cells that were given with other bits than the fresh table's, in the
    -- order of k.
    pub differs_exactly :
        differs_lines fresh texts
        ≡ each (λ k. differing_cell (given texts (k % w) (k / w)) (k % w) (k / w) (a_at k) (b_at k)) 0 (w * h)
    differs_exactly = again.differs_by_number fresh (is_fair fresh f) texts

    -- The listing is a whole one: it is read as a listing,
    pub mended_read : read_listing (joined (mended_listing fresh texts)) ≡ Some (listed_of (mended_listing fresh texts))
    mended_read = printed_whole fresh (is_fair fresh f) texts

    -- and has a line for each cell behind its first two.
    pub mended_counted : length (mended_listing fresh texts) ≡ 2 + w * h
    mended_counted = again.listing_counted fresh (is_fair fresh f) texts

    -- Where no cell differs it is the fresh listing.
    pub none_differ : differs_lines fresh texts ≡ [] → mended_listing fresh texts ≡ listed_lines fresh
    none_differ = again.none_differ fresh (is_fair fresh f) texts

    module _ (u v : ℕ) (i : u < w) (j : v < h) where
      -- No kept cell is altered: where a line stood that is the first of the cell (u, v), that line is printed, byte
      -- for byte, as line v·w + u behind the first two.
      pub kept_unaltered :
          (c : CellLine) → First texts u v c → get_or (mended_listing fresh texts) (2 + (v * w + u)) [] ≡ text_of_cell c
      kept_unaltered c g =
          again.printed_at fresh (is_fair fresh f) texts u v i j
          ∙ ap (λ (o : Option CellLine). cell_text u v (a_of o (a_at (v * w + u))) (b_of o (b_at (v * w + u))))
          (first_given texts u v c g)
          ∙ ap₂ (λ (x y : ℕ). cell_text x y c.a c.b) (sym g.column) (sym g.row)

      -- A missing cell is filled with the fresh table's bits.
      pub missing_filled :
          given texts u v ≡ None →
          get_or (mended_listing fresh texts) (2 + (v * w + u)) [] ≡ cell_text u v (a_at (v * w + u)) (b_at (v * w + u))
      missing_filled e =
          again.printed_at fresh (is_fair fresh f) texts u v i j
          ∙ ap (λ (o : Option CellLine). cell_text u v (a_of o (a_at (v * w + u))) (b_of o (b_at (v * w + u)))) e

  module _ (before after : List (List ℕ)) (text : List ℕ) where
    -- A bad line changes nothing, wherever it stands,
    pub bad_line :
        read_cell text ≡ None → mended_lines fresh (before ++ text ∷ after) ≡ mended_lines fresh (before ++ after)
    bad_line e =
        again.same_lines fresh (is_fair fresh f) (before ++ text ∷ after) (before ++ after)
        (λ u v i j. nothing_of_it before after text u v (bad_alone text u v e))

    module _ (c : CellLine) (e : read_cell text ≡ Some c) where
      -- nor does a line of a cell that the table doesn't have,
      pub outside_line :
          (c.u < w → c.v < h → ⊥) → mended_lines fresh (before ++ text ∷ after) ≡ mended_lines fresh (before ++ after)
      outside_line o =
          again.same_lines fresh (is_fair fresh f) (before ++ text ∷ after) (before ++ after)
          (λ u v i j. nothing_of_it before after text u v (outside_alone text u v c e w h i j o))

      -- nor one of a cell that was given before.
      pub later_line :
          (d : CellLine) →
          given before c.u c.v ≡ Some d →
          mended_lines fresh (before ++ text ∷ after) ≡ mended_lines fresh (before ++ after)
      later_line d g =
          again.same_lines fresh (is_fair fresh f) (before ++ text ∷ after) (before ++ after)
          (λ u v i j. given_later before after text u v c e d g)

  -- From the text of a listing each cell is given as it stands there, whatever bytes follow.
  pub told_back :
      (rest : List ℕ) (u v : ℕ) →
      u < w →
      v < h →
      given (lines (listed_text fresh ++ rest)) u v
      ≡ Some (record { u = u; v = v; a = a_at (v * w + u); b = b_at (v * w + u) })
  told_back rest u v i j =
      let k = v * w + u in
      let q : k / w ≡ v = digits_div v i in
      let r : k % w ≡ u = digits_mod v i in
      ap₂ (given (lines (listed_text fresh ++ rest))) (sym r) (sym q)
      ∙ again.given_fresh fresh (is_fair fresh f) rest k (before_end w h u v i j)
      ∙ ap₂ (λ (x y : ℕ). Some (record { u = x; v = y; a = a_at k; b = b_at k })) r q

  -- A whole fresh listing comes back as it went in, with no report line.
  pub fresh_comes_back : mended_lines fresh (lines (listed_text fresh)) ≡ listed_lines fresh
  fresh_comes_back = again.lines_fresh fresh (is_fair fresh f)

  -- Mending what was mended gives the same listing, fills nothing, and tells of the same cells that differ.
  pub mended_twice :
      (texts : List (List ℕ)) →
      (let once = lines (joined (mended_lines fresh texts)) in
      (mended_listing fresh once ≡ mended_listing fresh texts)
      × (filled_lines fresh once ≡ [])
      × (differs_lines fresh once ≡ differs_lines fresh texts))
  mended_twice texts =
      let g = is_fair fresh f in
      (again.listing_twice fresh g texts, again.none_filled_twice fresh g texts, again.differs_twice fresh g texts)

-- Any whole listing of a table of the same size keeps its cells, whatever its first two lines say and whatever bytes
-- follow it.
pub whole_kept :
    (fresh other : Listed) →
    fair fresh ≡ true →
    fair other ≡ true →
    other.header.width ≡ fresh.header.width →
    other.header.height ≡ fresh.header.height →
    (rest : List ℕ) →
    mended_listing fresh (lines (listed_text other ++ rest))
    ≡ header_text fresh.header
    ∷ edges_text fresh.edges
    ∷ cell_texts fresh.header.width fresh.header.height 0 0 other.cells
whole_kept fresh other f g p q rest = again.others_kept fresh other (is_fair fresh f) (is_fair other g) p q rest

-- ---- a text in pieces

-- In which pieces a text comes makes no difference: what its two parts give, one after the other, is what it gives.
pub in_pieces :
    (width height : ℕ) (s : Fed) (first second : List ℕ) →
    feed width height s (first ++ second) ≡ feed width height (feed width height s first) second
in_pieces = fed_on

-- Where there is room for 45 bytes of a line, a text fed whole or in pieces keeps what its lines give, however long
-- they are: a longer line, and what stands behind the last line's end, give nothing.
pub fed_lines :
    (width height : ℕ) (map line text : List ℕ) →
    45 ≤ length line →
    (feed width height (fed map line 0) text).map ≡ keep_all width height map (lines text)
fed_lines = fed_whole

-- ---- the program's parts

-- All that is printed has room in a buffer of OUTPUT bytes, whatever the two texts: for each of 4,096 cells 34 bytes
-- for its line and 18 for one line of the report.
pub fits : (input text : List ℕ) → length (mended input text) ≤ most_mended
fits = mended_short

-- Whoever builds the table in a room of zeros, feeds the listing piece by piece from an empty map on and then writes
-- into a buffer of OUTPUT bytes, as the program does, has written what is printed of the two whole texts, whatever the
-- pieces. MAP and LINE are room enough for that.
pub pieces_mended :
    (input : List ℕ) (pieces : List (List ℕ)) (out : List ℕ)
    (width height updates : ℕ) (region : Region) (room : List Float) →
    in_room (a_table width height updates region) room ≡ build input blank_room →
    most_mended ≤ length out →
    (let fed = feed_pieces width height nothing_fed pieces in
    written_mended width height updates region room fed.map out
    ≡ with_text (written out 0) (mended input (joined pieces)))
pieces_mended = mended_by_pieces

-- ---- the map

-- An empty map with room for the table has, once lines are kept in it, of each cell of the table exactly what the
-- lines give of it: the first line of the cell, and nothing where there is none.
pub kept_given :
    (width height u v : ℕ) →
    sized width height ≡ true →
    u < width →
    v < height →
    (n : ℕ) (texts : List (List ℕ)) →
    3 * (width * height) ≤ n →
    kept (keep_all width height (replicate n 0) texts) width u v ≡ given texts u v
kept_given = kept_is_given

-- So what is told by that map is the mended listing and its report.
pub told_by_map :
    (fresh : Listed) (texts : List (List ℕ)) (n : ℕ) →
    fair fresh ≡ true →
    3 * (fresh.header.width * fresh.header.height) ≤ n →
    (let w = fresh.header.width in
    lines_told (kept (keep_all w fresh.header.height (replicate n 0) texts) w) fresh ≡ mended_lines fresh texts)
told_by_map fresh texts n f = let g = is_fair fresh f in map_mended fresh texts n g.size g.count

-- ---- each contract permits one answer, and one content of what is lent

-- Any two maps that the contract of `keep` permits after one call are equal;
pub keep_determined : DeterminedWith keep-contract.Post (λ κ s. s.0.now)
keep_determined κ a s s' r r' p q = (refl, p ∙ sym q)

-- and so are any two answers, maps and lines after one call of `feed`,
pub feed_determined : DeterminedWith {L = List ℕ × List ℕ} feed-contract.Post (λ κ s. (s.0.now, s.1.0.now))
feed_determined κ a s s' r r' p q =
    let e = p ∙ sym q in
    (ap (λ (x : Fed). x.held) e, ap (λ (x : Fed). (x.map, x.line)) e)

-- any two answers and buffers after one of `mend`,
pub mend_determined : DeterminedWith mend-contract.Post (λ κ s. s.1.1.0.now)
mend_determined κ a s s' r r' p q = both (p.0 ∙ sym q.0)

-- and after one of `write_mended`.
pub write_mended_determined : DeterminedWith write-mended-contract.Post (λ κ s. s.0.now)
write_mended_determined κ a s s' r r' p q = both (p.0 ∙ sym q.0)
