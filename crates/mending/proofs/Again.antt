-- A mended listing mended again, and a fresh one: each cell is given as it stands there, whatever follows the listing.
-- Assumes nothing.
use mathlib.Core.Path.{◌≡◌, refl, sym, ap, ap₂, subst, ◌∙◌}
use mathlib.Core.Bool.{Bool, true, false, cond, ◌&&◌}
use mathlib.Core.List.{List, [], ◌∷◌, ◌++◌, append-nil}
use Rattle.std.proofs.Common.{Option, Some, None}
use Prim.Native.Nat.{ℕ, zero, suc, ◌+◌, ◌*◌, ◌/◌, ◌%◌, ◌<◌}
use native.Mathlib.Omega.{arith}
use borrow.Author.Tests.{eq-eqb, eqb-true}
use lib.Arith.{digits_div, digits_mod}
use lib.Dec.{eqb}
use lib.ListN.{length, get_or}
use Rattle.decimal.proofs.Bytes.{both}
use Rattle.put_text.specs.Placed.{joined}
use Rattle.listing_lines.specs.Line.{cell_text, differs_line}
use Rattle.listing_lines.specs.declared.CellLine.{CellLine}
use Rattle.listing_lines.specs.Read.{single, header_text, edges_text}
use Rattle.listing_lines.proofs.Reading.{both_true}
use Rattle.listing.specs.Listing.{cell_texts, each}
use Rattle.listing.specs.Read.{lines, Listed, listed_lines, listed_text}
use Rattle.listing.proofs.Cut.{joined_append}
use Rattle.listing.proofs.Each.{cells_by_number, each_same, each_counted, each_at, none_of_each}
use Rattle.listing.proofs.Fair.{Fair}
use Rattle.listing.proofs.Grid.{before_end}
use Rattle.mending.specs.Mended.{given, mended_cell, filled_cell, differing_cell}
use Rattle.mending.specs.Mended.{mended_listing, filled_lines, differs_lines, mended_report, mended_lines}
use Rattle.mending.proofs.Same.{told_same, told_mended}
use Rattle.mending.proofs.Given.{a_of, b_of, a_single, b_single}
use Rattle.mending.proofs.Numbered.{cell_by_cell, single_at, cell_of_number, line_of_number, numbered, numbered_cut, numbered_given}

-- ---- one cell

pub one_line : (o : Option CellLine) (u v a b : ℕ) → mended_cell o u v a b ≡ cell_text u v (a_of o a) (b_of o b) ∷ []
one_line None u v a b = refl
one_line (Some c) u v a b = refl

-- what is told of a cell that is given as it was mended
module _ (o : Option CellLine) (u v a b : ℕ) where
  abbrev as_mended : CellLine
  as_mended = record { u = u; v = v; a = a_of o a; b = b_of o b }

  same_line : mended_cell (Some as_mended) u v a b ≡ mended_cell o u v a b
  same_line = sym (one_line o u v a b)

  same_differs : differing_cell (Some as_mended) u v a b ≡ differing_cell o u v a b
  same_differs = by_given o
    where
      by_given : (p : Option CellLine) → differing_cell (Some (record { u = u; v = v; a = a_of p a; b = b_of p b })) u v a b ≡ differing_cell p u v a b
      by_given None = ap (λ (t : Bool). cond t [] (differs_line u v ∷ [])) (both (eq-eqb a a refl) (eq-eqb b b refl))
      by_given (Some c) = refl

-- one of which nothing is told differs nowhere
fresh_line : (o : Option CellLine) (u v a b : ℕ) → differing_cell o u v a b ≡ [] → mended_cell o u v a b ≡ cell_text u v a b ∷ []
fresh_line None u v a b e = refl
fresh_line (Some c) u v a b e = by_test (eqb c.a a && eqb c.b b) refl e
  where
    by_test :
        (t : Bool) → (eqb c.a a && eqb c.b b) ≡ t → cond t [] (differs_line u v ∷ []) ≡ [] →
        cell_text u v c.a c.b ∷ [] ≡ cell_text u v a b ∷ []
    by_test true x e =
        let p = both_true (eqb c.a a) (eqb c.b b) x in
        ap₂ (λ (y z : ℕ). cell_text u v y z ∷ []) (eqb-true c.a a p.0) (eqb-true c.b b p.1)
    by_test false x e = let n = ap length e in absurd (omega arith)

none_told : (k n : ℕ) → each (λ j. []) k n ≡ []
unfolding each
none_told k zero = refl
none_told k (suc n) = none_told (suc k) n

-- ---- all cells

module _ (l : Listed) (f : Fair l) where
  abbrev pub w : ℕ
  w = l.header.width

  abbrev pub h : ℕ
  h = l.header.height

  abbrev pub fresh_a : ℕ → ℕ
  fresh_a k = get_or l.cells (2 * k) 0

  abbrev pub fresh_b : ℕ → ℕ
  fresh_b k = get_or l.cells (2 * k + 1) 0

  some_wide : 0 < w
  some_wide = omega (arith, f.size.wide)

  module _ (texts : List (List ℕ)) where
    abbrev pub here : ℕ → Option CellLine
    here k = given texts (k % w) (k / w)

    pub listing_by_number :
        mended_listing l texts
        ≡ header_text l.header ∷ edges_text l.edges
        ∷ each (λ k. mended_cell (here k) (k % w) (k / w) (fresh_a k) (fresh_b k)) 0 (w * h)
    unfolding mended_listing
    listing_by_number =
        ap (λ (t : List (List ℕ)). header_text l.header ∷ edges_text l.edges ∷ t)
        (cell_by_cell (λ u v. mended_cell (given texts u v) u v) w (w * h) l.cells f.count some_wide)

    pub filled_by_number : filled_lines l texts ≡ each (λ k. filled_cell (here k) (k % w) (k / w) (fresh_a k) (fresh_b k)) 0 (w * h)
    unfolding filled_lines
    filled_by_number = cell_by_cell (λ u v. filled_cell (given texts u v) u v) w (w * h) l.cells f.count some_wide

    pub differs_by_number : differs_lines l texts ≡ each (λ k. differing_cell (here k) (k % w) (k / w) (fresh_a k) (fresh_b k)) 0 (w * h)
    unfolding differs_lines
    differs_by_number = cell_by_cell (λ u v. differing_cell (given texts u v) u v) w (w * h) l.cells f.count some_wide

    -- the patterns that are printed of cell k
    abbrev pub kept_a : ℕ → ℕ
    kept_a k = a_of (here k) (fresh_a k)

    abbrev pub kept_b : ℕ → ℕ
    kept_b k = b_of (here k) (fresh_b k)

    pub mended_numbered : mended_listing l texts ≡ numbered l.header l.edges kept_a kept_b
    mended_numbered =
        listing_by_number
        ∙ ap (λ (t : List (List ℕ)). header_text l.header ∷ edges_text l.edges ∷ t)
        (each_same (λ k. mended_cell (here k) (k % w) (k / w) (fresh_a k) (fresh_b k)) (line_of_number w kept_a kept_b) 0 (w * h)
        (λ k p q. one_line (here k) (k % w) (k / w) (fresh_a k) (fresh_b k)))

    pub listing_counted : length (mended_listing l texts) ≡ 2 + w * h
    listing_counted =
        let n : length (each (line_of_number w kept_a kept_b) 0 (w * h)) ≡ w * h =
        each_counted (λ k. cell_text (k % w) (k / w) (kept_a k) (kept_b k)) 0 (w * h) in
        ap length mended_numbered ∙ omega arith

    -- line 2 + v·w + u is that of the cell (u, v)
    pub printed_at :
        (u v : ℕ) →
        u < w →
        v < h →
        get_or (mended_listing l texts) (2 + (v * w + u)) []
        ≡ cell_text u v (a_of (given texts u v) (fresh_a (v * w + u))) (b_of (given texts u v) (fresh_b (v * w + u)))
    printed_at u v i j =
        let k = v * w + u in
        let e : 2 + k ≡ suc (suc k) = omega arith in
        let z : 0 + k ≡ k = omega arith in
        let q : k / w ≡ v = digits_div v i in
        let r : k % w ≡ u = digits_mod v i in
        ap₂ (λ (t : List (List ℕ)) (n : ℕ). get_or t n []) mended_numbered e
        ∙ each_at (λ n. cell_text (n % w) (n / w) (kept_a n) (kept_b n)) k 0 (w * h) (before_end w h u v i j)
        ∙ ap (λ (n : ℕ). cell_text (n % w) (n / w) (kept_a n) (kept_b n)) z
        ∙ ap₂ (λ (x y : ℕ). cell_text x y (a_of (given texts x y) (fresh_a k)) (b_of (given texts x y) (fresh_b k))) r q

    pub kept_single : (k : ℕ) → k < w * h → (single (kept_a k) ≡ true) × (single (kept_b k) ≡ true)
    kept_single k i = (
      a_single texts (k % w) (k / w) (fresh_a k) (single_at l.cells (2 * k) f.singles),
      b_single texts (k % w) (k / w) (fresh_b k) (single_at l.cells (2 * k + 1) f.singles),
    )

  -- where the same is given, the same is told
  pub same_lines :
      (one two : List (List ℕ)) → ((u v : ℕ) → u < w → v < h → given one u v ≡ given two u v) → mended_lines l one ≡ mended_lines l two
  same_lines one two e = sym (told_mended l one) ∙ told_same (given one) (given two) l e some_wide f.count ∙ told_mended l two

  -- ---- mended again, whatever follows the listing

  module _ (texts : List (List ℕ)) (rest : List ℕ) where
    abbrev pub again : List (List ℕ)
    again = lines (joined (mended_listing l texts) ++ rest)

    pub given_again : (k : ℕ) → k < w * h → given again (k % w) (k / w) ≡ Some (cell_of_number w (kept_a texts) (kept_b texts) k)
    given_again k i =
        ap (λ (t : List (List ℕ)). given (lines (joined t ++ rest)) (k % w) (k / w)) (mended_numbered texts)
        ∙ ap (λ (t : List (List ℕ)). given t (k % w) (k / w)) (numbered_cut l.header l.edges (kept_a texts) (kept_b texts) rest)
        ∙ numbered_given l.header l.edges (kept_a texts) (kept_b texts) f.size (kept_single texts) (lines rest) k i

    -- what is told of the cells, told again
    same_again :
        (tell more : Option CellLine → ℕ → ℕ → ℕ → ℕ → List (List ℕ)) →
        ((o : Option CellLine) (u v a b : ℕ) → tell (Some (as_mended o u v a b)) u v a b ≡ more o u v a b) →
        each (λ k. tell (given again (k % w) (k / w)) (k % w) (k / w) (fresh_a k) (fresh_b k)) 0 (w * h)
        ≡ each (λ k. more (given texts (k % w) (k / w)) (k % w) (k / w) (fresh_a k) (fresh_b k)) 0 (w * h)
    same_again tell more e =
        each_same (λ k. tell (given again (k % w) (k / w)) (k % w) (k / w) (fresh_a k) (fresh_b k))
        (λ k. more (given texts (k % w) (k / w)) (k % w) (k / w) (fresh_a k) (fresh_b k)) 0 (w * h)
        (λ k p q. ap (λ (o : Option CellLine). tell o (k % w) (k / w) (fresh_a k) (fresh_b k)) (given_again k (omega arith))
        ∙ e (given texts (k % w) (k / w)) (k % w) (k / w) (fresh_a k) (fresh_b k))

    pub listing_again : mended_listing l again ≡ mended_listing l texts
    listing_again =
        listing_by_number again
        ∙ ap (λ (t : List (List ℕ)). header_text l.header ∷ edges_text l.edges ∷ t) (same_again mended_cell mended_cell same_line)
        ∙ sym (listing_by_number texts)

    pub none_filled_again : filled_lines l again ≡ []
    none_filled_again =
        filled_by_number again ∙ same_again filled_cell (λ o u v a b. []) (λ o u v a b. refl) ∙ none_told 0 (w * h)

    pub differs_again : differs_lines l again ≡ differs_lines l texts
    differs_again = differs_by_number again ∙ same_again differing_cell differing_cell same_differs ∙ sym (differs_by_number texts)

  -- ---- where nothing is given, the fresh listing

  pub none_given : mended_listing l [] ≡ listed_lines l
  unfolding listed_lines given
  none_given =
      listing_by_number []
      ∙ ap (λ (t : List (List ℕ)). header_text l.header ∷ edges_text l.edges ∷ t)
      (sym (cells_by_number w h l.cells f.count some_wide))

  pub none_differ : (texts : List (List ℕ)) → differs_lines l texts ≡ [] → mended_listing l texts ≡ listed_lines l
  unfolding listed_lines
  none_differ texts e =
      let told = none_of_each (λ k. differing_cell (here texts k) (k % w) (k / w) (fresh_a k) (fresh_b k)) 0 (w * h) (sym (differs_by_number texts) ∙ e) in
      listing_by_number texts
      ∙ ap (λ (t : List (List ℕ)). header_text l.header ∷ edges_text l.edges ∷ t)
      (each_same (λ k. mended_cell (here texts k) (k % w) (k / w) (fresh_a k) (fresh_b k)) (line_of_number w fresh_a fresh_b) 0 (w * h)
      (λ k p q. fresh_line (here texts k) (k % w) (k / w) (fresh_a k) (fresh_b k) (told k p q))
      ∙ sym (cells_by_number w h l.cells f.count some_wide))

  none_differs : differs_lines l [] ≡ []
  unfolding given
  none_differs = differs_by_number [] ∙ none_told 0 (w * h)

  fresh_text : joined (mended_listing l []) ≡ listed_text l
  unfolding listed_text
  fresh_text = ap joined none_given

  -- its own text, whatever follows it
  module _ (rest : List ℕ) where
    abbrev fresh_lines : List (List ℕ)
    fresh_lines = lines (listed_text l ++ rest)

    is_again : again [] rest ≡ fresh_lines
    is_again = ap (λ (t : List ℕ). lines (t ++ rest)) fresh_text

    pub given_fresh : (k : ℕ) → k < w * h → given fresh_lines (k % w) (k / w) ≡ Some (cell_of_number w fresh_a fresh_b k)
    unfolding given
    given_fresh k i = ap (λ (t : List (List ℕ)). given t (k % w) (k / w)) (sym is_again) ∙ given_again [] rest k i

    pub listing_fresh : mended_listing l fresh_lines ≡ listed_lines l
    listing_fresh = ap (mended_listing l) (sym is_again) ∙ listing_again [] rest ∙ none_given

    pub none_filled_fresh : filled_lines l fresh_lines ≡ []
    none_filled_fresh = ap (filled_lines l) (sym is_again) ∙ none_filled_again [] rest

    pub none_differs_fresh : differs_lines l fresh_lines ≡ []
    none_differs_fresh = ap (differs_lines l) (sym is_again) ∙ differs_again [] rest ∙ none_differs

-- ---- with the report behind it

module _ (l : Listed) (f : Fair l) where
  module _ (texts : List (List ℕ)) where
    abbrev pub once : List (List ℕ)
    once = lines (joined (mended_lines l texts))

    report_follows : once ≡ again l f texts (joined (mended_report l texts))
    unfolding mended_lines
    report_follows = ap lines (joined_append (mended_listing l texts) (mended_report l texts))

    pub listing_twice : mended_listing l once ≡ mended_listing l texts
    listing_twice = ap (mended_listing l) report_follows ∙ listing_again l f texts (joined (mended_report l texts))

    pub none_filled_twice : filled_lines l once ≡ []
    none_filled_twice = ap (filled_lines l) report_follows ∙ none_filled_again l f texts (joined (mended_report l texts))

    pub differs_twice : differs_lines l once ≡ differs_lines l texts
    differs_twice = ap (differs_lines l) report_follows ∙ differs_again l f texts (joined (mended_report l texts))

    -- the second time nothing is filled
    pub lines_twice : mended_lines l once ≡ mended_listing l texts ++ differs_lines l texts
    unfolding mended_lines mended_report
    lines_twice =
        ap₂ (λ (x y : List (List ℕ)). x ++ y) listing_twice (ap₂ (λ (x y : List (List ℕ)). x ++ y) none_filled_twice differs_twice)

  -- and the third time all is as the second
  pub lines_thrice : (texts : List (List ℕ)) → mended_lines l (once (once texts)) ≡ mended_lines l (once texts)
  lines_thrice texts =
      lines_twice (once texts)
      ∙ ap₂ (λ (x y : List (List ℕ)). x ++ y) (listing_twice texts) (differs_twice texts)
      ∙ sym (lines_twice texts)

  pub lines_fresh : mended_lines l (lines (listed_text l)) ≡ listed_lines l
  unfolding mended_lines mended_report
  lines_fresh =
      ap (λ (t : List ℕ). mended_lines l (lines t)) (sym (append-nil (listed_text l)))
      ∙ ap₂ (λ (s t : List (List ℕ)). s ++ t) (listing_fresh l f [])
      (ap₂ (λ (s t : List (List ℕ)). s ++ t) (none_filled_fresh l f []) (none_differs_fresh l f []))
      ∙ append-nil (listed_lines l)

-- ---- another table's listing, of the same size

module _ (l m : Listed) (f : Fair l) (g : Fair m) (p : m.header.width ≡ l.header.width) (q : m.header.height ≡ l.header.height) (rest : List ℕ) where
  abbrev cells_of : ℕ → ℕ → CellLine
  cells_of width k = cell_of_number width (fresh_a m g) (fresh_b m g) k

  others_given : (k : ℕ) → k < l.header.width * l.header.height → given (lines (listed_text m ++ rest)) (k % l.header.width) (k / l.header.width) ≡ Some (cells_of l.header.width k)
  others_given k i =
      let size : m.header.width * m.header.height ≡ l.header.width * l.header.height = ap₂ (λ (x y : ℕ). x * y) p q in
      subst (λ (x : ℕ). given (lines (listed_text m ++ rest)) (k % x) (k / x) ≡ Some (cells_of x k)) p
      (given_fresh m g rest k (omega arith))

  pub others_kept :
      mended_listing l (lines (listed_text m ++ rest))
      ≡ header_text l.header ∷ edges_text l.edges ∷ cell_texts l.header.width l.header.height 0 0 m.cells
  others_kept =
      let texts = lines (listed_text m ++ rest) in
      let width = l.header.width in
      let height = l.header.height in
      let long : length m.cells ≡ 2 * (width * height) = g.count ∙ ap₂ (λ (x y : ℕ). 2 * (x * y)) p q in
      listing_by_number l f texts
      ∙ ap (λ (t : List (List ℕ)). header_text l.header ∷ edges_text l.edges ∷ t)
      (each_same (λ k. mended_cell (given texts (k % width) (k / width)) (k % width) (k / width) (fresh_a l f k) (fresh_b l f k))
      (λ k. cell_text (k % width) (k / width) (fresh_a m g k) (fresh_b m g k) ∷ []) 0 (width * height)
      (λ k i j. ap (λ (o : Option CellLine). mended_cell o (k % width) (k / width) (fresh_a l f k) (fresh_b l f k)) (others_given k (omega arith)))
      ∙ sym (cells_by_number width height m.cells long (some_wide l f)))
