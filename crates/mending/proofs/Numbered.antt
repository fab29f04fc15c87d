-- The lines of a listing by the cells' numbers: they are cut off a text, and each gives its cell. Assumes nothing.
use mathlib.Core.Path.{◌≡◌, refl, sym, ap, ap₂, ◌∙◌}
use mathlib.Core.Bool.{Bool, true, false, cond, ◌&&◌, true≢false}
use mathlib.Core.List.{List, [], ◌∷◌, ◌++◌}
use Rattle.std.proofs.Common.{Option, Some, None}
use Prim.Native.Nat.{ℕ, zero, suc, ◌+◌, ◌*◌, ◌/◌, ◌%◌, ◌≤◌, ◌<◌}
use native.Mathlib.Nat.{mod-lt, div-lt_iff_lt-mul, div-add-mod', mul_comm}
use native.Mathlib.Omega.{arith}
use borrow.Author.Tests.{eq-eqb, eqb-true}
use lib.Dec.{eqb}
use lib.ListN.{length, get_or, drop}
use Rattle.decimal.proofs.Bytes.{both}
use Rattle.put_text.specs.Placed.{joined}
use Rattle.region.specs.Size.{Sized}
use Rattle.listing_lines.specs.Line.{cell_text}
use Rattle.listing_lines.specs.declared.TableLine.{TableLine}
use Rattle.listing_lines.specs.declared.RegionLine.{RegionLine}
use Rattle.listing_lines.specs.declared.CellLine.{CellLine}
use Rattle.listing_lines.specs.Read.{single, header_text, edges_text, fair_cell}
use Rattle.listing_lines.proofs.Reading.{both_true}
use Rattle.listing_lines.proofs.Laws.{cell_read}
use Rattle.listing_lines.proofs.Others.{table_no_cell, region_no_cell}
use Rattle.listing.specs.Listing.{across, down, each}
use Rattle.listing.specs.Read.{lines, all_single}
use Rattle.listing.proofs.Cut.{Cuts, joined_cut, table_cut, region_cut, cell_cut}
use Rattle.listing.proofs.Each.{by_number, two, no_more}
use Rattle.listing.proofs.Fair.{cell_fair}
use Rattle.mending.specs.Mended.{or_later, given, each_cell}
use Rattle.mending.proofs.Given.{nothing_of_it, bad_alone}

-- ---- what is told of each cell

module _ (tell : ℕ → ℕ → ℕ → ℕ → List (List ℕ)) (w n : ℕ) (cells : List ℕ) (long : length cells ≡ 2 * n) where
  abbrev told : ℕ → ℕ → ℕ → List (List ℕ)
  told k u v = tell u v (get_or cells (2 * k) 0) (get_or cells (2 * k + 1) 0)

  pub cell_by_cell : 0 < w → each_cell tell w 0 0 cells ≡ each (λ k. tell (k % w) (k / w) (get_or cells (2 * k) 0) (get_or cells (2 * k + 1) 0)) 0 n
  unfolding each_cell
  cell_by_cell l = by_number w n told (λ k u v. each_cell tell w u v (drop (2 * k) cells)) ends goes l
    where
      ends : (u v : ℕ) → each_cell tell w u v (drop (2 * n) cells) ≡ []
      ends u v = ap (each_cell tell w u v) (no_more cells n long)

      goes :
          (k u v : ℕ) → k < n → u < w → v * w + u ≡ k →
          each_cell tell w u v (drop (2 * k) cells) ≡ told k u v ++ each_cell tell w (across w u) (down w u v) (drop (2 * suc k) cells)
      goes k u v i j e = ap (each_cell tell w u v) (two cells k (omega arith))

-- ---- places and numbers

module _ (w h k : ℕ) (some_wide : 0 < w) (l : k < w * h) where
  pub column_inside : k % w < w
  column_inside = mod-lt k some_wide

  pub row_inside : k / w < h
  row_inside = (div-lt_iff_lt-mul {k = w} {x = k} {y = h} some_wide).1 (omega (arith, mul_comm w h))

pub single_at : (cells : List ℕ) (i : ℕ) → all_single cells ≡ true → single (get_or cells i 0) ≡ true
single_at [] i e = refl
single_at (a ∷ cells) zero e = (both_true (single a) _ e).0
single_at (a ∷ cells) (suc i) e = single_at cells i (both_true (single a) _ e).1

-- ---- a listing's lines by number

module _ (w : ℕ) (a b : ℕ → ℕ) where
  abbrev pub cell_of_number : ℕ → CellLine
  cell_of_number k = record { u = k % w; v = k / w; a = a k; b = b k }

  abbrev pub line_of_number : ℕ → List (List ℕ)
  line_of_number k = cell_text (k % w) (k / w) (a k) (b k) ∷ []

  numbers_cut : (k n : ℕ) → Cuts (each line_of_number k n)
  unfolding each
  numbers_cut k zero = tt
  numbers_cut k (suc n) = (cell_cut (cell_of_number k), numbers_cut (suc k) n)

  -- two places of one column and one row are one
  one_place : (i j : ℕ) → (eqb (j % w) (i % w) && eqb (j / w) (i / w)) ≡ true → j ≡ i
  one_place i j e =
      let x = both_true (eqb (j % w) (i % w)) _ e in
      sym (div-add-mod' j w)
      ∙ ap₂ (λ (p q : ℕ). p * w + q) (eqb-true (j / w) (i / w) x.1) (eqb-true (j % w) (i % w) x.0)
      ∙ div-add-mod' i w

  module _ (n : ℕ) (fair : (k : ℕ) → k < n → fair_cell (cell_of_number k) ≡ true) (rest : List (List ℕ)) (i : ℕ) where
    given_from :
        (m j : ℕ) → j ≤ i → i < j + m → j + m ≡ n →
        given (each line_of_number j m ++ rest) (i % w) (i / w) ≡ Some (cell_of_number i)
    unfolding given each
    given_from zero j p q r = absurd (omega arith)
    given_from (suc m) j p q r =
        ap (λ (o : Option CellLine). or_later (i % w) (i / w) o (given (each line_of_number (suc j) m ++ rest) (i % w) (i / w)))
        (cell_read (cell_of_number j) (fair j (omega arith)))
        ∙ by_place (eqb (j % w) (i % w) && eqb (j / w) (i / w)) refl (λ s. given_from m (suc j) s (omega arith) (omega arith))
      where
        by_place :
            (t : Bool) →
            (eqb (j % w) (i % w) && eqb (j / w) (i / w)) ≡ t →
            (suc j ≤ i → given (each line_of_number (suc j) m ++ rest) (i % w) (i / w) ≡ Some (cell_of_number i)) →
            cond t (Some (cell_of_number j)) (given (each line_of_number (suc j) m ++ rest) (i % w) (i / w)) ≡ Some (cell_of_number i)
        by_place true e more = ap (λ (k : ℕ). Some (cell_of_number k)) (one_place i j e)
        by_place false e more =
            let other : j ≡ i → ⊥ =
            λ s. true≢false
            (sym (both (eq-eqb (j % w) (i % w) (ap (λ (k : ℕ). k % w) s)) (eq-eqb (j / w) (i / w) (ap (λ (k : ℕ). k / w) s))) ∙ e) in
            more (omega arith)

abbrev pub numbered : TableLine → RegionLine → (ℕ → ℕ) → (ℕ → ℕ) → List (List ℕ)
numbered h e a b = header_text h ∷ edges_text e ∷ each (line_of_number h.width a b) 0 (h.width * h.height)

module _ (h : TableLine) (e : RegionLine) (a b : ℕ → ℕ) where
  pub numbered_cut : (rest : List ℕ) → lines (joined (numbered h e a b) ++ rest) ≡ numbered h e a b ++ lines rest
  numbered_cut rest =
      joined_cut (numbered h e a b) rest
      (table_cut h, (region_cut e, numbers_cut h.width a b 0 (h.width * h.height)))

  -- whatever lines follow
  pub numbered_given :
      Sized h.width h.height →
      ((k : ℕ) → k < h.width * h.height → (single (a k) ≡ true) × (single (b k) ≡ true)) →
      (rest : List (List ℕ)) (i : ℕ) →
      i < h.width * h.height →
      given (numbered h e a b ++ rest) (i % h.width) (i / h.width) ≡ Some (cell_of_number h.width a b i)
  numbered_given s f rest i l =
      let w = h.width in
      let cells = each (line_of_number w a b) 0 (w * h.height) ++ rest in
      let some_wide : 0 < w = omega (arith, s.wide) in
      let fair : (k : ℕ) → k < w * h.height → fair_cell (cell_of_number w a b k) ≡ true =
      λ k m. cell_fair (k % w) (k / w) (a k) (b k)
      (omega (arith, column_inside w h.height k some_wide m, s.not_wider))
      (omega (arith, row_inside w h.height k some_wide m, s.not_higher))
      (f k m).0
      (f k m).1 in
      nothing_of_it [] (edges_text e ∷ cells) (header_text h) (i % w) (i / w) (bad_alone (header_text h) (i % w) (i / w) (table_no_cell h))
      ∙ nothing_of_it [] cells (edges_text e) (i % w) (i / w) (bad_alone (edges_text e) (i % w) (i / w) (region_no_cell e))
      ∙ given_from w a b (w * h.height) fair rest i (w * h.height) 0 (omega arith) (omega arith) (omega arith)
