-- Two listings of one size, compared line by line: the lines told are the report's. Assumes nothing.
use mathlib.Core.Path.{◌≡◌, refl, sym, ap, ap₂, ◌∙◌}
use mathlib.Core.Bool.{Bool, true, false, cond, ◌&&◌}
use mathlib.Core.List.{List, [], ◌∷◌, ◌++◌, append_assoc, append-nil}
use Rattle.std.proofs.Common.{None}
use Prim.Native.Nat.{ℕ, zero, suc, ◌+◌, ◌*◌, ◌^◌, ◌≤◌, ◌<◌}
use native.Mathlib.Nat.{mul-le-mul_right, zero-add}
use native.Mathlib.Omega.{arith}
use borrow.Author.Tests.{eqb-true, eqb-false, lt-ltb}
use lib.Dec.{eqb}
use lib.ListN.{length}
use Rattle.std.proofs.lemmas.Option.{same_Some}
use Rattle.decimal.specs.Text.{same}
use Rattle.decimal.proofs.Bytes.{same_self, same_true}
use Rattle.put_text.specs.Placed.{joined}
use Rattle.listing_lines.specs.Line.{cell_text, difference_line, count_line}
use Rattle.listing_lines.specs.declared.CellLine.{CellLine}
use Rattle.listing_lines.specs.Read.{single, header_text, edges_text, fair_cell, read_cell}
use Rattle.listing_lines.proofs.Reading.{both_true}
use Rattle.listing_lines.proofs.Laws.{cell_read}
use Rattle.listing_lines.proofs.Others.{table_no_cell, region_no_cell}
use Rattle.listing.specs.Listing.{across, down, cell_texts}
use Rattle.listing.specs.Read.{Listed, listed_lines, all_single}
use Rattle.listing.proofs.Cut.{joined_append}
use Rattle.listing.proofs.Fair.{Fair, cell_fair}
use Rattle.listing.proofs.Grid.{next, in_a_row}
use Rattle.compare.specs.Report.{both_lines, differing, one_size, report}
use Rattle.compare.specs.Told.{told, counted, told_lines, all_told, all_counted}
use Rattle.compare.specs.declared.Difference.{Difference}
use Rattle.compare.specs.declared.Difference.TheVariants.{Same, Lines, Cells}

-- ---- two lines that are no cells'

module _ (s t : List ℕ) (e : read_cell s ≡ None) where
  by_same : (b : Bool) → same s t ≡ b → told s t ≡ cond b Same Lines
  unfolding told
  by_same true f = simp f
  by_same false f = simp (f, e)

  lines_told : told_lines (told s t) s t ≡ both_lines s t
  lines_told = by_bool (same s t) refl
    where
      by_bool : (b : Bool) → same s t ≡ b → told_lines (told s t) s t ≡ cond b [] (s ∷ t ∷ [])
      by_bool true f = ap (λ (d : Difference). told_lines d s t) (by_same true f)
      by_bool false f = ap (λ (d : Difference). told_lines d s t) (by_same false f)

  lines_counted : (n : ℕ) → counted n (told s t) ≡ n
  unfolding counted
  lines_counted n = by_bool (same s t) refl
    where
      by_bool : (b : Bool) → same s t ≡ b → counted n (told s t) ≡ n
      by_bool true f = ap (counted n) (by_same true f)
      by_bool false f = ap (counted n) (by_same false f)

-- ---- two cells' lines

module _ (u v a b c d : ℕ) (f : fair_cell (record { u = u; v = v; a = a; b = b }) ≡ true) (g : fair_cell (record { u = u; v = v; a = c; b = d }) ≡ true) where
  abbrev old : CellLine
  old = record { u = u; v = v; a = a; b = b }

  abbrev new : CellLine
  new = record { u = u; v = v; a = c; b = d }

  cell_same : cell_text u v a b ≡ cell_text u v c d → (a ≡ c) × (b ≡ d)
  cell_same e =
      let h : old ≡ new = same_Some old new (sym (cell_read old f) ∙ ap read_cell e ∙ cell_read new g) in
      (ap (λ (x : CellLine). x.a) h, ap (λ (x : CellLine). x.b) h)

  cell_compared : told (cell_text u v a b) (cell_text u v c d) ≡ cond (eqb a c && eqb b d) Same (Cells u v a b c d)
  unfolding told
  cell_compared = by_tests (eqb a c) (eqb b d) refl refl
    where
      differ : (cell_text u v a b ≡ cell_text u v c d → ⊥) → told (cell_text u v a b) (cell_text u v c d) ≡ Cells u v a b c d
      differ ne = simp (not_same (same (cell_text u v a b) (cell_text u v c d)) refl, cell_read old f, cell_read new g)
        where
          not_same : (t : Bool) → same (cell_text u v a b) (cell_text u v c d) ≡ t → same (cell_text u v a b) (cell_text u v c d) ≡ false
          not_same true e = absurd (ne (same_true (cell_text u v a b) (cell_text u v c d) e))
          not_same false e = e

      equal : cell_text u v a b ≡ cell_text u v c d → told (cell_text u v a b) (cell_text u v c d) ≡ Same
      equal e = simp (ap (same (cell_text u v a b)) (sym e) ∙ same_self (cell_text u v a b))

      by_tests : (s t : Bool) → eqb a c ≡ s → eqb b d ≡ t → told (cell_text u v a b) (cell_text u v c d) ≡ cond (s && t) Same (Cells u v a b c d)
      by_tests true true e h = equal (ap₂ (cell_text u v) (eqb-true a c e) (eqb-true b d h))
      by_tests true false e h = differ (λ i. eqb-false b d h (cell_same i).1)
      by_tests false t e h = differ (λ i. eqb-false a c e (cell_same i).0)

-- ---- the cells' lines

onto_if :
    (t : Bool) (u v a b c d : ℕ) (s s' : List ℕ) (later : List (List ℕ)) →
    told_lines (cond t Same (Cells u v a b c d)) s s' ++ later ≡ cond t later (difference_line u v a b c d ∷ later)
onto_if true u v a b c d s s' later = refl
onto_if false u v a b c d s s' later = refl

one_more : (t : Bool) (n u v a b c d : ℕ) (later : List (List ℕ)) → n < 2 ^ 32 → counted n (cond t Same (Cells u v a b c d)) + length later ≡ n + length (cond t later (difference_line u v a b c d ∷ later))
unfolding counted
one_more true n u v a b c d later h = refl
one_more false n u v a b c d later h = simp (lt-ltb n (2 ^ 32) h) (omega arith)

at_most_one : (t : Bool) (n u v a b c d k : ℕ) → n + suc k ≤ 2 ^ 32 → counted n (cond t Same (Cells u v a b c d)) + k ≤ 2 ^ 32
unfolding counted
at_most_one true n u v a b c d k h = omega arith
at_most_one false n u v a b c d k h = simp (lt-ltb n (2 ^ 32) (omega arith)) (omega arith)

module _ (w h : ℕ) (hw : w ≤ 4096) (hh : h ≤ 4096) where
  cells_compared :
      (old new : List ℕ) (u v n k : ℕ) → u < w → all_single old ≡ true → all_single new ≡ true →
      length old + 2 * (v * w + u) ≡ 2 * (w * h) → length new ≡ length old → length old ≡ 2 * k → n + k ≤ 2 ^ 32 →
      (all_told (cell_texts w h u v old) (cell_texts w h u v new) ≡ differing w u v old new)
      × (all_counted n (cell_texts w h u v old) (cell_texts w h u v new) ≡ n + length (differing w u v old new))
  unfolding all_told all_counted cell_texts differing
  cells_compared [] new u v n k l s t e f x y = (refl, omega arith)
  cells_compared (a ∷ []) new u v n k l s t e f x y = absurd (omega arith)
  cells_compared (a ∷ b ∷ old) [] u v n k l s t e f x y = absurd (omega arith)
  cells_compared (a ∷ b ∷ old) (c ∷ []) u v n k l s t e f x y = absurd (omega arith)
  cells_compared (a ∷ b ∷ old) (c ∷ d ∷ new) u v n zero l s t e f x y = absurd (omega arith)
  cells_compared (a ∷ b ∷ old) (c ∷ d ∷ new) u v n (suc k) l s t e f x y =
      let i : v < h = in_a_row w h u v (omega arith) in
      let m = next w u v l in
      let p = both_true (single a) (single b && all_single old) s in
      let p' = both_true (single b) (all_single old) p.1 in
      let q = both_true (single c) (single d && all_single new) t in
      let q' = both_true (single d) (all_single new) q.1 in
      let z = eqb a c && eqb b d in
      let told_is = cell_compared u v a b c d (cell_fair u v a b (omega arith) (omega arith) p.0 p'.0) (cell_fair u v c d (omega arith) (omega arith) q.0 q'.0) in
      let more =
      cells_compared old new (across w u) (down w u v) (counted n (cond z Same (Cells u v a b c d))) k m.0 p'.1 q'.1 (omega (arith, m.1)) (omega arith) (omega arith)
      (at_most_one z n u v a b c d k y) in
      simp (lt-ltb v h i, told_is) (
        ap (λ (ls : List (List ℕ)). told_lines (cond z Same (Cells u v a b c d)) (cell_text u v a b) (cell_text u v c d) ++ ls) more.0
            ∙ onto_if z u v a b c d (cell_text u v a b) (cell_text u v c d) (differing w (across w u) (down w u v) old new),
        more.1 ∙ one_more z n u v a b c d (differing w (across w u) (down w u v) old new) (omega arith),
      )

-- ---- two listings

module _ (l m : Listed) (f : Fair l) (g : Fair m) (e : one_size l.header m.header ≡ true) where
  abbrev w : ℕ
  w = l.header.width

  abbrev h : ℕ
  h = l.header.height

  ew : w ≡ m.header.width
  ew = eqb-true w m.header.width (both_true (eqb w m.header.width) _ e).0

  eh : h ≡ m.header.height
  eh = eqb-true h m.header.height (both_true (eqb w m.header.width) _ e).1

  few : 0 + w * h ≤ 2 ^ 32
  few =
      let i : w * h ≤ 4096 * h = mul-le-mul_right h f.size.not_wider in
      omega (arith, i, f.size.not_higher)

  as_long : length m.cells ≡ length l.cells
  as_long = g.count ∙ ap₂ (λ (x y : ℕ). 2 * (x * y)) (sym ew) (sym eh) ∙ sym f.count

  cells_both :
      (all_told (cell_texts w h 0 0 l.cells) (cell_texts w h 0 0 m.cells) ≡ differing w 0 0 l.cells m.cells)
      × (all_counted 0 (cell_texts w h 0 0 l.cells) (cell_texts w h 0 0 m.cells) ≡ 0 + length (differing w 0 0 l.cells m.cells))
  cells_both = cells_compared w h f.size.not_wider f.size.not_higher l.cells m.cells 0 0 0 (w * h) (omega (arith, f.size.wide)) f.singles g.singles (omega (arith, f.count)) as_long f.count few

  cells_of_new : cell_texts m.header.width m.header.height 0 0 m.cells ≡ cell_texts w h 0 0 m.cells
  cells_of_new = ap₂ (λ (x y : ℕ). cell_texts x y 0 0 m.cells) (sym ew) (sym eh)

  told_report :
      all_told (listed_lines l) (listed_lines m)
      ≡ both_lines (header_text l.header) (header_text m.header)
      ++ (both_lines (edges_text l.edges) (edges_text m.edges) ++ differing w 0 0 l.cells m.cells)
  unfolding all_told listed_lines
  told_report =
      ap₂ (λ (x y : List (List ℕ)). x ++ y) (lines_told (header_text l.header) (header_text m.header) (table_no_cell l.header))
      (ap₂ (λ (x y : List (List ℕ)). x ++ y) (lines_told (edges_text l.edges) (edges_text m.edges) (region_no_cell l.edges))
      (ap (all_told (cell_texts w h 0 0 l.cells)) cells_of_new ∙ cells_both.0))

  counted_report : all_counted 0 (listed_lines l) (listed_lines m) ≡ length (differing w 0 0 l.cells m.cells)
  unfolding all_counted listed_lines
  counted_report =
      ap (λ (n : ℕ). all_counted (counted n (told (edges_text l.edges) (edges_text m.edges))) (cell_texts w h 0 0 l.cells) (cell_texts m.header.width m.header.height 0 0 m.cells)) (lines_counted (header_text l.header) (header_text m.header) (table_no_cell l.header) 0)
      ∙ ap (λ (n : ℕ). all_counted n (cell_texts w h 0 0 l.cells) (cell_texts m.header.width m.header.height 0 0 m.cells)) (lines_counted (edges_text l.edges) (edges_text m.edges) (region_no_cell l.edges) 0)
      ∙ ap (all_counted 0 (cell_texts w h 0 0 l.cells)) cells_of_new
      ∙ cells_both.1
      ∙ zero-add (length (differing w 0 0 l.cells m.cells))

  pub reported :
      joined (all_told (listed_lines l) (listed_lines m)) ++ count_line (all_counted 0 (listed_lines l) (listed_lines m)) ≡ joined (report l m)
  unfolding report joined
  reported =
      let a = both_lines (header_text l.header) (header_text m.header) in
      let b = both_lines (edges_text l.edges) (edges_text m.edges) in
      let c = differing w 0 0 l.cells m.cells in
      let last = count_line (length c) in
      ap₂ (λ (x : List (List ℕ)) (n : ℕ). joined x ++ count_line n) told_report counted_report
      ∙ sym (joined_append (a ++ (b ++ c)) (last ∷ []) ∙ ap (λ (t : List ℕ). joined (a ++ (b ++ c)) ++ t) (one last))
      ∙ ap joined (append_assoc a (b ++ c) (last ∷ []) ∙ ap (λ (t : List (List ℕ)). a ++ t) (append_assoc b c (last ∷ [])))
    where
      one : (t : List ℕ) → joined (t ∷ []) ≡ t
      one t = append-nil t
