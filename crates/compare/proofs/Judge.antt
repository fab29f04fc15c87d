-- Lines that are judged whole are a listing's, and a listing's lines are judged whole. Assumes nothing.
use mathlib.Core.Path.{◌≡◌, refl, sym, ap, ap₂, ◌∙◌}
use mathlib.Core.Bool.{Bool, true, false, cond, ◌&&◌, false≢true}
use mathlib.Core.List.{List, [], ◌∷◌}
use Rattle.std.proofs.Common.{Option, Some, None}
use Prim.Native.Nat.{ℕ, suc, ◌+◌, ◌*◌, ◌^◌, ◌≤◌, ◌<◌}
use native.Mathlib.Nat.{mul_comm, mul-le-mul_right, suc-mul}
use native.Mathlib.Omega.{arith}
use borrow.Author.Tests.{lt-ltb, eq-eqb, ltb-true, ltb-false, eqb-true}
use lib.Dec.{eqb, ltb}
use lib.ListN.{length}
use Rattle.decimal.proofs.Bytes.{both}
use Rattle.region.proofs.Size.{is_sized}
use Rattle.region.specs.Size.{sized, Sized}
use Rattle.listing_lines.specs.Line.{cell_text}
use Rattle.listing_lines.specs.declared.TableLine.{TableLine}
use Rattle.listing_lines.specs.declared.RegionLine.{RegionLine}
use Rattle.listing_lines.specs.declared.CellLine.{CellLine}
use Rattle.listing_lines.specs.Read.{single, fair_numbers, read_table, edges_text, read_region, read_cell}
use Rattle.listing_lines.specs.declared.TableLine.{TableLine}
use Rattle.listing_lines.specs.declared.RegionLine.{RegionLine}
use Rattle.listing_lines.specs.declared.CellLine.{CellLine}
use Rattle.listing_lines.proofs.Reading.{both_true}
use Rattle.listing_lines.proofs.Laws.{table_read, only_table, region_read, only_region, cell_read, only_cell}
use Rattle.listing.specs.Listing.{across, down, cell_texts}
use Rattle.listing.specs.Read.{Listed, listed_lines, all_single}
use Rattle.listing.proofs.Fair.{of_size, Fair, cell_fair}
use Rattle.listing.proofs.Grid.{next, in_a_row, before_end}
use Rattle.compare.specs.Judged.{after_table, after_region, next_cell, after_cell, step, judged, whole}
use Rattle.compare.specs.declared.Judging.TheVariants as at

-- ---- a bad line is never made good

bad_whole : (lines : List (List ℕ)) → whole (judged at.Bad lines) ≡ false
unfolding judged step
bad_whole [] = refl
bad_whole (text ∷ lines) = bad_whole lines

never : {A : Type 0} (lines : List (List ℕ)) → whole (judged at.Bad lines) ≡ true → A
never lines e = absurd (false≢true (sym (bad_whole lines) ∙ e))

-- ---- places

-- as many cells lie before a place as there are: it is the one past the last row
past_the_last : (w h u v : ℕ) → u < w → v * w + u ≡ w * h → (u ≡ 0) × (v ≡ h)
past_the_last w h u v l e = by_row (ltb v h) (ltb h v) refl refl
  where
    by_row : (s t : Bool) → ltb v h ≡ s → ltb h v ≡ t → (u ≡ 0) × (v ≡ h)
    by_row true t f g = absurd (omega (arith, e, before_end w h u v l (ltb-true v h f)))
    by_row false true f g =
        let i : suc h ≤ v = ltb-true h v g in
        let m : suc h * w ≤ v * w = mul-le-mul_right w i in
        absurd (omega (arith, e, m, suc-mul h w, mul_comm w h))
    by_row false false f g =
        let i : v ≡ h = omega (arith, ltb-false v h f, ltb-false h v g) in
        (omega (arith, e, ap (λ (k : ℕ). k * w) i, mul_comm w h), i)

-- ---- one cell's line

next_only :
    (w h u v x y : ℕ) (lines : List (List ℕ)) →
    whole (judged (next_cell w h u v x y) lines) ≡ true →
    ((x ≡ u) × (y ≡ v)) × ((v < h) × (whole (judged (at.Cells w h (across w u) (down w u v)) lines) ≡ true))
unfolding next_cell
next_only w h u v x y lines e = by_test ((eqb x u && eqb y v) && (ltb u w && ltb v h)) refl e
  where
    by_test :
        (t : Bool) →
        ((eqb x u && eqb y v) && (ltb u w && ltb v h)) ≡ t →
        whole (judged (cond t (at.Cells w h (across w u) (down w u v)) at.Bad) lines) ≡ true →
        ((x ≡ u) × (y ≡ v)) × ((v < h) × (whole (judged (at.Cells w h (across w u) (down w u v)) lines) ≡ true))
    by_test true f g =
        let p = both_true (eqb x u && eqb y v) _ f in
        let q = both_true (eqb x u) _ p.0 in
        let r = both_true (ltb u w) _ p.1 in
        ((eqb-true x u q.0, eqb-true y v q.1), (ltb-true v h r.1, g))
    by_test false f g = never lines g

next_taken : (w h u v : ℕ) → u < w → v < h → next_cell w h u v u v ≡ at.Cells w h (across w u) (down w u v)
unfolding next_cell
next_taken w h u v i j = simp (eq-eqb u u refl, eq-eqb v v refl, lt-ltb u w i, lt-ltb v h j)

-- ---- the cells' lines

-- some lines are those of the cells from a place on to the last
record Rest (w h u v : ℕ) (lines : List (List ℕ)) : Type 0 where
  cells : List ℕ
  singles : all_single cells ≡ true
  is : lines ≡ cell_texts w h u v cells
  count : length cells + 2 * (v * w + u) ≡ 2 * (w * h)

module _ (w h : ℕ) where
  cells_only : (lines : List (List ℕ)) (u v : ℕ) → u < w → v * w + u ≤ w * h → whole (judged (at.Cells w h u v) lines) ≡ true → Rest w h u v lines
  unfolding judged cell_texts step
  cells_only [] u v l m e =
      let f : v ≡ h = eqb-true v h e in
      record { cells = []; singles = refl; is = refl; count = omega (arith, m, ap (λ (k : ℕ). k * w) f, mul_comm w h) }
  cells_only (text ∷ lines) u v l m e = by_line (λ u' v'. cells_only lines u' v') (read_cell text) refl e
    where
      by_line :
          ((u' v' : ℕ) → u' < w → v' * w + u' ≤ w * h → whole (judged (at.Cells w h u' v') lines) ≡ true → Rest w h u' v' lines) →
          (r : Option CellLine) → read_cell text ≡ r → whole (judged (after_cell w h u v r) lines) ≡ true → Rest w h u v (text ∷ lines)
      by_line more None f g = never lines g
      by_line more (Some c) f g =
          let n = next_only w h u v c.u c.v lines g in
          let o = only_cell text c f in
          let s = (both_true (single c.u && single c.v) _ o.1).1 in
          let t = both_true (single c.a) (single c.b) s in
          let k = next w u v l in
          let i : v * w + u < w * h = before_end w h u v l n.1.0 in
          let r = more (across w u) (down w u v) k.0 (omega (arith, k.1, i)) n.1.1 in
          record {
            cells = c.a ∷ c.b ∷ r.cells;
            singles = both t.0 (both t.1 r.singles);
            is =
                ap₂ (λ (p : List ℕ) (q : List (List ℕ)). p ∷ q) (o.0 ∙ ap₂ (λ (p q : ℕ). cell_text p q c.a c.b) n.0.0 n.0.1) r.is
                ∙ sym (ap (λ (t : Bool). cond t (cell_text u v c.a c.b ∷ cell_texts w h (across w u) (down w u v) r.cells) []) (lt-ltb v h n.1.0));
            count = omega (arith, r.count, k.1);
          }

  cells_back :
      w ≤ 4096 → h ≤ 4096 →
      (cells : List ℕ) (u v : ℕ) → u < w → all_single cells ≡ true → length cells + 2 * (v * w + u) ≡ 2 * (w * h) →
      judged (at.Cells w h u v) (cell_texts w h u v cells) ≡ at.Cells w h 0 h
  unfolding judged cell_texts step
  cells_back hw hh [] u v l s e =
      let p = past_the_last w h u v l (omega arith) in
      ap₂ (at.Cells w h) p.0 p.1
  cells_back hw hh (a ∷ []) u v l s e = absurd (omega arith)
  cells_back hw hh (a ∷ b ∷ cells) u v l s e =
      let i : v < h = in_a_row w h u v (omega arith) in
      let n = next w u v l in
      let x = both_true (single a) (single b && all_single cells) s in
      let y = both_true (single b) (all_single cells) x.1 in
      let f = cell_fair u v a b (omega arith) (omega arith) x.0 y.0 in
      simp (lt-ltb v h i, cell_read (record { u = u; v = v; a = a; b = b }) f, next_taken w h u v l i)
      (cells_back hw hh cells (across w u) (down w u v) n.0 y.1 (omega (arith, n.1)))

-- ---- the table's line and the region's

-- some lines are those of a listing
pub record Listing (lines : List (List ℕ)) : Type 0 where
  pub told : Listed
  pub fair : Fair told
  pub is : lines ≡ listed_lines told

module _ (first second : List ℕ) (header : TableLine) (f : read_table first ≡ Some header) (s : Sized header.width header.height) where
  by_region :
      (lines : List (List ℕ)) (r : Option RegionLine) →
      read_region second ≡ r →
      whole (judged (after_region header.width header.height r) lines) ≡ true →
      Listing (first ∷ second ∷ lines)
  unfolding listed_lines
  by_region lines None e g = never lines g
  by_region lines (Some edges) e g =
      let w = header.width in
      let h = header.height in
      let c = cells_only w h lines 0 0 (omega (arith, s.wide)) (omega arith) g in
      let o = only_table first header f in
      let q = only_region second edges e in
      record {
        told = record { header = header; edges = edges; cells = c.cells };
        fair = record {
          size = s;
          updates = ltb-true header.updates (2 ^ 32) (both_true (single h) _ (both_true (single w) _ o.1).1).1;
          edges = q.1;
          count = omega (arith, c.count);
          singles = c.singles;
        };
        is = ap₂ (λ (x : List ℕ) (y : List (List ℕ)). x ∷ y) o.0 (ap₂ (λ (x : List ℕ) (y : List (List ℕ)). x ∷ y) q.0 c.is);
      }

module _ (first : List ℕ) where
  by_size :
      (lines : List (List ℕ)) (header : TableLine) → read_table first ≡ Some header →
      (t : Bool) → sized header.width header.height ≡ t → whole (judged (cond t (at.Sized header.width header.height) at.Bad) lines) ≡ true → Listing (first ∷ lines)
  unfolding judged step
  by_size lines header e false f g = never lines g
  by_size [] header e true f g = absurd (false≢true g)
  by_size (second ∷ lines) header e true f g =
      by_region first second header e (is_sized header.width header.height f) lines (read_region second) refl g

  by_table : (lines : List (List ℕ)) (r : Option TableLine) → read_table first ≡ r → whole (judged (after_table r) lines) ≡ true → Listing (first ∷ lines)
  by_table lines None e g = never lines g
  by_table lines (Some header) e g = by_size lines header e (sized header.width header.height) refl g

-- ---- both ways

pub whole_only : (lines : List (List ℕ)) → whole (judged at.Start lines) ≡ true → Listing lines
unfolding judged step
whole_only [] e = absurd (false≢true e)
whole_only (first ∷ lines) e = by_table first lines (read_table first) refl e

pub whole_back : (l : Listed) → Fair l → judged at.Start (listed_lines l) ≡ at.Cells l.header.width l.header.height 0 l.header.height
unfolding judged step listed_lines
whole_back l f =
    let h = l.header in
    let s = f.size in
    let g : fair_numbers h ≡ true =
    both (lt-ltb h.width (2 ^ 32) (omega (arith, s.not_wider))) (both (lt-ltb h.height (2 ^ 32) (omega (arith, s.not_higher))) (lt-ltb h.updates (2 ^ 32) f.updates)) in
    let second = edges_text l.edges in
    let cells = cell_texts h.width h.height 0 0 l.cells in
    ap (λ (o : Option TableLine). judged (step (after_table o) second) cells) (table_read h g)
    ∙ ap (λ (t : Bool). judged (step (cond t (at.Sized h.width h.height) at.Bad) second) cells) (of_size h.width h.height s)
    ∙ ap (λ (o : Option RegionLine). judged (after_region h.width h.height o) cells) (region_read l.edges f.edges)
    ∙ cells_back h.width h.height s.not_wider s.not_higher l.cells 0 0 (omega (arith, s.wide)) f.singles (omega (arith, f.count))
