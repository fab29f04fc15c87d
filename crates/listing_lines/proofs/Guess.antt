-- What the code guesses of a line is right where the line is one that was written: so it reads what the definition
-- reads. Assumes nothing.
use mathlib.Core.Path.{◌≡◌, refl, ap, ap₂, ◌∙◌}
use mathlib.Core.Bool.{Bool, true, ◌&&◌}
use mathlib.Core.List.{List, [], ◌∷◌}
use Prim.Native.Nat.{ℕ, suc, ◌%◌, ◌^◌, ◌<◌}
use native.Mathlib.Nat.{mod-lt, mod-eq_of_lt}
use native.Mathlib.Omega.{arith}
use borrow.Author.Tests.{lt-ltb, ltb-true}
use lib.ListN.{get_or}
use Rattle.std.specs.Bool.{then_some}
use Rattle.decimal.specs.Decimal.{decimal}
use Rattle.decimal.specs.Text.{same}
use Rattle.listing_lines.specs.Line.{hex, line, word_table, word_region, word_cell, table_line, region_text, cell_text}
use Rattle.listing_lines.specs.Numeral.{numeral}
use Rattle.listing_lines.specs.declared.TableLine.{TableLine}
use Rattle.listing_lines.specs.declared.RegionLine.{RegionLine}
use Rattle.listing_lines.specs.declared.CellLine.{CellLine}
use Rattle.listing_lines.specs.Read.{single, double, header_text, fair_numbers, read_table, edges_text, fair_edges, read_region, text_of_cell, fair_cell, read_cell}
use Rattle.listing_lines.proofs.Reading.{both_true, guessed}
use Rattle.listing_lines.proofs.Back.{Plain, Plains, table_plain, region_plain, cell_plain, plains_of_table, plains_of_region, plains_of_cell}
use Rattle.listing_lines.proofs.Fields.{pushes, pushes_hex, pushes_decimal, field_number}
use Rattle.listing_lines.proofs.Laws.{table_read, only_table, region_read, only_region, cell_read, only_cell}

and : {a b : Bool} → a ≡ true → b ≡ true → (a && b) ≡ true
and e f = ap₂ (λ (p q : Bool). p && q) e f

below : (n : ℕ) → single n ≡ true → n < 2 ^ 32
below n e = ltb-true n (2 ^ 32) e

low : (n m : ℕ) → n ≡ m % 2 ^ 32 → single n ≡ true
low n m e = lt-ltb n (2 ^ 32) (omega (arith, e, mod-lt m {m = 2 ^ 32} (omega arith)))

-- the number of a field, and its lowest 32 bits
module _ (k : ℕ) (word : List ℕ) (fields : List (List ℕ)) (p : Plain word) (q : Plains fields) (n : ℕ) where
  in_decimal : n < 2 ^ 32 → get_or (word ∷ fields) k [] ≡ decimal n → numeral 10 (suc k) 0 (line word fields) % 2 ^ 32 ≡ n
  in_decimal h e = ap (λ (m : ℕ). m % 2 ^ 32) (field_number 10 k word fields p q ∙ ap (λ (t : List ℕ). pushes 10 0 t) e ∙ pushes_decimal n h) ∙ mod-eq_of_lt h

  in_hex : n < 2 ^ 32 → get_or (word ∷ fields) k [] ≡ hex 8 n → numeral 16 (suc k) 0 (line word fields) % 2 ^ 32 ≡ n
  in_hex h e = ap (λ (m : ℕ). m % 2 ^ 32) (field_number 16 k word fields p q ∙ ap (λ (t : List ℕ). pushes 16 0 t) e ∙ pushes_hex 8 n (omega arith) (omega arith)) ∙ mod-eq_of_lt h

  in_long_hex : n < 2 ^ 64 → get_or (word ∷ fields) k [] ≡ hex 16 n → numeral 16 (suc k) 0 (line word fields) ≡ n
  in_long_hex h e = field_number 16 k word fields p q ∙ ap (λ (t : List ℕ). pushes 16 0 t) e ∙ pushes_hex 16 n (omega arith) h

-- ---- a cell's line

module _ (text : List ℕ) (u v a b : ℕ)
    (eu : u ≡ numeral 10 2 0 text % 2 ^ 32) (ev : v ≡ numeral 10 3 0 text % 2 ^ 32)
    (ea : a ≡ numeral 16 4 0 text % 2 ^ 32) (eb : b ≡ numeral 16 5 0 text % 2 ^ 32) where
  abbrev guess : CellLine
  guess = record { u = u; v = v; a = a; b = b }

  cell_right : (c : CellLine) → text ≡ text_of_cell c → fair_cell c ≡ true → guess ≡ c
  unfolding cell_text
  cell_right c e f =
      let x = both_true (single c.u && single c.v) _ f in
      let y = both_true (single c.u) _ x.0 in
      let z = both_true (single c.a) _ x.1 in
      let fs = decimal c.u ∷ decimal c.v ∷ hex 8 c.a ∷ hex 8 c.b ∷ [] in
      let q = plains_of_cell c in
      let gu : u ≡ c.u = eu ∙ ap (λ (t : List ℕ). numeral 10 2 0 t % 2 ^ 32) e ∙ in_decimal 1 word_cell fs cell_plain q c.u (below c.u y.0) refl in
      let gv : v ≡ c.v = ev ∙ ap (λ (t : List ℕ). numeral 10 3 0 t % 2 ^ 32) e ∙ in_decimal 2 word_cell fs cell_plain q c.v (below c.v y.1) refl in
      let ga : a ≡ c.a = ea ∙ ap (λ (t : List ℕ). numeral 16 4 0 t % 2 ^ 32) e ∙ in_hex 3 word_cell fs cell_plain q c.a (below c.a z.0) refl in
      let gb : b ≡ c.b = eb ∙ ap (λ (t : List ℕ). numeral 16 5 0 t % 2 ^ 32) e ∙ in_hex 4 word_cell fs cell_plain q c.b (below c.b z.1) refl in
      rw (gu, gv, ga, gb) refl

  cell_fair : fair_cell guess ≡ true
  cell_fair = and (and (low u _ eu) (low v _ ev)) (and (low a _ ea) (low b _ eb))

  pub cell_guessed : (t : Bool) → t ≡ same text (cell_text u v a b) → then_some t guess ≡ read_cell text
  cell_guessed t e =
      ap (λ (s : Bool). then_some s guess) e
      ∙ guessed fair_cell text_of_cell read_cell cell_read only_cell text guess cell_fair cell_right

-- ---- a table's

module _ (text : List ℕ) (w h n : ℕ)
    (ew : w ≡ numeral 10 2 0 text % 2 ^ 32) (eh : h ≡ numeral 10 3 0 text % 2 ^ 32) (en : n ≡ numeral 10 4 0 text % 2 ^ 32) where
  abbrev header : TableLine
  header = record { width = w; height = h; updates = n }

  table_right : (x : TableLine) → text ≡ header_text x → fair_numbers x ≡ true → header ≡ x
  unfolding table_line
  table_right x e f =
      let y = both_true (single x.width) _ f in
      let z = both_true (single x.height) _ y.1 in
      let fs = decimal x.width ∷ decimal x.height ∷ decimal x.updates ∷ [] in
      let q = plains_of_table x.width x.height x.updates in
      let gw : w ≡ x.width = ew ∙ ap (λ (t : List ℕ). numeral 10 2 0 t % 2 ^ 32) e ∙ in_decimal 1 word_table fs table_plain q x.width (below x.width y.0) refl in
      let gh : h ≡ x.height = eh ∙ ap (λ (t : List ℕ). numeral 10 3 0 t % 2 ^ 32) e ∙ in_decimal 2 word_table fs table_plain q x.height (below x.height z.0) refl in
      let gn : n ≡ x.updates = en ∙ ap (λ (t : List ℕ). numeral 10 4 0 t % 2 ^ 32) e ∙ in_decimal 3 word_table fs table_plain q x.updates (below x.updates z.1) refl in
      rw (gw, gh, gn) refl

  pub table_guessed : (t : Bool) → t ≡ same text (table_line w h n) → then_some t header ≡ read_table text
  table_guessed t e =
      ap (λ (s : Bool). then_some s header) e
      ∙ guessed fair_numbers header_text read_table table_read only_table text header (and (low w _ ew) (and (low h _ eh) (low n _ en))) table_right

-- ---- a region's

module _ (text : List ℕ) (l t r b : ℕ) (hl : l < 2 ^ 64) (ht : t < 2 ^ 64) (hr : r < 2 ^ 64) (hb : b < 2 ^ 64)
    (el : l ≡ numeral 16 2 0 text) (et : t ≡ numeral 16 3 0 text) (er : r ≡ numeral 16 4 0 text) (eb : b ≡ numeral 16 5 0 text) where
  abbrev edges : RegionLine
  edges = record { left = l; top = t; right = r; bottom = b }

  region_right : (x : RegionLine) → text ≡ edges_text x → fair_edges x ≡ true → edges ≡ x
  unfolding region_text
  region_right x e f =
      let y = both_true (double x.left && double x.top) _ f in
      let z = both_true (double x.left) _ y.0 in
      let o = both_true (double x.right) _ y.1 in
      let fs = hex 16 x.left ∷ hex 16 x.top ∷ hex 16 x.right ∷ hex 16 x.bottom ∷ [] in
      let q = plains_of_region x in
      let gl : l ≡ x.left = el ∙ ap (numeral 16 2 0) e ∙ in_long_hex 1 word_region fs region_plain q x.left (ltb-true x.left (2 ^ 64) z.0) refl in
      let gt : t ≡ x.top = et ∙ ap (numeral 16 3 0) e ∙ in_long_hex 2 word_region fs region_plain q x.top (ltb-true x.top (2 ^ 64) z.1) refl in
      let gr : r ≡ x.right = er ∙ ap (numeral 16 4 0) e ∙ in_long_hex 3 word_region fs region_plain q x.right (ltb-true x.right (2 ^ 64) o.0) refl in
      let gb : b ≡ x.bottom = eb ∙ ap (numeral 16 5 0) e ∙ in_long_hex 4 word_region fs region_plain q x.bottom (ltb-true x.bottom (2 ^ 64) o.1) refl in
      rw (gl, gt, gr, gb) refl

  edges_fair : fair_edges edges ≡ true
  edges_fair = and (and (lt-ltb l (2 ^ 64) hl) (lt-ltb t (2 ^ 64) ht)) (and (lt-ltb r (2 ^ 64) hr) (lt-ltb b (2 ^ 64) hb))

  pub region_guessed : (s : Bool) → s ≡ same text (region_text l t r b) → then_some s edges ≡ read_region text
  region_guessed s e =
      ap (λ (s : Bool). then_some s edges) e
      ∙ guessed fair_edges edges_text read_region region_read only_region text edges edges_fair region_right
