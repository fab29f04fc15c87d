-- What is written of numbers and of lines is read back. Assumes nothing.
use mathlib.Core.Path.{◌≡◌, refl, ap, ◌∙◌}
use mathlib.Core.Bool.{Bool, true, false, cond, ◌&&◌}
use mathlib.Core.List.{List, [], ◌∷◌, ◌++◌}
use Prim.Native.Nat.{ℕ, zero, suc, ◌+◌, ◌/◌, ◌%◌, ◌^◌, ◌<◌}
use native.Mathlib.Omega.{arith}
use borrow.Author.Tests.{ne_eqb, ltb-true}
use lib.Dec.{ltb}
use Rattle.std.proofs.Common.{Option, Some, unwrap_or}
use Rattle.io.specs.Digits.{hex_digit_ascii, last_digits}
use Rattle.decimal.specs.Decimal.{places, decimal}
use Rattle.decimal.proofs.Digits.{decimal_worth}
use Rattle.hexadecimal.specs.Hex.{read}
use Rattle.hexadecimal.proofs.Written.{read_digits}
use Rattle.listing_lines.specs.Line.{hex, line, word_table, word_region, word_cell, table_line, region_text, cell_text}
use Rattle.listing_lines.specs.declared.RegionLine.{RegionLine}
use Rattle.listing_lines.specs.declared.CellLine.{CellLine}
use Rattle.listing_lines.specs.Read.{onto, fields, single, double, header_of, edges_text, fair_edges, edges_of, text_of_cell, cell_of}
use Rattle.listing_lines.proofs.Reading.{both_true}

-- ---- a bit pattern

pub pattern_back : (k n : ℕ) → n < 16 ^ k → unwrap_or (read (Some 0) (hex k n)) 0 ≡ n
unfolding hex
pattern_back k n h = ap (λ (o : Option ℕ). unwrap_or o 0) (read_digits k n h)

-- ---- words and fields hold no tab and no line end

abbrev pub Plain : List ℕ → Type 0
Plain [] = Unit {0}
Plain (b ∷ text) = (10 < b) × Plain text

abbrev pub Plains : List (List ℕ) → Type 0
Plains [] = Unit {0}
Plains (text ∷ texts) = Plain text × Plains texts

plain_append : (s t : List ℕ) → Plain s → Plain t → Plain (s ++ t)
plain_append [] t p q = q
plain_append (b ∷ s) t p q = (p.0, plain_append s t p.1 q)

glyph_plain : (d : ℕ) (t : Bool) → 10 < cond t (48 + d) (87 + d)
glyph_plain d true = omega arith
glyph_plain d false = omega arith

digits_plain : (base k n : ℕ) → Plain (last_digits base k n)
digits_plain base zero n = tt
digits_plain base (suc k) n =
    plain_append (last_digits base k (n / base)) (hex_digit_ascii (n % base) ∷ []) (digits_plain base k (n / base)) (glyph_plain (n % base) (ltb (n % base) 10), tt)

pub decimal_plain : (n : ℕ) → Plain (decimal n)
unfolding decimal
decimal_plain n = digits_plain 10 (places n n) n

pub hex_plain : (k n : ℕ) → Plain (hex k n)
unfolding hex
hex_plain k n = digits_plain 16 k n

-- ---- the fields of a line

fields_tab : (s rest : List ℕ) → Plain s → fields (s ++ (9 ∷ rest)) ≡ s ∷ fields rest
unfolding fields
fields_tab [] rest p = refl
fields_tab (b ∷ s) rest p =
    simp (ne_eqb b 10 (λ e. omega (arith, p.0, e)), ne_eqb b 9 (λ e. omega (arith, p.0, e))) (ap (onto b) (fields_tab s rest p.1))

fields_end : (s : List ℕ) → Plain s → fields (s ++ (10 ∷ [])) ≡ s ∷ []
unfolding fields
fields_end [] p = refl
fields_end (b ∷ s) p =
    simp (ne_eqb b 10 (λ e. omega (arith, p.0, e)), ne_eqb b 9 (λ e. omega (arith, p.0, e))) (ap (onto b) (fields_end s p.1))

fields_line : (word : List ℕ) (texts : List (List ℕ)) → Plain word → Plains texts → fields (line word texts) ≡ word ∷ texts
unfolding line
fields_line word [] p q = fields_end word p
fields_line word (text ∷ texts) p q =
    fields_tab word (line text texts) p ∙ ap (λ (l : List (List ℕ)). word ∷ l) (fields_line text texts q.0 q.1)

-- ---- the three kinds of lines

pub table_plain : Plain word_table
table_plain = omega arith

pub region_plain : Plain word_region
region_plain = omega arith

pub cell_plain : Plain word_cell
cell_plain = omega arith

module _ (width height updates : ℕ) where
  pub plains_of_table : Plains (decimal width ∷ decimal height ∷ decimal updates ∷ [])
  plains_of_table = (decimal_plain width, (decimal_plain height, (decimal_plain updates, tt)))

  pub header_back : header_of (fields (table_line width height updates)) ≡ record { width = width; height = height; updates = updates }
  unfolding table_line header_of
  header_back =
      ap header_of (fields_line word_table (decimal width ∷ decimal height ∷ decimal updates ∷ []) table_plain plains_of_table)
      ∙ simp (decimal_worth width, decimal_worth height, decimal_worth updates)

module _ (e : RegionLine) where
  pub plains_of_region : Plains (hex 16 e.left ∷ hex 16 e.top ∷ hex 16 e.right ∷ hex 16 e.bottom ∷ [])
  plains_of_region = (hex_plain 16 _, (hex_plain 16 _, (hex_plain 16 _, (hex_plain 16 _, tt))))

  pub edges_back : fair_edges e ≡ true → edges_of (fields (edges_text e)) ≡ e
  unfolding region_text edges_of
  edges_back h =
      let x = both_true (double e.left && double e.top) _ h in
      let y = both_true (double e.left) _ x.0 in
      let z = both_true (double e.right) _ x.1 in
      ap edges_of (fields_line word_region (hex 16 e.left ∷ hex 16 e.top ∷ hex 16 e.right ∷ hex 16 e.bottom ∷ []) region_plain plains_of_region)
      ∙ simp (
        pattern_back 16 e.left (omega (arith, ltb-true e.left (2 ^ 64) y.0)),
        pattern_back 16 e.top (omega (arith, ltb-true e.top (2 ^ 64) y.1)),
        pattern_back 16 e.right (omega (arith, ltb-true e.right (2 ^ 64) z.0)),
        pattern_back 16 e.bottom (omega (arith, ltb-true e.bottom (2 ^ 64) z.1)),
      )

module _ (c : CellLine) where
  pub plains_of_cell : Plains (decimal c.u ∷ decimal c.v ∷ hex 8 c.a ∷ hex 8 c.b ∷ [])
  plains_of_cell = (decimal_plain c.u, (decimal_plain c.v, (hex_plain 8 _, (hex_plain 8 _, tt))))

  pub cell_back : (single c.a && single c.b) ≡ true → cell_of (fields (text_of_cell c)) ≡ c
  unfolding cell_text cell_of
  cell_back h =
      let x = both_true (single c.a) _ h in
      ap cell_of (fields_line word_cell (decimal c.u ∷ decimal c.v ∷ hex 8 c.a ∷ hex 8 c.b ∷ []) cell_plain plains_of_cell)
      ∙ simp (
        decimal_worth c.u,
        decimal_worth c.v,
        pattern_back 8 c.a (omega (arith, ltb-true c.a (2 ^ 32) x.0)),
        pattern_back 8 c.b (omega (arith, ltb-true c.b (2 ^ 32) x.1)),
      )
