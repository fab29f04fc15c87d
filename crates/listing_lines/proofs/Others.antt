-- Lines that are no cell's: all that don't begin with the letter c, or have no end. Assumes nothing.
use mathlib.Core.Path.{◌≡◌, refl, sym, ap, ◌∙◌}
use mathlib.Core.Bool.{Bool, true, not, false≢true}
use mathlib.Core.List.{List, [], ◌∷◌, ◌++◌}
use Rattle.std.proofs.Common.{Option, Some, None}
use Prim.Native.Nat.{ℕ}
use native.Mathlib.Omega.{arith}
use lib.Dec.{eqb}
use lib.ListN.{get_or}
use Rattle.decimal.specs.Decimal.{decimal}
use Rattle.decimal.specs.Text.{tab, newline, all}
use Rattle.decimal.proofs.Bytes.{and_right}
use Rattle.listing_lines.specs.Line.{hex, line, word_cell, table_line, region_text, cell_text, refused_line, filled_line, differs_line}
use Rattle.listing_lines.specs.declared.TableLine.{TableLine}
use Rattle.listing_lines.specs.declared.RegionLine.{RegionLine}
use Rattle.listing_lines.specs.declared.CellLine.{CellLine}
use Rattle.listing_lines.specs.Read.{header_text, edges_text, read_cell}
use Rattle.listing_lines.proofs.Laws.{only_cell}

pub no_cell : (text : List ℕ) → (get_or text 0 0 ≡ 99 → ⊥) → read_cell text ≡ None
unfolding cell_text line
no_cell text ne = by_line (read_cell text) refl
  where
    by_line : (o : Option CellLine) → read_cell text ≡ o → o ≡ None
    by_line None e = refl
    by_line (Some c) e = absurd (ne (ap (λ (x : List ℕ). get_or x 0 0) (only_cell text c e).0))

pub table_no_cell : (h : TableLine) → read_cell (header_text h) ≡ None
unfolding table_line line
table_no_cell h = no_cell _ (λ e. omega (arith, e))

pub region_no_cell : (e : RegionLine) → read_cell (edges_text e) ≡ None
unfolding region_text line
region_no_cell e = no_cell _ (λ f. omega (arith, f))

pub refused_no_cell : (n : ℕ) → read_cell (refused_line n) ≡ None
unfolding refused_line line
refused_no_cell n = no_cell _ (λ e. omega (arith, e))

pub filled_no_cell : (u v : ℕ) → read_cell (filled_line u v) ≡ None
unfolding filled_line line
filled_no_cell u v = no_cell _ (λ e. omega (arith, e))

pub differs_no_cell : (u v : ℕ) → read_cell (differs_line u v) ≡ None
unfolding differs_line line
differs_no_cell u v = no_cell _ (λ e. omega (arith, e))

-- ---- without an end

abbrev pub goes_on : ℕ → Bool
goes_on b = not (eqb b newline)

second : (s t : List ℕ) → all goes_on (s ++ t) ≡ true → all goes_on t ≡ true
second [] t e = e
second (b ∷ s) t e = second s t (and_right (goes_on b) (all goes_on (s ++ t)) e)

line_ends : (word : List ℕ) (fields : List (List ℕ)) → all goes_on (line word fields) ≡ true → ⊥
unfolding line
line_ends word [] e = false≢true (second word (newline ∷ []) e)
line_ends word (field ∷ fields) e = line_ends field fields (second word (tab ∷ line field fields) e)

pub endless_no_cell : (text : List ℕ) → all goes_on text ≡ true → read_cell text ≡ None
unfolding cell_text
endless_no_cell text e = by_line (read_cell text) refl
  where
    by_line : (o : Option CellLine) → read_cell text ≡ o → o ≡ None
    by_line None r = refl
    by_line (Some c) r =
        absurd
        (line_ends word_cell (decimal c.u ∷ decimal c.v ∷ hex 8 c.a ∷ hex 8 c.b ∷ [])
        (ap (all goes_on) (sym (only_cell text c r).0) ∙ e))
