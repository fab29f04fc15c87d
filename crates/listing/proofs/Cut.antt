-- A listing is cut into the lines that it is made of. Assumes nothing.
use mathlib.Core.Path.{◌≡◌, refl, sym, ap, ◌∙◌}
use mathlib.Core.Bool.{Bool, true, false, cond}
use mathlib.Core.List.{List, [], ◌∷◌, ◌++◌, append_assoc, append-nil}
use Prim.Native.Nat.{ℕ}
use native.Mathlib.Omega.{arith}
use borrow.Author.Tests.{ne_eqb}
use lib.Dec.{ltb}
use Rattle.decimal.specs.Decimal.{decimal}
use Rattle.put_text.specs.Placed.{joined}
use Rattle.listing_lines.specs.Line.{hex, line, word_table, word_region, word_cell, table_line, region_text, cell_text}
use Rattle.listing_lines.specs.declared.TableLine.{TableLine}
use Rattle.listing_lines.specs.declared.RegionLine.{RegionLine}
use Rattle.listing_lines.specs.declared.CellLine.{CellLine}
use Rattle.listing_lines.specs.Read.{onto, header_text, edges_text, text_of_cell}
use Rattle.listing_lines.proofs.Back.{Plain, Plains, table_plain, region_plain, cell_plain, plains_of_table, plains_of_region, plains_of_cell}
use Rattle.listing.specs.Listing.{across, down, cell_texts}
use Rattle.listing.specs.Read.{lines, Listed, listed_lines, listed_text}

-- ---- the lines of a text

through : (s t l : List ℕ) (ls : List (List ℕ)) → Plain s → lines t ≡ l ∷ ls → lines (s ++ t) ≡ (s ++ l) ∷ ls
unfolding lines
through [] t l ls p e = e
through (b ∷ s) t l ls p e = simp (ne_eqb b 10 (λ e. omega (arith, p.0, e))) (ap (onto b) (through s t l ls p.1 e))

lines_end : (rest : List ℕ) → lines (10 ∷ rest) ≡ (10 ∷ []) ∷ lines rest
unfolding lines
lines_end rest = refl

lines_tab : (t l : List ℕ) (ls : List (List ℕ)) → lines t ≡ l ∷ ls → lines (9 ∷ t) ≡ (9 ∷ l) ∷ ls
unfolding lines
lines_tab t l ls e = ap (onto 9) e

lines_line : (word : List ℕ) (texts : List (List ℕ)) (rest : List ℕ) → Plain word → Plains texts → lines (line word texts ++ rest) ≡ line word texts ∷ lines rest
unfolding line
lines_line word [] rest p q =
    ap lines (append_assoc word (10 ∷ []) rest) ∙ through word (10 ∷ rest) (10 ∷ []) (lines rest) p (lines_end rest)
lines_line word (text ∷ texts) rest p q =
    ap lines (append_assoc word (9 ∷ line text texts) rest)
    ∙ through word (9 ∷ (line text texts ++ rest)) (9 ∷ line text texts) (lines rest) p
    (lines_tab (line text texts ++ rest) (line text texts) (lines rest) (lines_line text texts rest q.0 q.1))

-- ---- texts that are cut off whole, whatever follows

abbrev pub Cut : List ℕ → Type 0
Cut text = (rest : List ℕ) → lines (text ++ rest) ≡ text ∷ lines rest

abbrev pub Cuts : List (List ℕ) → Type 0
Cuts [] = Unit {0}
Cuts (text ∷ texts) = Cut text × Cuts texts

pub joined_cut : (texts : List (List ℕ)) (rest : List ℕ) → Cuts texts → lines (joined texts ++ rest) ≡ texts ++ lines rest
unfolding joined
joined_cut [] rest c = refl
joined_cut (text ∷ texts) rest c =
    ap lines (append_assoc text (joined texts) rest)
    ∙ c.0 (joined texts ++ rest)
    ∙ ap (λ (l : List (List ℕ)). text ∷ l) (joined_cut texts rest c.1)

pub joined_append : (s t : List (List ℕ)) → joined (s ++ t) ≡ joined s ++ joined t
unfolding joined
joined_append [] t = refl
joined_append (x ∷ s) t = ap (λ (r : List ℕ). x ++ r) (joined_append s t) ∙ sym (append_assoc x (joined s) (joined t))

-- ---- the three kinds of lines

pub table_cut : (h : TableLine) → Cut (header_text h)
unfolding table_line
table_cut h rest =
    lines_line word_table (decimal h.width ∷ decimal h.height ∷ decimal h.updates ∷ []) rest table_plain
    (plains_of_table h.width h.height h.updates)

pub region_cut : (e : RegionLine) → Cut (edges_text e)
unfolding region_text
region_cut e rest =
    lines_line word_region (hex 16 e.left ∷ hex 16 e.top ∷ hex 16 e.right ∷ hex 16 e.bottom ∷ []) rest region_plain (plains_of_region e)

pub cell_cut : (c : CellLine) → Cut (text_of_cell c)
unfolding cell_text
cell_cut c rest = lines_line word_cell (decimal c.u ∷ decimal c.v ∷ hex 8 c.a ∷ hex 8 c.b ∷ []) rest cell_plain (plains_of_cell c)

cells_cut : (width height u v : ℕ) (cells : List ℕ) → Cuts (cell_texts width height u v cells)
unfolding cell_texts
cells_cut width height u v [] = tt
cells_cut width height u v (a ∷ []) = tt
cells_cut width height u v (a ∷ b ∷ cells) = by_row (ltb v height) (cells_cut width height (across width u) (down width u v) cells)
  where
    by_row :
        (t : Bool) →
        Cuts (cell_texts width height (across width u) (down width u v) cells) →
        Cuts (cond t (cell_text u v a b ∷ cell_texts width height (across width u) (down width u v) cells) [])
    by_row true c = (cell_cut (record { u = u; v = v; a = a; b = b }), c)
    by_row false c = tt

-- all of it, whatever follows
pub listing_cut : (l : Listed) (rest : List ℕ) → lines (listed_text l ++ rest) ≡ listed_lines l ++ lines rest
unfolding listed_text listed_lines
listing_cut l rest =
    joined_cut (listed_lines l) rest
    (table_cut l.header, (region_cut l.edges, cells_cut l.header.width l.header.height 0 0 l.cells))

pub listed_cut : (l : Listed) → lines (listed_text l) ≡ listed_lines l
unfolding lines
listed_cut l = ap lines (sym (append-nil (listed_text l))) ∙ listing_cut l [] ∙ append-nil (listed_lines l)
