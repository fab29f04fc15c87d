-- A line that has grown by a word, fields and a line end is the definition's line. Assumes nothing.
use mathlib.Core.Path.{◌≡◌, ap, ap₂, subst, ◌∙◌}
use mathlib.Core.List.{List, [], ◌∷◌, ◌++◌, append_assoc}
use Prim.Native.Nat.{ℕ, ◌+◌, ◌^◌, ◌≤◌, ◌<◌}
use native.Mathlib.Omega.{arith}
use lib.Ieee.{Float}
use lib.ListN.{length, take}
use Rattle.decimal.specs.Decimal.{decimal}
use Rattle.decimal.proofs.Digits.{decimal_short}
use Rattle.put_text.specs.Placed.{Written, written, with_text, placed}
use Rattle.put_text.proofs.Putting.{is_placed}
use Rattle.put_text.proofs.Whole.{front_is}
use Rattle.region.specs.declared.Region.{Region}
use Rattle.listing_lines.specs.Line.{hex, line, word_table, word_region, word_cell, word_count, word_refused, table_line, region_text, region_line, cell_text, cell_line, refused_line, difference_line, count_line}
use Rattle.listing_lines.specs.Grown.{Grown}
use Rattle.listing_lines.proofs.Numbers.{hex_length}
use Rattle.listing_lines.proofs.Length.{table_length, region_length, cell_length}

on : {l l' s t : List ℕ} {n n' : ℕ} → take n l ≡ t → Grown l n s l' n' → take n' l' ≡ t ++ s
on {l} {l'} {s} {t} e g = g.front ∙ ap (λ (x : List ℕ). x ++ s) e

module _ {z l l' l'' : List ℕ} {n n' n'' : ℕ} {word a : List ℕ} where
  made1 :
      Grown z 0 word l n →
      Grown l n (9 ∷ a) l' n' →
      Grown l' n' (10 ∷ []) l'' n'' →
      take n'' l'' ≡ line word (a ∷ [])
  unfolding line
  made1 g h i = on (on g.front h) i ∙ append_assoc word (9 ∷ a) (10 ∷ [])

module _ {z l₁ l₂ l₃ l₄ : List ℕ} {n₁ n₂ n₃ n₄ : ℕ} {word a b : List ℕ} where
  pub made2 :
      Grown z 0 word l₁ n₁ →
      Grown l₁ n₁ (9 ∷ a) l₂ n₂ →
      Grown l₂ n₂ (9 ∷ b) l₃ n₃ →
      Grown l₃ n₃ (10 ∷ []) l₄ n₄ →
      take n₄ l₄ ≡ line word (a ∷ b ∷ [])
  unfolding line
  made2 g h i j = on (on (on g.front h) i) j ∙ simp append_assoc

module _ {z l₁ l₂ l₃ l₄ l₅ : List ℕ} {n₁ n₂ n₃ n₄ n₅ : ℕ} {word a b d : List ℕ} where
  made3 :
      Grown z 0 word l₁ n₁ →
      Grown l₁ n₁ (9 ∷ a) l₂ n₂ →
      Grown l₂ n₂ (9 ∷ b) l₃ n₃ →
      Grown l₃ n₃ (9 ∷ d) l₄ n₄ →
      Grown l₄ n₄ (10 ∷ []) l₅ n₅ →
      take n₅ l₅ ≡ line word (a ∷ b ∷ d ∷ [])
  unfolding line
  made3 g h i j k = on (on (on (on g.front h) i) j) k ∙ simp append_assoc

three_fields :
    (w b d e : List ℕ) →
    (((w ++ (9 ∷ b)) ++ (9 ∷ d)) ++ (9 ∷ e)) ++ (10 ∷ []) ≡ line w (b ∷ d ∷ e ∷ [])
unfolding line
three_fields w b d e = simp append_assoc

module _ {z l₁ l₂ l₃ l₄ l₅ l₆ : List ℕ} {n₁ n₂ n₃ n₄ n₅ n₆ : ℕ} {word a b d e : List ℕ} where
  made4 :
      Grown z 0 word l₁ n₁ →
      Grown l₁ n₁ (9 ∷ a) l₂ n₂ →
      Grown l₂ n₂ (9 ∷ b) l₃ n₃ →
      Grown l₃ n₃ (9 ∷ d) l₄ n₄ →
      Grown l₄ n₄ (9 ∷ e) l₅ n₅ →
      Grown l₅ n₅ (10 ∷ []) l₆ n₆ →
      take n₆ l₆ ≡ line word (a ∷ b ∷ d ∷ e ∷ [])
  unfolding line
  made4 g h i j k m =
      on (on (on (on (on g.front h) i) j) k) m ∙
      three_fields (word ++ (9 ∷ a)) b d e ∙
      append_assoc word (9 ∷ a) (line [] (b ∷ d ∷ e ∷ []))

module _ {z l l' l'' : List ℕ} {n n' n'' : ℕ} where
  pub refused_made :
      (number : ℕ) →
      Grown z 0 word_refused l n →
      Grown l n (9 ∷ decimal number) l' n' →
      Grown l' n' (10 ∷ []) l'' n'' →
      take n'' l'' ≡ refused_line number
  unfolding refused_line
  refused_made number = made1

module _ {z l₁ l₂ l₃ l₄ l₅ : List ℕ} {n₁ n₂ n₃ n₄ n₅ : ℕ} where
  pub table_made :
      (width height updates : ℕ) →
      Grown z 0 word_table l₁ n₁ →
      Grown l₁ n₁ (9 ∷ decimal width) l₂ n₂ →
      Grown l₂ n₂ (9 ∷ decimal height) l₃ n₃ →
      Grown l₃ n₃ (9 ∷ decimal updates) l₄ n₄ →
      Grown l₄ n₄ (10 ∷ []) l₅ n₅ →
      take n₅ l₅ ≡ table_line width height updates
  unfolding table_line
  table_made width height updates = made3

module _ {z l₁ l₂ l₃ l₄ l₅ l₆ : List ℕ} {n₁ n₂ n₃ n₄ n₅ n₆ : ℕ} where
  pub region_made :
      (l t r b : ℕ) →
      Grown z 0 word_region l₁ n₁ →
      Grown l₁ n₁ (9 ∷ hex 16 l) l₂ n₂ →
      Grown l₂ n₂ (9 ∷ hex 16 t) l₃ n₃ →
      Grown l₃ n₃ (9 ∷ hex 16 r) l₄ n₄ →
      Grown l₄ n₄ (9 ∷ hex 16 b) l₅ n₅ →
      Grown l₅ n₅ (10 ∷ []) l₆ n₆ →
      take n₆ l₆ ≡ region_text l t r b
  unfolding region_text
  region_made l t r b = made4

  pub cell_made :
      (u v a b : ℕ) →
      Grown z 0 word_cell l₁ n₁ →
      Grown l₁ n₁ (9 ∷ decimal u) l₂ n₂ →
      Grown l₂ n₂ (9 ∷ decimal v) l₃ n₃ →
      Grown l₃ n₃ (9 ∷ hex 8 a) l₄ n₄ →
      Grown l₄ n₄ (9 ∷ hex 8 b) l₅ n₅ →
      Grown l₅ n₅ (10 ∷ []) l₆ n₆ →
      take n₆ l₆ ≡ cell_text u v a b
  unfolding cell_text
  cell_made u v a b = made4

module _ {z l l' l'' : List ℕ} {n n' n'' : ℕ} where
  pub count_made :
      (m : ℕ) →
      Grown z 0 word_count l n →
      Grown l n (9 ∷ decimal m) l' n' →
      Grown l' n' (10 ∷ []) l'' n'' →
      take n'' l'' ≡ count_line m
  unfolding count_line
  count_made m = made1

regroup : (a b c d e f g : List ℕ) → (((((a ++ b) ++ c) ++ d) ++ e) ++ f) ++ g ≡ a ++ (b ++ (c ++ (d ++ (e ++ (f ++ g)))))
regroup a b c d e f g = simp append_assoc

module _ {z l₁ l₂ l₃ l₄ l₅ l₆ l₇ : List ℕ} {n₁ n₂ n₃ n₄ n₅ n₆ n₇ : ℕ} where
  pub difference_made :
      (u v a b c d : ℕ) →
      Grown z 0 (decimal u) l₁ n₁ →
      Grown l₁ n₁ (9 ∷ decimal v) l₂ n₂ →
      Grown l₂ n₂ (9 ∷ hex 8 a) l₃ n₃ →
      Grown l₃ n₃ (9 ∷ hex 8 b) l₄ n₄ →
      Grown l₄ n₄ (9 ∷ hex 8 c) l₅ n₅ →
      Grown l₅ n₅ (9 ∷ hex 8 d) l₆ n₆ →
      Grown l₆ n₆ (10 ∷ []) l₇ n₇ →
      take n₇ l₇ ≡ difference_line u v a b c d
  unfolding difference_line line
  difference_made u v a b c d g h i j k m o =
      on (on (on (on (on (on g.front h) i) j) k) m) o
      ∙ regroup (decimal u) (9 ∷ decimal v) (9 ∷ hex 8 a) (9 ∷ hex 8 b) (9 ∷ hex 8 c) (9 ∷ hex 8 d) (10 ∷ [])

-- ---- a line written at the start of a line of 96 bytes, and compared with a text

pub grown_as : {l l' s t : List ℕ} {n n' : ℕ} → s ≡ t → Grown l n s l' n' → Grown l n t l' n'
grown_as {l} {l'} {s} {t} {n} {n'} e g = subst (λ (x : List ℕ). Grown l n x l' n') e g

-- eight digits and a tab are nine bytes
pub nine : {l l' : List ℕ} {at r : ℕ} (n : ℕ) → Grown l at (9 ∷ hex 8 n) l' r → r ≤ at + 9
nine n g = omega (arith, g.next, hex_length 8 n)

-- the line that was written ends in the buffer, and is the text
pub record Whole (after text : List ℕ) (n : ℕ) : Type 0 where
  pub end : n ≤ 96
  pub is : take n after ≡ text

written_whole : (out after text : List ℕ) (n : ℕ) → length out ≡ 96 → length text ≤ 96 → written after n ≡ placed (written out 0) text → Whole after text n
written_whole out after text n long short e =
    let room : 0 + length text ≤ length out = omega arith in
    let p : written after n ≡ with_text (written out 0) text = e ∙ is_placed out 0 text room in
    let m : n ≡ 0 + length text = ap (λ (w : Written). w.at) p in
    let whole : take n after ≡ text = ap₂ take m (ap (λ (w : Written). w.out) p) ∙ front_is out 0 text room in
    record { end = omega arith; is = whole }

module _ (out after : List ℕ) (n : ℕ) where
  pub table_whole :
      (w h k : ℕ) →
      written after n ≡ placed (written out 0) (table_line w h k) →
      length out ≡ 96 → w < 2 ^ 32 → h < 2 ^ 32 → k < 2 ^ 32 →
      Whole after (table_line w h k) n
  table_whole w h k e long hw hh hk =
      written_whole out after (table_line w h k) n long
      (omega (arith, table_length w h k, decimal_short w 9 (omega arith), decimal_short h 9 (omega arith), decimal_short k 9 (omega arith))) e

  pub region_whole :
      (l t r b : ℕ) → written after n ≡ placed (written out 0) (region_text l t r b) → length out ≡ 96 → Whole after (region_text l t r b) n
  region_whole l t r b e long = written_whole out after (region_text l t r b) n long (omega (arith, region_length l t r b)) e

  pub cell_whole :
      (u v a b : ℕ) →
      written after n ≡ placed (written out 0) (cell_text u v a b) →
      length out ≡ 96 → u < 2 ^ 32 → v < 2 ^ 32 →
      Whole after (cell_text u v a b) n
  cell_whole u v a b e long hu hv =
      written_whole out after (cell_text u v a b) n long
      (omega (arith, cell_length u v a b, decimal_short u 9 (omega arith), decimal_short v 9 (omega arith))) e

-- ---- no line is empty

pub table_some : (width height updates : ℕ) → 0 < length (table_line width height updates)
unfolding table_line line
table_some width height updates = omega arith

pub region_some : (r : Region) → 0 < length (region_line r)
unfolding region_text line
region_some r = omega arith

pub cell_some : (u v : ℕ) (a b : Float) → 0 < length (cell_line u v a b)
unfolding cell_text line
cell_some u v a b = omega arith
