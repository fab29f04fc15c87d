-- Only equal listings have nothing told of them: every other line begins with another byte than `count`. Assumes nothing.
use mathlib.Core.Path.{◌≡◌, refl, sym, ap, ap₂, ◌∙◌}
use mathlib.Core.Bool.{Bool, true, false, cond, ◌&&◌}
use mathlib.Core.List.{List, [], ◌∷◌, ◌++◌, append_assoc}
use Rattle.std.proofs.Common.{Option, Some, None}
use Prim.Native.Nat.{ℕ, ◌*◌, ◌-◌}
use native.Mathlib.Omega.{arith}
use borrow.Author.Tests.{eqb-true}
use lib.Dec.{eqb}
use lib.ListN.{length, get_or}
use Rattle.decimal.specs.Decimal.{decimal, digit}
use Rattle.decimal.specs.Text.{all, same}
use Rattle.decimal.proofs.Bytes.{and_left, same_true}
use Rattle.decimal.proofs.Digits.{digit_range, decimal_digits}
use Rattle.put_text.specs.Placed.{joined}
use Rattle.listing_lines.specs.Line.{hex, line, table_line, region_text, difference_line, count_line, refused_line}
use Rattle.listing_lines.specs.Read.{header_text, edges_text}
use Rattle.listing_lines.proofs.Reading.{both_true}
use Rattle.listing.specs.Listing.{across, down, cell_texts}
use Rattle.listing.specs.Read.{Listed, listed_lines, listed_text, read_listing}
use Rattle.listing.proofs.Fair.{Fair, is_fair}
use Rattle.listing.proofs.Laws.{only_listing}
use Rattle.compare.specs.Report.{both_lines, differing, one_size, report, report_or_refusal, compared}

-- ---- the first byte of what is printed

-- a text that begins so isn't the line of a count
abbrev Other : List ℕ → Type 0
Other text = get_or text 0 0 ≡ 99 → ⊥

begins : (text : List ℕ) → text ≡ count_line 0 → get_or text 0 0 ≡ 99
unfolding count_line line
begins text e = ap (λ (t : List ℕ). get_or t 0 0) e

digits_other : (s t : List ℕ) → all digit s ≡ true → Other (s ++ 9 ∷ t)
digits_other [] t e f = omega (arith, f)
digits_other (x ∷ s) t e f = omega (arith, f, (digit_range x (and_left (digit x) (all digit s) e)).1)

difference_other : (u v a b c d : ℕ) (rest : List ℕ) → Other (difference_line u v a b c d ++ rest)
unfolding difference_line line
difference_other u v a b c d rest e =
    let t = line (decimal v) (hex 8 a ∷ hex 8 b ∷ hex 8 c ∷ hex 8 d ∷ []) in
    digits_other (decimal u) (t ++ rest) (decimal_digits u)
    (ap (λ (s : List ℕ). get_or s 0 0) (sym (append_assoc (decimal u) (9 ∷ t) rest)) ∙ e)

-- ---- nothing told

none_told :
    (old new : List ℕ) (more : List (List ℕ)) →
    ((rest : List ℕ) → Other (old ++ rest)) →
    joined (both_lines old new ++ more) ≡ count_line 0 →
    (old ≡ new) × (joined more ≡ count_line 0)
unfolding joined
none_told old new more other e = by_same (same old new) refl e
  where
    by_same :
        (t : Bool) → same old new ≡ t → joined (cond t [] (old ∷ new ∷ []) ++ more) ≡ count_line 0 →
        (old ≡ new) × (joined more ≡ count_line 0)
    by_same true s g = (same_true old new s, g)
    by_same false s g = absurd (other (new ++ joined more) (begins _ g))

none_differs :
    (w u v n : ℕ) (old new : List ℕ) (more : List (List ℕ)) →
    length old ≡ 2 * n →
    length new ≡ length old →
    joined (differing w u v old new ++ more) ≡ count_line 0 →
    old ≡ new
unfolding differing joined
none_differs w u v n [] [] more p q e = refl
none_differs w u v n [] (c ∷ new) more p q e = absurd (omega arith)
none_differs w u v n (a ∷ []) new more p q e = absurd (omega arith)
none_differs w u v n (a ∷ b ∷ old) [] more p q e = absurd (omega arith)
none_differs w u v n (a ∷ b ∷ old) (c ∷ []) more p q e = absurd (omega arith)
none_differs w u v n (a ∷ b ∷ old) (c ∷ d ∷ new) more p q e =
    by_test (eqb a c && eqb b d) refl e
    (λ g. none_differs w (across w u) (down w u v) (n - 1) old new more (omega arith) (omega arith) g)
  where
    by_test :
        (t : Bool) →
        (eqb a c && eqb b d) ≡ t →
        joined
        (cond t (differing w (across w u) (down w u v) old new) (difference_line u v a b c d ∷ differing w (across w u) (down w u v) old new) ++ more)
        ≡ count_line 0 →
        (joined (differing w (across w u) (down w u v) old new ++ more) ≡ count_line 0 → old ≡ new) →
        a ∷ b ∷ old ≡ c ∷ d ∷ new
    by_test true s g same_rest =
        let x = both_true (eqb a c) (eqb b d) s in
        ap₂ (λ (y : ℕ) (t : List ℕ). y ∷ t) (eqb-true a c x.0)
        (ap₂ (λ (y : ℕ) (t : List ℕ). y ∷ t) (eqb-true b d x.1) (same_rest g))
    by_test false s g same_rest = absurd (difference_other u v a b c d _ (begins _ g))

-- ---- two listings

table_other : (l : Listed) (rest : List ℕ) → Other (header_text l.header ++ rest)
unfolding table_line line
table_other l rest e = omega (arith, e)

region_other : (l : Listed) (rest : List ℕ) → Other (edges_text l.edges ++ rest)
unfolding region_text line
region_other l rest e = omega (arith, e)

refused_other : (n : ℕ) (rest : List ℕ) → Other (refused_line n ++ rest)
unfolding refused_line line
refused_other n rest e = omega (arith, e)

module _ (l m : Listed) (f : Fair l) (g : Fair m) (s : one_size l.header m.header ≡ true) where
  same_texts : joined (report l m) ≡ count_line 0 → listed_text l ≡ listed_text m
  unfolding report listed_text listed_lines
  same_texts e =
      let w = l.header.width in
      let h = l.header.height in
      let cells = differing w 0 0 l.cells m.cells in
      let size = both_true (eqb w m.header.width) _ s in
      let ew : w ≡ m.header.width = eqb-true w m.header.width size.0 in
      let eh : h ≡ m.header.height = eqb-true h m.header.height size.1 in
      let as_long : length m.cells ≡ length l.cells = g.count ∙ ap₂ (λ (x y : ℕ). 2 * (x * y)) (sym ew) (sym eh) ∙ sym f.count in
      let a = none_told (header_text l.header) (header_text m.header) _ (table_other l) e in
      let b = none_told (edges_text l.edges) (edges_text m.edges) _ (region_other l) a.1 in
      let c : l.cells ≡ m.cells = none_differs w 0 0 (w * h) l.cells m.cells (count_line (length cells) ∷ []) f.count as_long b.1 in
      ap joined
      (ap₂ (λ (x : List ℕ) (t : List (List ℕ)). x ∷ t) a.0
      (ap₂ (λ (x : List ℕ) (t : List (List ℕ)). x ∷ t) b.0
      (ap₂ (λ (x y : ℕ). cell_texts x y 0 0 l.cells) ew eh ∙ ap (cell_texts m.header.width m.header.height 0 0) c)))

-- ---- two texts

module _ (old new : List ℕ) where
  never : (n : ℕ) → joined (refused_line n ∷ []) ≡ count_line 0 → old ≡ new
  unfolding joined
  never n e = absurd (refused_other n [] (begins _ e))

  pub equal_texts : compared old new ≡ count_line 0 → old ≡ new
  unfolding compared
  equal_texts e = by_read (read_listing old) (read_listing new) refl refl e
    where
      by_size :
          (l m : Listed) → read_listing old ≡ Some l → read_listing new ≡ Some m →
          (t : Bool) → one_size l.header m.header ≡ t → joined (cond t (report l m) (refused_line 15 ∷ [])) ≡ count_line 0 → old ≡ new
      by_size l m p q true s g =
          let x = only_listing old l p in
          let y = only_listing new m q in
          x.0 ∙ same_texts l m (is_fair l x.1) (is_fair m y.1) s g ∙ sym y.0
      by_size l m p q false s g = never 15 g

      by_read :
          (o p : Option Listed) → read_listing old ≡ o → read_listing new ≡ p →
          joined (report_or_refusal o p) ≡ count_line 0 → old ≡ new
      by_read None p x y g = never 14 g
      by_read (Some l) None x y g = never 14 g
      by_read (Some l) (Some m) x y g = by_size l m x y (one_size l.header m.header) refl g

-- ---- a refusal is no listing

pub refused_unread : (n : ℕ) → read_listing (refused_line n) ≡ None
unfolding refused_line line listed_text listed_lines joined table_line
refused_unread n = by_read (read_listing (refused_line n)) refl
  where
    by_read : (o : Option Listed) → read_listing (refused_line n) ≡ o → o ≡ None
    by_read None e = refl
    by_read (Some l) e =
        let first : ◌≡◌ {A = ℕ} 114 116 = ap (λ (t : List ℕ). get_or t 0 0) (only_listing (refused_line n) l e).0 in
        absurd (omega arith)
