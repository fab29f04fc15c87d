-- What the lines give of a cell is the first line of it, wherever that stands. Assumes nothing.
use mathlib.Core.Path.{◌≡◌, refl, sym, ap, ap₂, ◌∙◌}
use mathlib.Core.Bool.{Bool, true, false, cond, ◌&&◌}
use mathlib.Core.List.{List, [], ◌∷◌, ◌++◌}
use Rattle.std.proofs.Common.{Option, Some, None}
use Rattle.std.proofs.lemmas.Option.{same_Some}
use Prim.Native.Nat.{ℕ, ◌<◌}
use native.Mathlib.Omega.{arith}
use borrow.Author.Tests.{eq-eqb, eqb-true}
use lib.Dec.{eqb}
use Rattle.decimal.proofs.Bytes.{both}
use Rattle.listing_lines.specs.declared.CellLine.{CellLine}
use Rattle.listing_lines.specs.Read.{single, text_of_cell, fair_cell, read_cell}
use Rattle.listing_lines.proofs.Reading.{both_true}
use Rattle.listing_lines.proofs.Laws.{cell_read, only_cell}
use Rattle.mending.specs.Mended.{or_later, given, First}

-- ---- some lines, and more behind them

abbrev or_else : Option CellLine → Option CellLine → Option CellLine
or_else (Some c) later = Some c
or_else None later = later

given_append :
    (texts more : List (List ℕ)) (u v : ℕ) → given (texts ++ more) u v ≡ or_else (given texts u v) (given more u v)
unfolding given
given_append [] more u v = refl
given_append (text ∷ texts) more u v =
    ap (or_later u v (read_cell text)) (given_append texts more u v) ∙ by_line (read_cell text)
  where
    by_test :
        (t : Bool) (c : CellLine) →
        cond t (Some c) (or_else (given texts u v) (given more u v))
        ≡ or_else (cond t (Some c) (given texts u v)) (given more u v)
    by_test true c = refl
    by_test false c = refl

    by_line :
        (o : Option CellLine) →
        or_later u v o (or_else (given texts u v) (given more u v)) ≡ or_else (or_later u v o (given texts u v)) (given more u v)
    by_line None = refl
    by_line (Some c) = by_test (eqb c.u u && eqb c.v v) c

module _ (before after : List (List ℕ)) (text : List ℕ) (u v : ℕ) where
  -- a line that gives nothing of a cell, behind whatever lines
  pub nothing_of_it : given (text ∷ []) u v ≡ None → given (before ++ text ∷ after) u v ≡ given (before ++ after) u v
  nothing_of_it e =
      given_append before (text ∷ after) u v
      ∙ ap (or_else (given before u v))
      (given_append (text ∷ []) after u v ∙ ap (λ (o : Option CellLine). or_else o (given after u v)) e)
      ∙ sym (given_append before after u v)

  -- and any line, behind one that has given the cell
  pub given_already : (c : CellLine) → given before u v ≡ Some c → given (before ++ text ∷ after) u v ≡ given (before ++ after) u v
  given_already c e =
      given_append before (text ∷ after) u v
      ∙ ap (λ (o : Option CellLine). or_else o (given (text ∷ after) u v)) e
      ∙ sym (given_append before after u v ∙ ap (λ (o : Option CellLine). or_else o (given after u v)) e)

-- ---- one line

-- that is no cell's
pub bad_alone : (text : List ℕ) (u v : ℕ) → read_cell text ≡ None → given (text ∷ []) u v ≡ None
unfolding given
bad_alone text u v e = ap (λ (o : Option CellLine). or_later u v o None) e

-- that is another cell's
pub other_alone :
    (text : List ℕ) (u v : ℕ) (c : CellLine) →
    read_cell text ≡ Some c →
    (eqb c.u u && eqb c.v v) ≡ false →
    given (text ∷ []) u v ≡ None
unfolding given
other_alone text u v c e f = ap (λ (o : Option CellLine). or_later u v o None) e ∙ ap (λ (t : Bool). cond t (Some c) None) f

pub outside_alone :
    (text : List ℕ) (u v : ℕ) (c : CellLine) →
    read_cell text ≡ Some c →
    (w h : ℕ) →
    u < w →
    v < h →
    (c.u < w → c.v < h → ⊥) →
    given (text ∷ []) u v ≡ None
outside_alone text u v c e w h i j o = other_alone text u v c e (by_test (eqb c.u u && eqb c.v v) refl)
  where
    by_test : (t : Bool) → (eqb c.u u && eqb c.v v) ≡ t → t ≡ false
    by_test false x = refl
    by_test true x =
        let p = both_true (eqb c.u u) (eqb c.v v) x in
        let q : c.u ≡ u = eqb-true c.u u p.0 in
        let r : c.v ≡ v = eqb-true c.v v p.1 in
        absurd (o (omega arith) (omega arith))

-- that is a cell's which was given before
pub given_later :
    (before after : List (List ℕ)) (text : List ℕ) (u v : ℕ) (c : CellLine) →
    read_cell text ≡ Some c →
    (d : CellLine) →
    given before c.u c.v ≡ Some d →
    given (before ++ text ∷ after) u v ≡ given (before ++ after) u v
given_later before after text u v c e d g = by_test (eqb c.u u && eqb c.v v) refl
  where
    by_test : (t : Bool) → (eqb c.u u && eqb c.v v) ≡ t → given (before ++ text ∷ after) u v ≡ given (before ++ after) u v
    by_test false x = nothing_of_it before after text u v (other_alone text u v c e x)
    by_test true x =
        let p = both_true (eqb c.u u) (eqb c.v v) x in
        given_already before after text u v d
        (ap₂ (given before) (sym (eqb-true c.u u p.0)) (sym (eqb-true c.v v p.1)) ∙ g)

-- that is its own
pub given_here :
    (after : List (List ℕ)) (u v : ℕ) (c : CellLine) →
    fair_cell c ≡ true →
    c.u ≡ u →
    c.v ≡ v →
    given (text_of_cell c ∷ after) u v ≡ Some c
unfolding given
given_here after u v c f p q =
    ap (λ (o : Option CellLine). or_later u v o (given after u v)) (cell_read c f)
    ∙ ap (λ (t : Bool). cond t (Some c) (given after u v)) (both (eq-eqb c.u u p) (eq-eqb c.v v q))

-- ---- the first line of a cell

pub first_given : (texts : List (List ℕ)) (u v : ℕ) (c : CellLine) → First texts u v c → given texts u v ≡ Some c
first_given texts u v c f =
    ap (λ (t : List (List ℕ)). given t u v) f.is
    ∙ given_append f.before (text_of_cell c ∷ f.after) u v
    ∙ ap (λ (o : Option CellLine). or_else o (given (text_of_cell c ∷ f.after) u v)) f.none_before
    ∙ given_here f.after u v c f.fair f.column f.row

pub given_first : (texts : List (List ℕ)) (u v : ℕ) (c : CellLine) → given texts u v ≡ Some c → First texts u v c
unfolding given
given_first [] u v c e = cc
given_first (text ∷ texts) u v c e = by_line (read_cell text) refl e (λ d. given_first texts u v c d)
  where
    -- a line in front that gives nothing of the cell
    further : or_later u v (read_cell text) None ≡ None → First texts u v c → First (text ∷ texts) u v c
    further n f = record {
      before = text ∷ f.before;
      after = f.after;
      is = ap (λ (t : List (List ℕ)). text ∷ t) f.is;
      none_before = ap (or_later u v (read_cell text)) f.none_before ∙ n;
      column = f.column;
      row = f.row;
      fair = f.fair;
    }

    by_test :
        (d : CellLine) →
        read_cell text ≡ Some d →
        (t : Bool) →
        (eqb d.u u && eqb d.v v) ≡ t →
        cond t (Some d) (given texts u v) ≡ Some c →
        (given texts u v ≡ Some c → First texts u v c) →
        First (text ∷ texts) u v c
    by_test d r true x g more =
        let p = both_true (eqb d.u u) (eqb d.v v) x in
        let same : d ≡ c = same_Some d c g in
        let o = only_cell text c (r ∙ ap Some same) in
        record {
          before = [];
          after = texts;
          is = ap (λ (s : List ℕ). s ∷ texts) o.0;
          none_before = refl;
          column = ap (λ (x : CellLine). x.u) (sym same) ∙ eqb-true d.u u p.0;
          row = ap (λ (x : CellLine). x.v) (sym same) ∙ eqb-true d.v v p.1;
          fair = o.1;
        }
    by_test d r false x g more =
        further
        (ap (λ (o : Option CellLine). or_later u v o None) r ∙ ap (λ (t : Bool). cond t (Some d) None) x)
        (more g)

    by_line :
        (o : Option CellLine) →
        read_cell text ≡ o →
        or_later u v o (given texts u v) ≡ Some c →
        (given texts u v ≡ Some c → First texts u v c) →
        First (text ∷ texts) u v c
    by_line None r g more = further (ap (λ (o : Option CellLine). or_later u v o None) r) (more g)
    by_line (Some d) r g more = by_test d r (eqb d.u u && eqb d.v v) refl g more

-- ---- a cell's patterns, as they are given or else fresh

abbrev pub a_of : Option CellLine → ℕ → ℕ
a_of (Some c) a = c.a
a_of None a = a

abbrev pub b_of : Option CellLine → ℕ → ℕ
b_of (Some c) b = c.b
b_of None b = b

module _ (texts : List (List ℕ)) (u v : ℕ) where
  singles : (c : CellLine) → given texts u v ≡ Some c → (single c.a ≡ true) × (single c.b ≡ true)
  singles c e =
      both_true (single c.a) (single c.b)
      (both_true (single c.u && single c.v) _ (given_first texts u v c e).fair).1

  pub a_single : (a : ℕ) → single a ≡ true → single (a_of (given texts u v) a) ≡ true
  a_single a f = by_given (given texts u v) refl
    where
      by_given : (o : Option CellLine) → given texts u v ≡ o → single (a_of o a) ≡ true
      by_given None e = f
      by_given (Some c) e = (singles c e).0

  pub b_single : (b : ℕ) → single b ≡ true → single (b_of (given texts u v) b) ≡ true
  b_single b f = by_given (given texts u v) refl
    where
      by_given : (o : Option CellLine) → given texts u v ≡ o → single (b_of o b) ≡ true
      by_given None e = f
      by_given (Some c) e = (singles c e).1
