-- A map has of each cell what the lines gave of it. Assumes nothing.
use mathlib.Core.Path.{◌≡◌, refl, sym, ap, ap₂, ◌∙◌}
use mathlib.Core.Bool.{Bool, true, false, cond, ◌&&◌}
use mathlib.Core.List.{List, [], ◌∷◌}
use Rattle.std.proofs.Common.{Option, Some, None}
use Prim.Native.Nat.{ℕ, ◌+◌, ◌*◌, ◌/◌, ◌%◌, ◌≤◌, ◌<◌}
use native.Mathlib.Omega.{arith}
use borrow.Author.Tests.{lt-ltb, ltb-true, ltb-false, le-leb, eqb-true, eqb-false}
use lib.Arith.{digits_div, digits_mod}
use lib.Dec.{eqb, ltb}
use lib.ListN.{length, get_or, set, length-set, replicate, get_or-replicate, length-replicate, get_or-eq_default}
use lib.Seq.{get_or-set_same, get_or-set_other}
use Rattle.region.specs.Size.{sized}
use Rattle.listing_lines.specs.declared.CellLine.{CellLine}
use Rattle.listing_lines.specs.Read.{read_cell}
use Rattle.listing.proofs.Grid.{before_end}
use Rattle.mending.specs.Mended.{or_later, given}
use Rattle.mending.specs.Kept.{spot, kept_from, kept, free, keep_first, keep_cell, keep_read, keep, keep_all}
use Rattle.mending.specs.Written.{given_as}

-- what is there, or else what comes
abbrev pub or_else : Option CellLine → Option CellLine → Option CellLine
or_else (Some c) later = Some c
or_else None later = later

else_none : (o : Option CellLine) → or_else o None ≡ o
else_none None = refl
else_none (Some c) = refl

-- ---- as long as before

keep_first_long : (map : List ℕ) (k a b : ℕ) → length (keep_first map k a b) ≡ length map
unfolding keep_first
keep_first_long map k a b = go (free map k)
  where
    go : (t : Bool) → length (cond t (set (set (set map k 1) (k + 1) a) (k + 2) b) map) ≡ length map
    go true = simp length-set
    go false = refl

keep_cell_long : (map : List ℕ) (width height u v a b : ℕ) → length (keep_cell map width height u v a b) ≡ length map
unfolding keep_cell
keep_cell_long map width height u v a b = go (sized width height && (ltb u width && ltb v height))
  where
    go : (t : Bool) → length (cond t (keep_first map (spot width u v) a b) map) ≡ length map
    go true = keep_first_long map (spot width u v) a b
    go false = refl

pub keep_long : (width height : ℕ) (map text : List ℕ) → length (keep width height map text) ≡ length map
unfolding keep
keep_long width height map text = go (read_cell text)
  where
    go : (o : Option CellLine) → length (keep_read width height map o) ≡ length map
    go None = refl
    go (Some c) = keep_cell_long map width height c.u c.v c.a c.b

pub keep_all_long : (width height : ℕ) (map : List ℕ) (texts : List (List ℕ)) → length (keep_all width height map texts) ≡ length map
unfolding keep_all
keep_all_long width height map [] = refl
keep_all_long width height map (text ∷ texts) =
    keep_all_long width height (keep width height map text) texts ∙ keep_long width height map text

-- ---- one cell kept

module _ (map : List ℕ) (p a b u v : ℕ) where
  -- another one is as it was
  kept_other : (q : ℕ) → (q ≡ p → ⊥) → kept_from (keep_first map (3 * p) a b) (3 * q) u v ≡ kept_from map (3 * q) u v
  unfolding keep_first kept_from
  kept_other q ne = go (free map (3 * p))
    where
      three : List ℕ
      three = set (set (set map (3 * p) 1) (3 * p + 1) a) (3 * p + 2) b

      apart : (i : ℕ) → (i ≡ 3 * p → ⊥) → (i ≡ 3 * p + 1 → ⊥) → (i ≡ 3 * p + 2 → ⊥) → get_or three i 0 ≡ get_or map i 0
      apart i x y z =
          get_or-set_other (set (set map (3 * p) 1) (3 * p + 1) a) (3 * p + 2) i b 0 z
          ∙ get_or-set_other (set map (3 * p) 1) (3 * p + 1) i a 0 y
          ∙ get_or-set_other map (3 * p) i 1 0 x

      go : (t : Bool) → kept_from (cond t three map) (3 * q) u v ≡ kept_from map (3 * q) u v
      go true =
          simp (
            apart (3 * q) (λ e. omega (arith, ne, e)) (λ e. omega (arith, e)) (λ e. omega (arith, e)),
            apart (3 * q + 1) (λ e. omega (arith, e)) (λ e. omega (arith, ne, e)) (λ e. omega (arith, e)),
            apart (3 * q + 2) (λ e. omega (arith, e)) (λ e. omega (arith, e)) (λ e. omega (arith, ne, e)),
          )
      go false = refl

  -- it itself is kept if none was
  kept_first : 3 * p + 3 ≤ length map → kept_from (keep_first map (3 * p) a b) (3 * p) u v ≡ or_else (kept_from map (3 * p) u v) (given_as u v a b)
  unfolding keep_first kept_from
  kept_first h = simp (le-leb (3 * p + 3) (length map) h) (go (eqb (get_or map (3 * p) 0) 0) refl)
    where
      three : List ℕ
      three = set (set (set map (3 * p) 1) (3 * p + 1) a) (3 * p + 2) b

      mark : get_or three (3 * p) 0 ≡ 1
      mark =
          get_or-set_other (set (set map (3 * p) 1) (3 * p + 1) a) (3 * p + 2) (3 * p) b 0 (λ e. omega (arith, e))
          ∙ get_or-set_other (set map (3 * p) 1) (3 * p + 1) (3 * p) a 0 (λ e. omega (arith, e))
          ∙ get_or-set_same map (3 * p) 1 0 (omega arith)

      one : get_or three (3 * p + 1) 0 ≡ a
      one =
          get_or-set_other (set (set map (3 * p) 1) (3 * p + 1) a) (3 * p + 2) (3 * p + 1) b 0 (λ e. omega (arith, e))
          ∙ get_or-set_same (set map (3 * p) 1) (3 * p + 1) a 0 (omega (arith, length-set map (3 * p) 1))

      two : get_or three (3 * p + 2) 0 ≡ b
      two =
          get_or-set_same (set (set map (3 * p) 1) (3 * p + 1) a) (3 * p + 2) b 0
          (omega (arith, length-set (set map (3 * p) 1) (3 * p + 1) a, length-set map (3 * p) 1))

      go :
          (t : Bool) →
          eqb (get_or map (3 * p) 0) 0 ≡ t →
          kept_from (cond t three map) (3 * p) u v
          ≡ or_else (cond t None (given_as u v (get_or map (3 * p + 1) 0) (get_or map (3 * p + 2) 0))) (given_as u v a b)
      go true e = simp (mark, one, two)
      go false e = simp e

-- an empty map has 0 wherever it is asked
zero_at : (n k : ℕ) → get_or (replicate {A = ℕ} n 0) k 0 ≡ 0
zero_at n k = go (ltb k n) refl
  where
    go : (t : Bool) → ltb k n ≡ t → get_or (replicate {A = ℕ} n 0) k 0 ≡ 0
    go true e = get_or-replicate {A = ℕ} n k 0 0 (ltb-true k n e)
    go false e = get_or-eq_default (replicate {A = ℕ} n 0) 0 (omega (arith, ltb-false k n e, length-replicate {A = ℕ} n 0))

-- ---- one line kept

module _ (width height u v : ℕ) (s : sized width height ≡ true) (i : u < width) (j : v < height) where
  -- two cells of the table that have one place are one
  one_place : (x y : ℕ) → x < width → v * width + u ≡ y * width + x → (x ≡ u) × (y ≡ v)
  one_place x y h e = (
    sym (digits_mod y h) ∙ ap (λ (n : ℕ). n % width) (sym e) ∙ digits_mod v i,
    sym (digits_div y h) ∙ ap (λ (n : ℕ). n / width) (sym e) ∙ digits_div v i,
  )

  module _ (map : List ℕ) (long : 3 * (width * height) ≤ length map) where
    -- a line of another cell
    kept_apart : (x y a b : ℕ) → (x ≡ u → y ≡ v → ⊥) → kept (keep_cell map width height x y a b) width u v ≡ kept map width u v
    unfolding keep_cell
    kept_apart x y a b ne = simp s (go (ltb x width) (ltb y height) refl)
      where
        go : (p q : Bool) → ltb x width ≡ p → kept (cond (p && q) (keep_first map (spot width x y) a b) map) width u v ≡ kept map width u v
        go true true e =
            kept_other map (y * width + x) a b u v (v * width + u)
            (λ f. let o = one_place x y (ltb-true x width e) f in ne o.0 o.1)
        go true false e = refl
        go false q e = refl

    -- one of this
    kept_same : (a b : ℕ) → kept (keep_cell map width height u v a b) width u v ≡ or_else (kept map width u v) (given_as u v a b)
    unfolding keep_cell
    kept_same a b =
        simp (s, lt-ltb u width i, lt-ltb v height j)
        (kept_first map (v * width + u) a b u v (omega (arith, before_end width height u v i j)))

    kept_one : (c : CellLine) → kept (keep_cell map width height c.u c.v c.a c.b) width u v ≡ or_else (kept map width u v) (or_later u v (Some c) None)
    kept_one c = go (eqb c.u u) (eqb c.v v) refl refl
      where
        go :
            (r t : Bool) →
            eqb c.u u ≡ r →
            eqb c.v v ≡ t →
            kept (keep_cell map width height c.u c.v c.a c.b) width u v ≡ or_else (kept map width u v) (cond (r && t) (Some c) None)
        go true true e f =
            let x : c.u ≡ u = eqb-true c.u u e in
            let y : c.v ≡ v = eqb-true c.v v f in
            ap₂ (λ (n m : ℕ). kept (keep_cell map width height n m c.a c.b) width u v) x y
            ∙ kept_same c.a c.b
            ∙ ap₂ (λ (n m : ℕ). or_else (kept map width u v) (given_as n m c.a c.b)) (sym x) (sym y)
        go true false e f = kept_apart c.u c.v c.a c.b (λ x y. eqb-false c.v v f y) ∙ sym (else_none (kept map width u v))
        go false t e f = kept_apart c.u c.v c.a c.b (λ x y. eqb-false c.u u e x) ∙ sym (else_none (kept map width u v))

    kept_line : (text : List ℕ) → kept (keep width height map text) width u v ≡ or_else (kept map width u v) (or_later u v (read_cell text) None)
    unfolding keep
    kept_line text = go (read_cell text)
      where
        go : (o : Option CellLine) → kept (keep_read width height map o) width u v ≡ or_else (kept map width u v) (or_later u v o None)
        go None = sym (else_none (kept map width u v))
        go (Some c) = kept_one c

  -- ---- all lines kept

  later_else : (o p later : Option CellLine) → or_else (or_else o (or_later u v p None)) later ≡ or_else o (or_later u v p later)
  later_else (Some c) p later = refl
  later_else None None later = refl
  later_else None (Some c) later = go (eqb c.u u && eqb c.v v)
    where
      go : (t : Bool) → or_else (cond t (Some c) None) later ≡ cond t (Some c) later
      go true = refl
      go false = refl

  kept_after :
      (map : List ℕ) (texts : List (List ℕ)) →
      3 * (width * height) ≤ length map →
      kept (keep_all width height map texts) width u v ≡ or_else (kept map width u v) (given texts u v)
  unfolding keep_all given
  kept_after map [] long = sym (else_none (kept map width u v))
  kept_after map (text ∷ texts) long =
      kept_after (keep width height map text) texts (omega (arith, keep_long width height map text))
      ∙ ap (λ (o : Option CellLine). or_else o (given texts u v)) (kept_line map long text)
      ∙ later_else (kept map width u v) (read_cell text) (given texts u v)

  none_kept : (n : ℕ) → kept (replicate n 0) width u v ≡ None
  unfolding kept_from
  none_kept n = simp (zero_at n (spot width u v))

  -- from an empty map on
  pub kept_is_given : (n : ℕ) (texts : List (List ℕ)) → 3 * (width * height) ≤ n → kept (keep_all width height (replicate n 0) texts) width u v ≡ given texts u v
  kept_is_given n texts long =
      kept_after (replicate n 0) texts (omega (arith, length-replicate {A = ℕ} n 0))
      ∙ ap (λ (o : Option CellLine). or_else o (given texts u v)) (none_kept n)
