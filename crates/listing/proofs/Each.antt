-- What is told row by row, by the cells' numbers; and the patterns of a cell in a table. Assumes nothing.
use mathlib.Core.Path.{◌≡◌, refl, sym, ap, ap₂, ◌∙◌}
use mathlib.Core.Bool.{Bool, true, false}
use mathlib.Core.List.{List, [], ◌∷◌, ◌++◌}
use Prim.Native.Nat.{ℕ, zero, suc, ◌+◌, ◌*◌, ◌/◌, ◌%◌, ◌≤◌, ◌<◌}
use native.Mathlib.Omega.{arith}
use borrow.Author.Tests.{lt-ltb, eqb-true, eqb-false}
use lib.Arith.{digits_div, digits_mod}
use lib.Dec.{eqb}
use lib.ListN.{length, get_or, drop, drop_of_length-le}
use lib.Seq.{drop-cons}
use Rattle.listing_lines.specs.Line.{cell_text}
use Rattle.listing.specs.Listing.{across, down, cell_texts, each}
use Rattle.listing.proofs.Grid.{next, in_a_row}

-- ---- by number

-- `from k u v` is told from cell k on, which stands at (u, v): of that cell, and then from the next place on
module _ (w n : ℕ) (tell : ℕ → ℕ → ℕ → List (List ℕ)) (from : ℕ → ℕ → ℕ → List (List ℕ))
    (ends : (u v : ℕ) → from n u v ≡ [])
    (goes :
    (k u v : ℕ) → k < n → u < w → v * w + u ≡ k →
    from k u v ≡ tell k u v ++ from (suc k) (across w u) (down w u v)) where
  by_numbers : (m k u v : ℕ) → u < w → v * w + u ≡ k → k + m ≡ n → from k u v ≡ each (λ j. tell j (j % w) (j / w)) k m
  unfolding each
  by_numbers zero k u v l e f =
      let g : k ≡ n = omega arith in
      ap (λ (j : ℕ). from j u v) g ∙ ends u v
  by_numbers (suc m) k u v l e f =
      let q : k / w ≡ v = ap (λ (j : ℕ). j / w) (sym e) ∙ digits_div v l in
      let r : k % w ≡ u = ap (λ (j : ℕ). j % w) (sym e) ∙ digits_mod v l in
      let i = next w u v l in
      goes k u v (omega arith) l e
      ∙ ap₂ (λ (s t : List (List ℕ)). s ++ t) (ap₂ (tell k) (sym r) (sym q))
      (by_numbers m (suc k) (across w u) (down w u v) i.0 (omega (arith, i.1)) (omega arith))

  pub by_number : 0 < w → from 0 0 0 ≡ each (λ j. tell j (j % w) (j / w)) 0 n
  by_number l = by_numbers n 0 0 0 l (omega arith) (omega arith)

-- ---- a table's patterns from a cell on

pub pair : {A : Type 0} (d : A) (l : List A) (i : ℕ) → i + 1 < length l → drop i l ≡ get_or l i d ∷ get_or l (i + 1) d ∷ drop (i + 2) l
pair {A} d l i h =
    let j : suc i ≡ i + 1 = omega arith in
    let k : suc (i + 1) ≡ i + 2 = omega arith in
    drop-cons l i d (omega arith)
    ∙ ap (λ (n : ℕ). get_or l i d ∷ drop n l) j
    ∙ ap (λ (t : List A). get_or l i d ∷ t) (drop-cons l (i + 1) d h)
    ∙ ap (λ (n : ℕ). get_or l i d ∷ get_or l (i + 1) d ∷ drop n l) k

pub two : (l : List ℕ) (k : ℕ) → 2 * k + 1 < length l → drop (2 * k) l ≡ get_or l (2 * k) 0 ∷ get_or l (2 * k + 1) 0 ∷ drop (2 * suc k) l
two l k h =
    let e : 2 * k + 2 ≡ 2 * suc k = omega arith in
    pair 0 l (2 * k) h ∙ ap (λ (n : ℕ). get_or l (2 * k) 0 ∷ get_or l (2 * k + 1) 0 ∷ drop n l) e

pub no_more : (l : List ℕ) (n : ℕ) → length l ≡ 2 * n → drop (2 * n) l ≡ []
no_more l n e = drop_of_length-le l {i = 2 * n} (omega arith)

-- ---- the cells' lines

module _ (w h : ℕ) (cells : List ℕ) (long : length cells ≡ 2 * (w * h)) where
  abbrev line_of : ℕ → ℕ → ℕ → List (List ℕ)
  line_of k u v = cell_text u v (get_or cells (2 * k) 0) (get_or cells (2 * k + 1) 0) ∷ []

  pub cells_by_number : 0 < w → cell_texts w h 0 0 cells ≡ each (λ k. cell_text (k % w) (k / w) (get_or cells (2 * k) 0) (get_or cells (2 * k + 1) 0) ∷ []) 0 (w * h)
  unfolding cell_texts
  cells_by_number l = by_number w (w * h) line_of (λ k u v. cell_texts w h u v (drop (2 * k) cells)) ends goes l
    where
      ends : (u v : ℕ) → cell_texts w h u v (drop (2 * (w * h)) cells) ≡ []
      ends u v = ap (cell_texts w h u v) (no_more cells (w * h) long)

      goes :
          (k u v : ℕ) → k < w * h → u < w → v * w + u ≡ k →
          cell_texts w h u v (drop (2 * k) cells) ≡ line_of k u v ++ cell_texts w h (across w u) (down w u v) (drop (2 * suc k) cells)
      goes k u v i j e =
          let r : v < h = in_a_row w h u v (omega arith) in
          ap (cell_texts w h u v) (two cells k (omega arith)) ∙ simp (lt-ltb v h r)

-- ---- two that tell the same

pub each_same :
    (tell more : ℕ → List (List ℕ)) (k n : ℕ) →
    ((j : ℕ) → k ≤ j → j < k + n → tell j ≡ more j) →
    each tell k n ≡ each more k n
unfolding each
each_same tell more k zero e = refl
each_same tell more k (suc n) e =
    ap₂ (λ (s t : List (List ℕ)). s ++ t) (e k (omega arith) (omega arith))
    (each_same tell more (suc k) n (λ j l m. e j (omega arith) (omega arith)))

-- ---- one line of each

module _ (line : ℕ → List ℕ) where
  pub each_counted : (k n : ℕ) → length (each (λ j. line j ∷ []) k n) ≡ n
  unfolding each
  each_counted k zero = refl
  each_counted k (suc n) = ap suc (each_counted (suc k) n)

  pub each_at : (i k n : ℕ) → i < n → get_or (each (λ j. line j ∷ []) k n) i [] ≡ line (k + i)
  unfolding each
  each_at i k zero l = absurd (omega arith)
  each_at zero k (suc n) l = ap line (omega arith)
  each_at (suc i) k (suc n) l =
      let e : suc k + i ≡ k + suc i = omega arith in
      each_at i (suc k) n (omega arith) ∙ ap line e

-- ---- nothing told

none_of_two : (s t : List (List ℕ)) → s ++ t ≡ [] → (s ≡ []) × (t ≡ [])
none_of_two [] t e = (refl, e)
none_of_two (x ∷ s) t e = let n = ap length e in absurd (omega arith)

pub none_of_each : (tell : ℕ → List (List ℕ)) (k n : ℕ) → each tell k n ≡ [] → (j : ℕ) → k ≤ j → j < k + n → tell j ≡ []
unfolding each
none_of_each tell k zero e j p q = absurd (omega arith)
none_of_each tell k (suc n) e j p q = by_first (eqb k j) refl (none_of_two (tell k) (each tell (suc k) n) e) (λ d l. none_of_each tell (suc k) n d j l (omega arith))
  where
    by_first :
        (t : Bool) → eqb k j ≡ t →
        (tell k ≡ []) × (each tell (suc k) n ≡ []) →
        (each tell (suc k) n ≡ [] → suc k ≤ j → tell j ≡ []) →
        tell j ≡ []
    by_first true d x more = ap tell (sym (eqb-true k j d)) ∙ x.0
    by_first false d x more = more x.1 (omega (arith, eqb-false k j d))
