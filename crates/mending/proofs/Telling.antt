-- What is told of the cells one by one, and the lines put one after the other. Assumes nothing.
use mathlib.Core.Path.{◌≡◌, refl, sym, ap, ap₂, ◌∙◌}
use mathlib.Core.List.{List, [], ◌∷◌, ◌++◌}
use Rattle.std.proofs.Common.{Option, Some, None}
use Prim.Native.Nat.{ℕ, ◌+◌, ◌*◌, ◌/◌, ◌%◌, ◌≤◌, ◌<◌}
use native.Mathlib.Nat.{mod-lt, div-add-mod', zero-div, zero-mod}
use native.Mathlib.Omega.{arith}
use lib.Arith.{digits_div, digits_mod}
use lib.Ieee.{Float, binary32, to_bits, nan}
use lib.ListN.{length, get_or, drop, length-drop}
use Rattle.put_text.specs.Placed.{Written, placed, each_placed}
use Rattle.put_text.proofs.Whole.{each_more}
use Rattle.listing_lines.specs.declared.CellLine.{CellLine}
use Rattle.listing.specs.Listing.{across, down}
use Rattle.listing.proofs.Grid.{next}
use Rattle.listing.proofs.Each.{pair}
use Rattle.mending.specs.Mended.{each_cell}
use Rattle.mending.specs.Kept.{kept_from, kept}
use Rattle.mending.specs.Written.{told, bits_of}
use Rattle.mending.specs.declared.Kind.{Kind}

-- ---- cell k stands in column k mod width and row k div width

module _ (width : ℕ) (some : 0 < width) (k : ℕ) where
  ahead : down width (k % width) (k / width) * width + across width (k % width) ≡ k + 1
  ahead = (next width (k % width) (k / width) (mod-lt k some)).1 ∙ ap (λ (n : ℕ). n + 1) (div-add-mod' k width)

  next_column : (k + 1) % width ≡ across width (k % width)
  next_column =
      ap (λ (n : ℕ). n % width) (sym ahead)
      ∙ digits_mod (down width (k % width) (k / width)) (next width (k % width) (k / width) (mod-lt k some)).0

  next_row : (k + 1) / width ≡ down width (k % width) (k / width)
  next_row =
      ap (λ (n : ℕ). n / width) (sym ahead)
      ∙ digits_div (down width (k % width) (k / width)) (next width (k % width) (k / width) (mod-lt k some)).0

-- ---- what is left

module _ (tell : ℕ → ℕ → ℕ → ℕ → List (List ℕ)) (width : ℕ) where
  -- from cell k on
  abbrev from : ℕ → List Float → List (List ℕ)
  from k table = each_cell tell width (k % width) (k / width) (bits_of (drop (2 * k) table))

  none_left : (u v : ℕ) (rest : List Float) → length rest ≤ 1 → each_cell tell width u v (bits_of rest) ≡ []
  unfolding each_cell
  none_left u v [] h = refl
  none_left u v (a ∷ []) h = refl
  none_left u v (a ∷ b ∷ rest) h = absurd (omega arith)

  one_more :
      (table : List Float) (k : ℕ) →
      0 < width →
      2 * k + 1 < length table →
      from k table
      ≡ tell (k % width) (k / width) (to_bits binary32 (get_or table (2 * k) nan)) (to_bits binary32 (get_or table (2 * k + 1) nan)) ++ from (k + 1) table
  unfolding each_cell
  one_more table k some h =
      let n : 2 * k + 2 ≡ 2 * (k + 1) = omega arith in
      let a = to_bits binary32 (get_or table (2 * k) nan) in
      let b = to_bits binary32 (get_or table (2 * k + 1) nan) in
      ap (λ (rest : List Float). each_cell tell width (k % width) (k / width) (bits_of rest)) (pair nan table (2 * k) h)
      ∙ ap (λ (m : ℕ). tell (k % width) (k / width) a b ++ each_cell tell width (across width (k % width)) (down width (k % width) (k / width)) (bits_of (drop m table))) n
      ∙ ap₂ (λ (u v : ℕ). tell (k % width) (k / width) a b ++ each_cell tell width u v (bits_of (drop (2 * (k + 1)) table)))
      (sym (next_column width some k))
      (sym (next_row width some k))

-- ---- the loop

abbrev by_map : Kind → List ℕ → ℕ → ℕ → ℕ → ℕ → ℕ → List (List ℕ)
by_map kind map width u v = told kind (kept map width u v) u v

-- what is put of the cells that are left is what is put of all
pub record Passed (w₀ : Written) (kind : Kind) (width : ℕ) (table : List Float) (map : List ℕ) (w : Written) (k : ℕ) : Type 0 where
  pub within : 2 * k ≤ length table + 1
  pub long : length w.out ≡ length w₀.out
  pub rest :
      each_placed w (from (by_map kind map width) width k table)
      ≡ each_placed w₀ (each_cell (by_map kind map width) width 0 0 (bits_of table))

module _ (w₀ : Written) (kind : Kind) (width : ℕ) (table : List Float) (map : List ℕ) where
  pub none_passed : Passed w₀ kind width table map w₀ 0
  none_passed = record {
    within = omega arith;
    long = refl;
    rest = ap₂ (λ (u v : ℕ). each_placed w₀ (each_cell (by_map kind map width) width u v (bits_of table))) (zero-mod width) (zero-div width);
  }

  module _ (w : Written) (k : ℕ) (p : Passed w₀ kind width table map w k) where
    pub one_passed :
        0 < width →
        2 * k + 1 < length table →
        (w' : Written) (a b : ℕ) →
        w' ≡ each_placed w (told kind (kept_from map (3 * k) (k % width) (k / width)) (k % width) (k / width) a b) →
        a ≡ to_bits binary32 (get_or table (2 * k) nan) →
        b ≡ to_bits binary32 (get_or table (2 * k + 1) nan) →
        length w'.out ≡ length w.out →
        Passed w₀ kind width table map w' (k + 1)
    one_passed some h w' a b e ea eb same =
        let u = k % width in
        let v = k / width in
        let here : kept_from map (3 * k) u v ≡ kept map width u v = ap (λ (n : ℕ). kept_from map (3 * n) u v) (sym (div-add-mod' k width)) in
        let more = from (by_map kind map width) width (k + 1) table in
        let is : told kind (kept_from map (3 * k) u v) u v a b ≡ by_map kind map width u v (to_bits binary32 (get_or table (2 * k) nan)) (to_bits binary32 (get_or table (2 * k + 1) nan)) =
        ap (λ (o : Option CellLine). told kind o u v a b) here ∙ ap₂ (λ (x y : ℕ). by_map kind map width u v x y) ea eb in
        record {
          within = omega arith;
          long = same ∙ p.long;
          rest =
              ap (λ (x : Written). each_placed x more) (e ∙ ap (each_placed w) is)
              ∙ sym (each_more w (by_map kind map width u v (to_bits binary32 (get_or table (2 * k) nan)) (to_bits binary32 (get_or table (2 * k + 1) nan))) more)
              ∙ ap (each_placed w) (sym (one_more (by_map kind map width) width table k some h))
              ∙ p.rest;
        }

    pub all_passed : length table ≤ 2 * k + 1 → w ≡ each_placed w₀ (each_cell (by_map kind map width) width 0 0 (bits_of table))
    unfolding each_placed
    all_passed h =
        ap (each_placed w) (sym (none_left (by_map kind map width) width (k % width) (k / width) (drop (2 * k) table) (omega (arith, length-drop (2 * k) table))))
        ∙ p.rest

-- ---- the five parts

pub all_put :
    (w w₁ w₂ w₃ w₄ w₅ : Written) (header region : List ℕ) (cells filled differs : List (List ℕ)) →
    w₁ ≡ placed w header →
    w₂ ≡ placed w₁ region →
    w₃ ≡ each_placed w₂ cells →
    w₄ ≡ each_placed w₃ filled →
    w₅ ≡ each_placed w₄ differs →
    w₅ ≡ each_placed w (header ∷ region ∷ cells ++ (filled ++ differs))
unfolding each_placed
all_put w w₁ w₂ w₃ w₄ w₅ header region cells filled differs e₁ e₂ e₃ e₄ e₅ =
    let e : w₂ ≡ placed (placed w header) region = e₂ ∙ ap (λ (x : Written). placed x region) e₁ in
    e₅
    ∙ ap (λ (x : Written). each_placed x differs) e₄
    ∙ sym (each_more w₃ filled differs)
    ∙ ap (λ (x : Written). each_placed x (filled ++ differs)) e₃
    ∙ sym (each_more w₂ cells (filled ++ differs))
    ∙ ap (λ (x : Written). each_placed x (cells ++ (filled ++ differs))) e
