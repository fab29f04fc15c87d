-- What is told by the map of some lines is what is told by the lines. Assumes nothing.
use mathlib.Core.Path.{◌≡◌, refl, ap, ap₂, ◌∙◌}
use mathlib.Core.List.{List, [], ◌∷◌, ◌++◌}
use Rattle.std.proofs.Common.{Option, Some, None}
use Prim.Native.Nat.{ℕ, ◌+◌, ◌*◌, ◌≤◌, ◌<◌}
use native.Mathlib.Omega.{arith}
use lib.ListN.{length, replicate}
use Rattle.region.specs.Size.{Sized}
use Rattle.listing_lines.specs.declared.CellLine.{CellLine}
use Rattle.listing_lines.specs.Read.{header_text, edges_text}
use Rattle.listing.specs.Listing.{across, down}
use Rattle.listing.specs.Read.{Listed}
use Rattle.listing.proofs.Fair.{of_size}
use Rattle.listing.proofs.Grid.{next, in_a_row}
use Rattle.mending.specs.Mended.{given, each_cell, mended_listing, filled_lines, differs_lines, mended_report, mended_lines}
use Rattle.mending.specs.Kept.{kept, keep_all}
use Rattle.mending.specs.Written.{told, cells_told, lines_told}
use Rattle.mending.specs.declared.Kind.{Kind}
use Rattle.mending.specs.declared.Kind.TheVariants.{Line, Filled, Differs}
use Rattle.mending.proofs.Map.{kept_is_given}

-- ---- where the same is given of each cell of a table, the same is told

module _ (width height : ℕ) (one two : ℕ → ℕ → Option CellLine) (e : (u v : ℕ) → u < width → v < height → one u v ≡ two u v) where
  each_told :
      (kind : Kind) (u v : ℕ) (cells : List ℕ) →
      u < width →
      length cells + 2 * (v * width + u) ≤ 2 * (width * height) →
      each_cell (λ x y. told kind (one x y) x y) width u v cells ≡ each_cell (λ x y. told kind (two x y) x y) width u v cells
  unfolding each_cell
  each_told kind u v [] h l = refl
  each_told kind u v (a ∷ []) h l = refl
  each_told kind u v (a ∷ b ∷ cells) h l =
      let n = next width u v h in
      ap₂ (λ (s t : List (List ℕ)). s ++ t)
      (ap (λ (o : Option CellLine). told kind o u v a b) (e u v h (in_a_row width height u v (omega arith))))
      (each_told kind (across width u) (down width u v) cells n.0 (omega (arith, n.1)))

pub told_same :
    (one two : ℕ → ℕ → Option CellLine) (fresh : Listed) →
    ((u v : ℕ) → u < fresh.header.width → v < fresh.header.height → one u v ≡ two u v) →
    0 < fresh.header.width →
    length fresh.cells ≡ 2 * (fresh.header.width * fresh.header.height) →
    lines_told one fresh ≡ lines_told two fresh
unfolding lines_told
told_same one two fresh e some long =
    let w = fresh.header.width in
    let each : (kind : Kind) → cells_told kind one w fresh.cells ≡ cells_told kind two w fresh.cells =
    λ kind. each_told w fresh.header.height one two e kind 0 0 fresh.cells some (omega (arith, long)) in
    ap (λ (l : List (List ℕ)). header_text fresh.header ∷ edges_text fresh.edges ∷ l)
    (ap₂ (λ (s t : List (List ℕ)). s ++ t) (each Line) (ap₂ (λ (s t : List (List ℕ)). s ++ t) (each Filled) (each Differs)))

-- ---- the map of some lines

pub told_mended : (fresh : Listed) (texts : List (List ℕ)) → lines_told (given texts) fresh ≡ mended_lines fresh texts
unfolding lines_told mended_lines mended_listing mended_report filled_lines differs_lines
told_mended fresh texts = refl

pub map_mended :
    (fresh : Listed) (texts : List (List ℕ)) (n : ℕ) →
    Sized fresh.header.width fresh.header.height →
    length fresh.cells ≡ 2 * (fresh.header.width * fresh.header.height) →
    3 * (fresh.header.width * fresh.header.height) ≤ n →
    (let w = fresh.header.width in
    lines_told (kept (keep_all w fresh.header.height (replicate n 0) texts) w) fresh ≡ mended_lines fresh texts)
map_mended fresh texts n s count long =
    let h = fresh.header in
    told_same (kept (keep_all h.width h.height (replicate n 0) texts) h.width) (given texts) fresh
    (λ u v i j. kept_is_given h.width h.height u v (of_size h.width h.height s) i j n texts long)
    (omega (arith, s.wide))
    count
    ∙ told_mended fresh texts
