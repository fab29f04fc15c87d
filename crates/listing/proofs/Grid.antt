-- The cells' lines: where each stands, how many they are, and that they are read back. Assumes nothing.
use mathlib.Core.Path.{◌≡◌, refl, sym, ap, ap₂, ◌∙◌}
use mathlib.Core.Bool.{Bool, true, false, cond, ◌&&◌}
use mathlib.Core.List.{List, [], ◌∷◌}
use Prim.Native.Nat.{ℕ, zero, suc, ◌+◌, ◌*◌, ◌/◌, ◌%◌, ◌≤◌, ◌<◌}
use native.Mathlib.Nat.{suc-mul, mul_comm, mul-le-mul_right}
use native.Mathlib.Numerals.{add-one}
use native.Mathlib.Omega.{arith}
use borrow.Author.Tests.{lt-ltb, ltb-true, ltb-false, eqb-true, eqb-false}
use lib.Arith.{digits_div, digits_mod}
use lib.Dec.{eqb, ltb}
use lib.Ieee.{Float, nan}
use lib.ListN.{length, get_or}
use Rattle.listing_lines.specs.Line.{cell_line}
use Rattle.listing_lines.specs.declared.CellLine.{CellLine}
use Rattle.listing_lines.specs.Read.{single}
use Rattle.listing_lines.proofs.Reading.{both_true}
use Rattle.listing_lines.proofs.Back.{cell_back}
use Rattle.listing.specs.Listing.{across, down, cell_texts, cell_lines}
use Rattle.listing.specs.Read.{all_single, patterns}

-- ---- from place to place

-- the places are counted row by row
by_end :
    (width u v : ℕ) (t : Bool) →
    eqb (u + 1) width ≡ t →
    u < width →
    (cond t 0 (u + 1) < width) × (cond t (v + 1) v * width + cond t 0 (u + 1) ≡ v * width + u + 1)
by_end width u v true e h =
    let w : u + 1 ≡ width = eqb-true (u + 1) width e in
    let m : (v + 1) * width ≡ v * width + width = ap (λ (k : ℕ). k * width) (add-one v) ∙ suc-mul v width in
    (omega arith, omega (arith, m))
by_end width u v false e h = (omega (arith, eqb-false (u + 1) width e), omega arith)

pub next : (width u v : ℕ) → u < width → (across width u < width) × (down width u v * width + across width u ≡ v * width + u + 1)
unfolding across down
next width u v h = by_end width u v (eqb (u + 1) width) refl h

-- a place before the end is in a row before the last
pub in_a_row : (width height u v : ℕ) → v * width + u < width * height → v < height
in_a_row width height u v h = by_row (ltb v height) refl
  where
    by_row : (t : Bool) → ltb v height ≡ t → v < height
    by_row true e = ltb-true v height e
    by_row false e =
        let l : height ≤ v = ltb-false v height e in
        let m : height * width ≤ v * width = mul-le-mul_right width l in
        absurd (omega (arith, m, mul_comm width height))

-- a place in a row is before the end
pub before_end : (width height u v : ℕ) → u < width → v < height → v * width + u < width * height
before_end width height u v h k =
    let l : suc v ≤ height = omega arith in
    let m : suc v * width ≤ height * width = mul-le-mul_right width l in
    omega (arith, m, suc-mul v width, mul_comm width height)

-- ---- reading the cells back

pub patterns_back :
    (width height u v : ℕ) (rest : List ℕ) →
    u < width →
    length rest + 2 * (v * width + u) ≡ 2 * (width * height) →
    all_single rest ≡ true →
    patterns (cell_texts width height u v rest) ≡ rest
unfolding patterns cell_texts
patterns_back width height u v [] h e f = refl
patterns_back width height u v (a ∷ []) h e f = absurd (omega arith)
patterns_back width height u v (a ∷ b ∷ rest) h e f =
    let l : v < height = in_a_row width height u v (omega arith) in
    let n = next width u v h in
    let g : length rest + 2 * (down width u v * width + across width u) ≡ 2 * (width * height) = omega (arith, n.1) in
    let x = both_true (single a) (single b && all_single rest) f in
    let y = both_true (single b) (all_single rest) x.1 in
    let s : (single a && single b) ≡ true = ap₂ (λ (p q : Bool). p && q) x.0 y.0 in
    simp (lt-ltb v height l)
    (ap₂ (λ (c : CellLine) (l : List ℕ). c.a ∷ c.b ∷ l)
    (cell_back (record { u = u; v = v; a = a; b = b }) s)
    (patterns_back width height (across width u) (down width u v) rest n.0 g y.1))

-- ---- where a cell's line stands

pub count :
    (width height u v : ℕ) (rest : List ℕ) →
    u < width →
    length rest + 2 * (v * width + u) ≡ 2 * (width * height) →
    2 * length (cell_texts width height u v rest) ≡ length rest
unfolding cell_texts
count width height u v [] h e = refl
count width height u v (a ∷ []) h e = absurd (omega arith)
count width height u v (a ∷ b ∷ rest) h e =
    let l : v < height = in_a_row width height u v (omega arith) in
    let n = next width u v h in
    let g : length rest + 2 * (down width u v * width + across width u) ≡ 2 * (width * height) = omega (arith, n.1) in
    let more : 2 * length (cell_texts width height (across width u) (down width u v) rest) ≡ length rest =
    count width height (across width u) (down width u v) rest n.0 g in
    simp (lt-ltb v height l) (omega (arith, more))

-- line k from the cell at (x, y) on is that of the cell (u, v) that is k places further
pub line_at :
    (width height k x y u v : ℕ) (rest : List Float) →
    x < width →
    u < width →
    v < height →
    y * width + x + k ≡ v * width + u →
    2 * k + 1 < length rest →
    get_or (cell_lines width height x y rest) k [] ≡ cell_line u v (get_or rest (2 * k) nan) (get_or rest (2 * k + 1) nan)
unfolding cell_texts
line_at width height k x y u v [] h i j e s = absurd (omega arith)
line_at width height k x y u v (a ∷ []) h i j e s = absurd (omega arith)
line_at width height zero x y u v (a ∷ b ∷ rest) h i j e s =
    let f : y * width + x ≡ v * width + u = omega arith in
    let q : y ≡ v = sym (digits_div y h) ∙ ap (λ (n : ℕ). n / width) f ∙ digits_div v i in
    let r : x ≡ u = sym (digits_mod y h) ∙ ap (λ (n : ℕ). n % width) f ∙ digits_mod v i in
    let l : y < height = omega arith in
    simp (lt-ltb y height l) (ap₂ (λ (n m : ℕ). cell_line n m a b) r q)
line_at width height (suc k) x y u v (a ∷ b ∷ rest) h i j e s =
    let l : y < height = in_a_row width height x y (omega (arith, before_end width height u v i j)) in
    let n = next width x y h in
    let p : 2 * suc k ≡ suc (suc (2 * k)) = omega arith in
    let q : 2 * suc k + 1 ≡ suc (suc (2 * k + 1)) = omega arith in
    let more : get_or (cell_lines width height (across width x) (down width x y) rest) k [] ≡ cell_line u v (get_or rest (2 * k) nan) (get_or rest (2 * k + 1) nan) =
    line_at width height k (across width x) (down width x y) u v rest n.0 i j (omega (arith, n.1)) (omega arith) in
    simp (lt-ltb y height l)
    (more
    ∙ ap₂ (λ (m n : ℕ). cell_line u v (get_or (a ∷ b ∷ rest) m nan) (get_or (a ∷ b ∷ rest) n nan)) (sym p) (sym q))
