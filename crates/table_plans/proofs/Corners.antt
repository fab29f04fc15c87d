-- Corners once: the border that leaves out the second visit of each corner makes the same table. Assumes nothing.
use mathlib.Core.Path.{◌≡◌, refl, sym, ap, ap₂, ◌∙◌, subst₂}
use mathlib.Core.Bool.{Bool, cond}
use Prim.Native.Nat.{ℕ, zero, suc, ◌+◌, ◌-◌, ◌*◌, ◌/◌, ◌%◌, ◌≤◌, ◌<◌}
use native.Mathlib.Omega.{arith}
use lib.Dec.{eqb}
use lib.Ieee.{Float, round, add, sub, neg, sum, of_int, of_bits}
use Rattle.lens.specs.declared.Pixel.{Pixel}
use Rattle.region.specs.Size.{float, Sized}
use Rattle.border.specs.Border.{before, outside, pixel, border_twice, samples_twice, samples, border_at, across, along}
use Rattle.border.proofs.Sides.{around_first, around_other, first_sides, other_sides}
use Rattle.camera.specs.declared.Camera.{Camera}
use Rattle.plans.specs.Thinned.{Thinned, start, same, again, SameTable}
use Rattle.plans.proofs.Thinned.{same_table}
use Rattle.table_plans.specs.Tables.{Engine, corners_once, corners_twice, sweep_by, table_by, Kind}
use Rattle.table_plans.proofs.Sound.{Sure, Fit, table_sound}

-- half a pixel before pixel 0 is outside
before_zero : before 0 ≡ outside
unfolding float of_int sub add neg sum round of_bits
before_zero = refl

module _ (width height : ℕ) (high : 0 < height) where
  abbrev old : ℕ → Pixel
  old = (corners_twice width height).pixel_at

  abbrev new : ℕ → Pixel
  new = border_at width height

  -- the top and the bottom have so many
  abbrev ahead : ℕ
  ahead = 2 * width + 2

  old_first : (n : ℕ) → n < ahead → old n ≡ pixel (along n) (across n height)
  unfolding border_twice
  old_first = around_first width height 0 (suc height)

  old_other : (n m : ℕ) → n ≡ ahead + m → m < 2 * suc height → old n ≡ pixel (across m width) (along m)
  unfolding border_twice
  old_other n m e h =
      let z : 0 + m / 2 ≡ m / 2 = omega arith in
      around_other width height 0 (suc height) n m e h ∙ ap (λ (k : ℕ). pixel (across m width) (before k)) z

  -- ---- what both have: the top and the bottom, and between the corners the left and the right

  head_same : (n : ℕ) → n < ahead → old n ≡ new n
  head_same n h = old_first n h ∙ sym (first_sides width height n h)

  between : (m : ℕ) → m < 2 * (height - 1) → old (ahead + (m + 2)) ≡ new (ahead + m)
  between m h =
      old_other (ahead + (m + 2)) (m + 2) refl (omega arith)
      ∙ sym (other_sides width height (ahead + m) (m + 2) (omega arith) (omega arith) (omega arith))

  -- ---- each corner of the left and the right came before

  side : (n far r : ℕ) → n % 2 ≡ r → across n far ≡ cond (eqb r 0) outside (before far)
  side n far r h = ap (λ (r : ℕ). cond (eqb r 0) outside (before far)) h

  top_at : (n k : ℕ) → n ≡ 2 * k → k ≤ width → old n ≡ pixel (before k) outside
  top_at n k e h =
      let f : n / 2 ≡ k = omega arith in
      old_first n (omega arith) ∙ ap₂ pixel (ap before f) (side n height 0 (omega arith))

  bottom_at : (n k : ℕ) → n ≡ 2 * k + 1 → k ≤ width → old n ≡ pixel (before k) (before height)
  bottom_at n k e h =
      let f : n / 2 ≡ k = omega arith in
      old_first n (omega arith) ∙ ap₂ pixel (ap before f) (side n height 1 (omega arith))

  left_at : (n k : ℕ) → n ≡ ahead + 2 * k → k ≤ height → old n ≡ pixel outside (before k)
  left_at n k e h =
      let f : 2 * k / 2 ≡ k = omega arith in
      old_other n (2 * k) e (omega arith) ∙ ap₂ pixel (side (2 * k) width 0 (omega arith)) (ap before f)

  right_at : (n k : ℕ) → n ≡ ahead + (2 * k + 1) → k ≤ height → old n ≡ pixel (before width) (before k)
  right_at n k e h =
      let f : (2 * k + 1) / 2 ≡ k = omega arith in
      old_other n (2 * k + 1) e (omega arith) ∙ ap₂ pixel (side (2 * k + 1) width 1 (omega arith)) (ap before f)

  left_top : old ahead ≡ old 0
  left_top = left_at ahead 0 (omega arith) (omega arith) ∙ ap₂ pixel (sym before_zero) before_zero ∙ sym (top_at 0 0 (omega arith) (omega arith))

  right_top : old (suc ahead) ≡ old (2 * width)
  right_top = right_at (suc ahead) 0 (omega arith) (omega arith) ∙ ap (pixel (before width)) before_zero ∙ sym (top_at (2 * width) width refl (omega arith))

  left_bottom : (n : ℕ) → n ≡ ahead + 2 * height → old n ≡ old 1
  left_bottom n e = left_at n height e (omega arith) ∙ ap (λ (x : Float). pixel x (before height)) (sym before_zero) ∙ sym (bottom_at 1 0 (omega arith) (omega arith))

  right_bottom : (n : ℕ) → n ≡ ahead + (2 * height + 1) → old n ≡ old (2 * width + 1)
  right_bottom n e = right_at n height e (omega arith) ∙ sym (bottom_at (2 * width + 1) width refl (omega arith))

  -- ---- so the new one is the old, thinned

  moved : (n m k j : ℕ) → n ≡ k → m ≡ j → Thinned old new n m → Thinned old new k j
  moved n m k j e f t = subst₂ (λ (a b : ℕ). Thinned old new a b) e f t

  head_thin : (n : ℕ) → n ≤ ahead → Thinned old new n n
  head_thin zero h = start
  head_thin (suc n) h = same n n (head_thin n (omega arith)) (head_same n (omega arith))

  two_corners : Thinned old new (suc (suc ahead)) ahead
  two_corners = again (suc ahead) ahead (2 * width) (again ahead ahead 0 (head_thin ahead (omega arith)) (omega arith) left_top) (omega arith) right_top

  between_thin : (m : ℕ) → m ≤ 2 * (height - 1) → Thinned old new (ahead + (m + 2)) (ahead + m)
  between_thin zero h = moved (suc (suc ahead)) ahead (ahead + (0 + 2)) (ahead + 0) (omega arith) (omega arith) two_corners
  between_thin (suc m) h =
      moved (suc (ahead + (m + 2))) (suc (ahead + m)) (ahead + (suc m + 2)) (ahead + suc m) (omega arith) (omega arith)
      (same (ahead + (m + 2)) (ahead + m) (between_thin m (omega arith)) (between m (omega arith)))

  thinned : Thinned old new (samples_twice width height) (samples width height)
  thinned =
      let last = 2 * (height - 1) in
      let n = ahead + (last + 2) in
      let e : n ≡ ahead + 2 * height = omega (arith, high) in
      moved (suc (suc n)) (ahead + last) (samples_twice width height) (samples width height) (omega (arith, high)) (omega (arith, high))
      (again (suc n) (ahead + last) (2 * width + 1)
      (again n (ahead + last) 1 (between_thin last (omega arith)) (omega arith) (left_bottom n e))
      (omega (arith, e)) (right_bottom (suc n) (omega (arith, e))))

-- Whatever the engine, the kind of cell and the strict mark, each corner once makes the table that each corner twice makes.
pub once_as_twice :
    {X : Type 0} (camera : Camera) (engine : Engine) (width height : ℕ) (strict : Bool) (kind : Kind X)
    → Sure engine → Fit kind → Sized width height
    → SameTable (table_by (sweep_by camera engine (corners_twice width height) strict width height) engine kind.holds)
    (table_by (sweep_by camera engine (corners_once width height) strict width height) engine kind.holds)
once_as_twice camera engine width height strict kind s t size =
    same_table (table_by (sweep_by camera engine (corners_twice width height) strict width height) engine kind.holds)
    (table_sound camera width height engine (corners_twice width height) strict kind s t (λ size. omega arith))
    (samples width height) (border_at width height) (omega (arith, size.high)) (thinned width height (omega (arith, size.high)))
