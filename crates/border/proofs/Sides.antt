-- The border as a list: its length, and which pixel is the n-th. Assumes nothing.
use mathlib.Core.Path.{◌≡◌, refl, ap, ap₂, ◌∙◌}
use mathlib.Core.Bool.{Bool, true, false, cond}
use mathlib.Core.List.{List, ◌++◌}
use Prim.Native.Nat.{ℕ, zero, suc, ◌+◌, ◌-◌, ◌*◌, ◌/◌, ◌%◌, ◌≤◌, ◌<◌}
use native.Mathlib.Omega.{arith}
use lib.Dec.{eqb}
use lib.ListN.{length, get_or, length-append, get_or-append, get_or-eq_default}
use lib.Seq.{get_or-append-add}
use Rattle.lens.specs.declared.Pixel.{Pixel}
use Rattle.border.specs.Border.{before, outside, pixel, pairs, top_and_bottom, left_and_right, border, samples, border_at, across, along}

module _ (near far : ℕ → Pixel) where
  pairs_length : (i n : ℕ) → length (pairs near far i n) ≡ 2 * n
  unfolding pairs
  pairs_length i zero = refl
  pairs_length i (suc n) = omega (arith, pairs_length (suc i) n)

  abbrev side : ℕ → ℕ → Pixel
  side i n = cond (eqb (n % 2) 0) (near (i + n / 2)) (far (i + n / 2))

  pair_at : (i m n : ℕ) (d : Pixel) → n < 2 * m → get_or (pairs near far i m) n d ≡ side i n
  unfolding pairs
  pair_at i zero n d h = absurd (omega arith)
  pair_at i (suc m) zero d h = ap near (let e : i ≡ i + 0 / 2 = omega arith in e)
  pair_at i (suc m) (suc zero) d h = ap far (let e : i ≡ i + 1 / 2 = omega arith in e)
  pair_at i (suc m) (suc (suc n)) d h =
      let p : n % 2 ≡ suc (suc n) % 2 = omega arith in
      let q : suc i + n / 2 ≡ i + suc (suc n) / 2 = omega arith in
      pair_at (suc i) m n d (omega arith) ∙ ap (λ (r : ℕ). cond (eqb r 0) (near (suc i + n / 2)) (far (suc i + n / 2))) p ∙ ap (λ (k : ℕ). cond (eqb (suc (suc n) % 2) 0) (near k) (far k)) q

-- ---- a border with n of left and right from i on

module _ (width height i rest : ℕ) where
  abbrev top : ℕ → Pixel
  top k = pixel (before k) outside

  abbrev bottom : ℕ → Pixel
  bottom k = pixel (before k) (before height)

  abbrev left : ℕ → Pixel
  left k = pixel outside (before k)

  abbrev right : ℕ → Pixel
  right k = pixel (before width) (before k)

  abbrev around : List Pixel
  around = top_and_bottom width height ++ left_and_right width i rest

  pub around_length : length around ≡ 2 * width + 2 + 2 * rest
  around_length = simp (length-append, pairs_length) (omega arith)

  of_two : (b : Bool) (k m : ℕ) → k ≡ m → cond b (top k) (bottom k) ≡ pixel (before m) (cond b outside (before height))
  of_two true k m e = ap top e
  of_two false k m e = ap bottom e

  of_others : (b : Bool) (k : ℕ) → cond b (left k) (right k) ≡ pixel (cond b outside (before width)) (before k)
  of_others true k = refl
  of_others false k = refl

  -- The first 2w + 2 lie along the top and the bottom, in turn.
  pub around_first : (n : ℕ) → n < 2 * width + 2 → get_or around n (pixel outside outside) ≡ pixel (along n) (across n height)
  around_first n h =
      get_or-append (top_and_bottom width height) (left_and_right width i rest) (pixel outside outside) n (omega (arith, pairs_length top bottom 0 (suc width)))
      ∙ pair_at top bottom 0 (suc width) n (pixel outside outside) (omega arith)
      ∙ of_two (eqb (n % 2) 0) (0 + n / 2) (n / 2) (omega arith)

  -- The others along the left and the right.
  pub around_other : (n m : ℕ) → n ≡ 2 * width + 2 + m → m < 2 * rest → get_or around n (pixel outside outside) ≡ pixel (across m width) (before (i + m / 2))
  around_other n m e h =
      let f : n ≡ length (top_and_bottom width height) + m = omega (arith, pairs_length top bottom 0 (suc width)) in
      ap (λ (k : ℕ). get_or around k (pixel outside outside)) f
      ∙ get_or-append-add (top_and_bottom width height) (left_and_right width i rest) m (pixel outside outside)
      ∙ pair_at left right i rest m (pixel outside outside) h
      ∙ of_others (eqb (m % 2) 0) (i + m / 2)

-- ---- the border

module _ (width height : ℕ) where
  pub border_length : 0 < height → length (border width height) ≡ samples width height
  unfolding border
  border_length h = around_length width height 1 (height - 1) ∙ omega arith

  module _ (n : ℕ) where
    pub first_sides : n < 2 * width + 2 → border_at width height n ≡ pixel (along n) (across n height)
    unfolding border
    first_sides = around_first width height 1 (height - 1) n

    -- m is counted from the corner on that is left out
    pub other_sides : (m : ℕ) → n ≡ 2 * width + m → 2 ≤ m → m < 2 * height → border_at width height n ≡ pixel (across m width) (along m)
    unfolding border
    other_sides m e l h =
        let k = m - 2 in
        let p : k % 2 ≡ m % 2 = omega arith in
        let q : 1 + k / 2 ≡ m / 2 = omega arith in
        around_other width height 1 (height - 1) n k (omega arith) (omega arith)
        ∙ ap₂ (λ (r j : ℕ). pixel (cond (eqb r 0) outside (before width)) (before j)) p q

    -- Behind them there are no more.
    pub no_side : 2 * width + 2 ≤ n → samples width height ≤ n → border_at width height n ≡ pixel outside outside
    unfolding border
    no_side l h = get_or-eq_default (border width height) (pixel outside outside) (omega (arith, around_length width height 1 (height - 1)))
