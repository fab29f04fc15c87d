-- The border of an image, half a pixel outside it, as a list of pixels in sweep order, and the number of units of a
-- table. Definitions only.
use Rattle.std.specs.Prelude.{cond, List, [], ◌∷◌, ◌++◌, ℕ, zero, suc, ◌+◌, ◌-◌, ◌*◌, ◌/◌, ◌%◌, eqb, Float, get_or}
use Rattle.exact.specs.F64.{f64, minus, ◌⊖◌}
use Rattle.lens.specs.declared.Pixel.{Pixel}
use Rattle.region.specs.Size.{float}

-- half a pixel before pixel n; before pixel 0 that is -0.5
abbrev pub before : ℕ → Float
before n = float n ⊖ f64 0x3fe0_0000_0000_0000

abbrev pub outside : Float
outside = minus (f64 0x3fe0_0000_0000_0000)

abbrev pub pixel : Float → Float → Pixel
pixel u v = record { 0 = u; 1 = v }

-- n pairs from i on: on the near side, and opposite on the far side
unfoldable pub pairs : (ℕ → Pixel) → (ℕ → Pixel) → ℕ → ℕ → List Pixel
pairs near far i zero = []
pairs near far i (suc n) = near i ∷ far i ∷ pairs near far (suc i) n

-- top and bottom for i = 0 .. width
abbrev pub top_and_bottom : ℕ → ℕ → List Pixel
top_and_bottom width height =
    pairs (λ i. pixel (before i) outside) (λ i. pixel (before i) (before height)) 0 (suc width)

-- left and right, n of each from i on
abbrev pub left_and_right : ℕ → ℕ → ℕ → List Pixel
left_and_right width i n = pairs (λ i. pixel outside (before i)) (λ i. pixel (before width) (before i)) i n

-- top and bottom from corner to corner, then left and right between the corners, for i = 1 .. height - 1
unfoldable pub border : ℕ → ℕ → List Pixel
border width height = top_and_bottom width height ++ left_and_right width 1 (height - 1)

-- B and T
abbrev pub samples : ℕ → ℕ → ℕ
samples width height = 2 * width + 2 * height

abbrev pub all_units : ℕ → ℕ → ℕ
all_units width height = samples width height + width * height

-- ---- the n-th pixel of the border

abbrev pub border_at : ℕ → ℕ → ℕ → Pixel
border_at width height n = get_or (border width height) n (pixel outside outside)

-- by its number, as the code finds it: where it lies across and along two opposite sides that are swept in turn
abbrev pub across : ℕ → ℕ → Float
across n far = cond (eqb (n % 2) 0) outside (before far)

abbrev pub along : ℕ → Float
along n = before (n / 2)

-- ---- the border that was swept before: left and right from corner to corner as well, so each corner twice

unfoldable pub border_twice : ℕ → ℕ → List Pixel
border_twice width height = top_and_bottom width height ++ left_and_right width 0 (suc height)

abbrev pub samples_twice : ℕ → ℕ → ℕ
samples_twice width height = 2 * width + 2 * height + 4
