-- One cell of a table: its point, and what it holds, of any kind of cell. Definitions only.
use Rattle.std.specs.Prelude.{cond, ◌&&◌, ℕ, ℤ, Float, Option, Result, Ok, Err, Some, None}
use Rattle.std.specs.Float.Ieee.Scale.{finite}
use Rattle.exact.specs.F64.{◌⊕◌, ◌⊗◌}
use Rattle.exact.specs.Fraction.{over, ◌⊞◌, Within, exactly}
use Rattle.narrow.specs.Narrow.{narrowed}
use Rattle.thirty_seconds.specs.Multiple.{nearest_multiple}
use Rattle.thirty_seconds.specs.Nearest.{thirty_seconds}
use Rattle.lens.specs.Refusal.{number}
use Rattle.lens.specs.Distorted.{Distorted}
use Rattle.lens.specs.declared.Pixel.{Pixel}
use Rattle.lens.specs.declared.Point.{Point}
use Rattle.lens.specs.declared.Refusal.{Refusal}
use Rattle.region.specs.Size.{float}
use Rattle.region.specs.declared.Increments.{Increments}
use Rattle.region.specs.declared.Region.{Region}
use Rattle.plans.specs.Plan.{Content, numbers, none}

abbrev pub cell_point : Region → Increments → ℕ → ℕ → Point
cell_point region by u v = record { 0 = region.left ⊕ float u ⊗ by.0; 1 = region.top ⊕ float v ⊗ by.1 }

-- ---- kinds of cell: what a cell holds of its pixel

-- the pixel as it is: what the kinds of a table are made from
abbrev pub unrounded : Pixel → Content Float
unrounded pixel = numbers pixel.0 pixel.1

-- two f32s, each the nearest: 12 if one is infinite
abbrev pub f32 : Pixel → Content Float
f32 pixel =
    let a = narrowed pixel.0 in
    let b = narrowed pixel.1 in
    cond (finite a && finite b) (numbers a b) (none 12)

-- two multiples of 1/32 by their numbers, each the nearest: 19 if sixteen bits don't hold one
abbrev pub both_held : Option ℤ → Option ℤ → Content ℤ
both_held (Some a) (Some b) = numbers a b
both_held (Some a) None = none 19
both_held None b = none 19

abbrev pub i16 : Pixel → Content ℤ
i16 pixel = both_held (nearest_multiple pixel.0) (nearest_multiple pixel.1)

-- ---- a cell of any kind

abbrev pub of_pixel : {X : Type 0} → (Pixel → Content X) → Distorted → Content X
of_pixel kind (Err r) = none (number r)
of_pixel kind (Ok pixel) = kind pixel

-- 11 for a point that isn't finite, then the refusals of its pixel, then those of the kind
unfoldable pub cell_by :
    {X : Type 0} → (Point → Distorted) → (Pixel → Content X) → Region → Increments → ℕ → ℕ → Content X
cell_by distort kind region by u v =
    let point = cell_point region by u v in
    cond (finite point.0 && finite point.1) (of_pixel kind (distort point)) (none 11)

-- a cell of some kind, made from the one that holds its pixel as it is
abbrev pub of_cell : {X : Type 0} → (Pixel → Content X) → Content Float → Content X
of_cell kind (numbers a b) = kind (record { 0 = a; 1 = b })
of_cell kind (none n) = none n

-- a number of thirty-seconds and an f32 that are at most 1/64 and 2 ^ -14 apart
abbrev pub Together : ℤ → Float → Type 0
Together n a = Within (over 1 64 ⊞ over 1 16384) (thirty_seconds n) (exactly a)

-- what the code's answer says: two numbers, or a refusal's
abbrev pub told : {X : Type 0} → Result (X × X) Refusal → Content X
told (Ok (a, b)) = numbers a b
told (Err r) = none (number r)
