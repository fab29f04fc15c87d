-- A cell of any kind is made from its point (`by_point`), and from the pixel that the cell holds as it is (`made`). Assumes nothing.
use mathlib.Core.Path.{◌≡◌, refl, ◌∙◌}
use Rattle.std.specs.declared.result.Result.TheVariants.{Ok, Err}
use mathlib.Core.Bool.{Bool, true, false, cond, ◌&&◌}
use Prim.Native.Nat.{ℕ}
use lib.Ieee.Scale.{finite}
use Rattle.lens.specs.Distorted.{finite_pixel}
use Rattle.lens.specs.Distorted.{Distorted}
use Rattle.lens.specs.declared.Pixel.{Pixel}
use Rattle.lens.specs.declared.Point.{Point}
use Rattle.region.specs.declared.Increments.{Increments}
use Rattle.region.specs.declared.Region.{Region}
use Rattle.plans.specs.Plan.{Content, none}
use Rattle.cell.specs.Cell.{cell_point, unrounded, of_pixel, of_cell, cell_by}

module _ {X : Type 0} (kind : Pixel → Content X) where
  -- by a point that was worked out and judged, and what is made of its pixel
  pub by_point :
      (pixel_at : Point → Pixel) (region : Region) (by : Increments) (u v : ℕ) {point : Point} {judged : Bool} {content : Content X}
      → point ≡ cell_point region by u v → judged ≡ (finite point.0 && finite point.1)
      → content ≡ cond judged (of_pixel kind (finite_pixel (pixel_at point))) (none 11)
      → content ≡ cell_by (λ (p : Point). finite_pixel (pixel_at p)) kind region by u v
  unfolding cell_by
  by_point pixel_at region by u v e f h = h ∙ rw (f, e) refl

  of_one_pixel : (r : Distorted) → of_pixel kind r ≡ of_cell kind (of_pixel unrounded r)
  of_one_pixel (Ok pixel) = refl
  of_one_pixel (Err r) = refl

  module _ (distort : Point → Distorted) (region : Region) (by : Increments) (u v : ℕ) where
    pub made : cell_by distort kind region by u v ≡ of_cell kind (cell_by distort unrounded region by u v)
    unfolding cell_by
    made = go (finite point.0 && finite point.1)
      where
        point : Point
        point = cell_point region by u v

        go : (f : Bool) → cond f (of_pixel kind (distort point)) (none 11) ≡ of_cell kind (cond f (of_pixel unrounded (distort point)) (none 11))
        go true = of_one_pixel (distort point)
        go false = refl
