-- Answers that are one but for the signs of zeros: number by number, and the rest equal. Definitions only.
use Rattle.std.specs.Prelude.{◌≡◌}
use Rattle.exact.specs.Alike.{◌≐◌, AllAlike}
use Rattle.lens.specs.declared.Jacobian.{Jacobian}
use Rattle.lens.specs.declared.Pixel.{Pixel}
use Rattle.lens.specs.declared.Point.{Point}
use Rattle.lens.specs.declared.Settled.{Settled}

-- two points, and two pixels
pub record AlikePoints (p q : Point) : Type 0 where
  pub x : p.0 ≐ q.0
  pub y : p.1 ≐ q.1

pub record AlikePixels (p q : Pixel) : Type 0 where
  pub u : p.0 ≐ q.0
  pub v : p.1 ≐ q.1

-- two Jacobians
pub record AlikeJacobians (a b : Jacobian) : Type 0 where
  pub entries : AllAlike a.entries b.entries
  pub columns : a.columns ≡ b.columns

-- two ends of an undistort: points that are alike, the same updates and flag
pub record AlikeSettled (a b : Settled) : Type 0 where
  pub point : AlikePoints a.point b.point
  pub updates : a.updates ≡ b.updates
  pub flag : a.flag ≡ b.flag
