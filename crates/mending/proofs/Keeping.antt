-- What the code's tests say where a line is kept. Assumes nothing.
use mathlib.Core.Path.{◌≡◌, refl, sym, ◌∙◌}
use mathlib.Core.Bool.{Bool, true, false, not}
use mathlib.Core.List.{List}
use Prim.Native.Nat.{ℕ, ◌+◌, ◌*◌, ◌<◌}
use native.Mathlib.Omega.{arith}
use borrow.Author.Tests.{not-true, not-false}
use Rattle.region.specs.Size.{sized}
use Rattle.region.proofs.Size.{is_sized, bounded}
use Rattle.listing.proofs.Grid.{before_end}
use Rattle.mending.specs.Kept.{keep_cell, keep_read}

-- a table has at most 4,096 times 4,096 cells
pub place_small : {width height u v : ℕ} → sized width height ≡ true → u < width → v < height → v * width + u < 16777216
place_small {width} {height} {u} {v} s h k =
    omega (arith, before_end width height u v h k, bounded width height (is_sized width height s))
