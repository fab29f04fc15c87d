-- What the test of a size says. Assumes nothing.
use Rattle.std.proofs.Common.{◌≡◌, ℕ, ◌*◌, ◌≤◌, Bool, true, false, ◌&&◌, leb, refl, mul-le-mul, leb-true}
use mathlib.Core.Bool.{false≢true}
use Rattle.region.specs.Size.{least, most, sized, Sized}

pub is_sized : (width height : ℕ) → sized width height ≡ true → Sized width height
is_sized width height = go (leb least width) refl (leb width most) refl (leb least height) refl (leb height most) refl
  where
    go : (a : Bool) → leb least width ≡ a → (b : Bool) → leb width most ≡ b → (c : Bool) → leb least height ≡ c → (d : Bool) → leb height most ≡ d → ((a && b) && (c && d)) ≡ true → Sized width height
    go true p true q true r true s h = record { wide = leb-true least width p; high = leb-true least height r; not_wider = leb-true width most q; not_higher = leb-true height most s }
    go true p true q true r false s h = absurd (false≢true h)
    go true p true q false r d s h = absurd (false≢true h)
    go true p false q c r d s h = absurd (false≢true h)
    go false p b q c r d s h = absurd (false≢true h)

-- a table of a size that is taken has at most 4,096 times 4,096 cells
pub bounded : (width height : ℕ) → Sized width height → width * height ≤ most * most
bounded width height s = mul-le-mul s.not_wider s.not_higher
