-- `cell::F32CellNumber::from_pixel` meets its contract: what holds a pixel needs no test of it. Assumes nothing.
use mathlib.Core.Path.{◌≡◌, refl, sym, ap, ◌∙◌}
use mathlib.Core.Bool.{true, ◌&&◌}
use lib.Ieee.{Float}
use lib.Ieee.Scale.{finite}
use Rattle.narrow.specs.Narrow.{narrowed}
use Rattle.cell.specs.Cell.{f32}
use Rattle.cell.proofs.Finite.{holds, of_narrowed, and_left, and_right}
use Rattle.cell.proofs.F32CellNumber.from_pixel.Goals as goal

finite_of : (x : Float) {a : Float} → a ≡ narrowed x → finite a ≡ true → finite x ≡ true
finite_of x e h = of_narrowed x (ap finite (sym e) ∙ h)

pub returns-then-both_finite32 : goal.returns-then-both_finite32
returns-then-both_finite32 c =
    let pixel = c.args.pixel in
    let a = c.narrow-a.result in
    let b = c.narrow-b.result in
    let e = c.narrow-a.ensures in
    let f = c.narrow-b.ensures in
    let g : true ≡ (finite a && finite b) = sym c.if-both_finite32.true ∙ c.both_finite32.ensures in
    holds f32 pixel (rw (← e, ← f, ← g) refl) (finite_of pixel.0 e (and_left (finite a) (finite b) g)) (finite_of pixel.1 f (and_right (finite a) (finite b) g))
