-- A pixel whose kb angle is past the tangent's limit: 1 1 0 0 with no distortion, and (4, 0). Newton starts at the root of 4, is at 4 after one update, and the next step is 0. Assumes nothing.
use mathlib.Core.Path.{◌≡◌, refl, ap, ◌∙◌}
use Rattle.std.specs.declared.result.Result.TheVariants.{Err}
use Rattle.std.specs.declared.option.Option.TheVariants.{None}
use mathlib.Core.Bool.{true, false}
use Prim.Native.Nat.{◌*◌, ◌^◌}
use native.Mathlib.Nat.{mul-pos}
use lib.Dec.{lit≤}
use lib.IntN.{pos}
use lib.Pow.{pow_pos}
use lib.Ieee.{Float, binary64, le, add, sub, mul, div, of_bits, of_int}
use lib.Ieee.Fits.{of_int-fits}
use Rattle.exact.specs.F64.{magnitude}
use Rattle.exact.specs.Fraction.{over}
use Rattle.root.specs.Root.{root}
use Rattle.root.proofs.Laws.{root_exact}
use Rattle.arctan.specs.Tangent.{tangent}
use Rattle.arctan.proofs.Laws.{tangent_refused_past}
use Rattle.lens.specs.ByHand.{uv}
use Rattle.lens.specs.Constants.{eps, int}
use Rattle.lens.specs.Passes.{passes}
use Rattle.lens.specs.declared.Pixel.{Pixel}
use Rattle.lens.specs.declared.Refusal.TheVariants.{AngleTooLarge}
use Rattle.kannala_brandt.specs.KannalaBrandt.{camera, powers, polynomial, d_thd_wtr_th, step_from, pass, limit, ended, newton, rth2, undistort}
use Rattle.kannala_brandt.specs.declared.KannalaBrandtParams.{KannalaBrandtParams}
use Rattle.kannala_brandt.specs.declared.Reached.{Reached}
use Rattle.kannala_brandt.proofs.Laws.{refused_exactly}

abbrev pub lens : KannalaBrandtParams
lens = camera (int 1) (int 1) (int 0) (int 0) (int 0) (int 0) (int 0) (int 0)

abbrev pub pixel : Pixel
pixel = uv (int 4) (int 0)

root_of_four : root (int 4) ≡ int 2
root_of_four =
    root_exact (int 4) (int 2) (2 * 2 ^ 1074) (of_int-fits binary64 (pos 4)) (of_int-fits binary64 (pos 2)) (mul-pos {m = 2} (lit≤ tt) (pow_pos 1074))
    (unfold of_int in (refl, refl)) (unfold of_int in (refl, refl))

root_of_sixteen : root (int 16) ≡ int 4
root_of_sixteen =
    root_exact (int 16) (int 4) (4 * 2 ^ 1074) (of_int-fits binary64 (pos 16)) (of_int-fits binary64 (pos 4)) (mul-pos {m = 4} (lit≤ tt) (pow_pos 1074))
    (unfold of_int in (refl, refl)) (unfold of_int in (refl, refl))

radius : rth2 lens pixel ≡ int 16
unfolding add sub mul div of_int
radius = refl

abbrev from_start : Float → Reached
from_start th = passes (pass lens (int 4)) ended limit record { th = th; updates = 0; ended = false }

two_passes : from_start (int 2) ≡ record { th = int 4; updates = 2; ended = true }
unfolding passes pass step_from powers polynomial d_thd_wtr_th magnitude le add sub mul div of_bits of_int
two_passes = refl

newton_ends : (newton lens (root (rth2 lens pixel))).th ≡ int 4
unfolding newton
newton_ends = ap (λ (q : Float). (newton lens (root q)).th) radius ∙ ap (λ (r : Float). (newton lens r).th) root_of_sixteen ∙ ap (λ (th : Float). (from_start th).th) root_of_four ∙ ap (λ (at : Reached). at.th) two_passes

four_steep : tangent (int 4) ≡ None
unfolding of_int over
four_steep = (tangent_refused_past false _ _ (of_int-fits binary64 (pos 4))).1 record { holds = lit≤ tt }

off_axis : le (rth2 lens pixel) eps ≡ false
unfolding le add sub mul div of_bits of_int
off_axis = refl

pub refused : undistort tangent lens pixel ≡ Err AngleTooLarge
refused = (refused_exactly lens pixel tangent AngleTooLarge).1 (refl, off_axis, ap tangent newton_ends ∙ four_steep)
