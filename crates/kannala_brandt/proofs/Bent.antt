-- Two numbers to check by hand off the axis, with a k0 that isn't 0. The roots they take are of squares, and all else computes. Assumes nothing.
use mathlib.Core.Path.{◌≡◌, refl, ap, ◌∙◌}
use Rattle.std.specs.declared.result.Result.TheVariants.{Ok}
use Rattle.std.specs.declared.option.Option.{Option}
use Rattle.std.specs.declared.option.Option.TheVariants.{Some}
use mathlib.Core.Bool.{true, false}
use Prim.Native.Nat.{◌*◌, ◌^◌}
use native.Mathlib.Nat.{mul-pos}
use lib.Dec.{lit≤}
use lib.IntN.{pos, negsuc}
use lib.Pow.{pow_pos}
use lib.Ieee.{Float, fin, binary64, lt, le, add, sub, mul, div, neg, of_bits, of_int}
use lib.Ieee.Fits.{div-fits, of_int-fits}
use Rattle.exact.specs.F64.{minus, magnitude, ◌⊕◌, ◌⊗◌, ◌⊘◌}
use Rattle.root.specs.Root.{root}
use Rattle.root.proofs.Laws.{root_exact}
use Rattle.lens.specs.ByHand.{halves, quarters, xy, uv}
use Rattle.lens.specs.Constants.{ones, eps, int}
use Rattle.lens.specs.Passes.{passes}
use Rattle.lens.specs.Radius.{squared_radius}
use Rattle.lens.specs.declared.Pixel.{Pixel}
use Rattle.lens.specs.Undistorted.{Undistorted}
use Rattle.kannala_brandt.specs.KannalaBrandt.{camera, powers, polynomial, d_thd_wtr_th, step_from, pass, limit, ended, newton, sign_of, flag, outward, un_of, vn_of, rth2, distort, undistort}
use Rattle.kannala_brandt.specs.declared.KannalaBrandtParams.{KannalaBrandtParams}
use Rattle.kannala_brandt.specs.declared.Reached.{Reached}

-- ---- distort: 10 10 1 2 with k0 = 1.5, and (3, 4)

abbrev outwards : KannalaBrandtParams
outwards = camera (int 10) (int 10) (int 1) (int 2) (halves 3) (int 0) (int 0) (int 0)

root_of_25 : root (int 25) ≡ int 5
root_of_25 =
    root_exact (int 25) (int 5) (5 * 2 ^ 1074) (of_int-fits binary64 (pos 25)) (of_int-fits binary64 (pos 5)) (mul-pos {m = 5} (lit≤ tt) (pow_pos 1074))
    (unfold of_int in (refl, refl)) (unfold of_int in (refl, refl))

radius : squared_radius (int 3) (int 4) ≡ int 25
unfolding add mul of_int
radius = refl

-- what is left of distort, once the radius and the angle are known
abbrev sent : Float → Float → Pixel
sent radius theta =
    let s = theta ⊗ polynomial outwards (powers theta) ⊗ (ones ⊘ radius) in
    uv (s ⊗ int 3 ⊗ int 10 ⊕ int 1) (s ⊗ int 4 ⊗ int 10 ⊕ int 2)

bent : sent (int 5) (int 1) ≡ uv (int 16) (int 22)
unfolding polynomial powers add mul div of_bits of_int
bent = refl

off_axis : le (squared_radius (int 3) (int 4)) eps ≡ false
unfolding le add mul of_bits of_int
off_axis = refl

pub bent_distorted : (f : Float → Float) → f (int 5) ≡ int 1 → distort f outwards (xy (int 3) (int 4)) ≡ uv (int 16) (int 22)
bent_distorted f h = rw off_axis (ap (λ (r : Float). sent r (f r)) (ap root radius ∙ root_of_25) ∙ ap (sent (int 5)) h ∙ bent)

-- ---- undistort: 4 4 1 2 with k0 = -2, and (2, 2)

abbrev inwards : KannalaBrandtParams
inwards = camera (int 4) (int 4) (int 1) (int 2) (minus (int 2)) (int 0) (int 0) (int 0)

abbrev centre : Pixel
centre = uv (int 2) (int 2)

abbrev sixteenth : Float
sixteenth = int 1 ⊘ int 16

root_of_sixteenth : root sixteenth ≡ quarters 1
root_of_sixteenth =
    root_exact sixteenth (quarters 1) (2 ^ 1072) (div-fits binary64 (int 1) (int 16)) (div-fits binary64 (int 1) (int 4)) (pow_pos 1072)
    (unfold div of_int in (refl, refl)) (unfold div of_int in (refl, refl))

root_of_quarter : root (quarters 1) ≡ halves 1
root_of_quarter =
    root_exact (quarters 1) (halves 1) (2 ^ 1073) (div-fits binary64 (int 1) (int 4)) (div-fits binary64 (int 1) (int 2)) (pow_pos 1073)
    (unfold div of_int in (refl, refl)) (unfold div of_int in (refl, refl))

squared : rth2 inwards centre ≡ sixteenth
unfolding add sub mul div of_int
squared = refl

off_axis' : le (rth2 inwards centre) eps ≡ false
unfolding le add sub mul div of_bits of_int
off_axis' = refl

abbrev from : Float → Reached
from th = passes (pass inwards (quarters 1)) ended limit record { th = th; updates = 0; ended = false }

abbrev there : Reached
there = record { th = halves 1; updates = 1; ended = true }

one_pass : from (halves 1) ≡ there
unfolding passes pass step_from powers polynomial d_thd_wtr_th magnitude le add sub mul div neg of_bits of_int
one_pass = refl

newton_ends : newton inwards (quarters 1) ≡ there
unfolding newton
newton_ends = ap from root_of_quarter ∙ one_pass

-- what is left of undistort, once the radius, the angle and its tangent are known
abbrev found : Float → Reached → Option Float → Undistorted
found rth at slope = outward slope at rth (un_of inwards centre) (vn_of inwards centre)

upright : sign_of (quarters 3) ≡ ones
unfolding le div of_bits of_int
upright = refl

one_over : un_of inwards centre ≡ fin false 1 (negsuc 1)
unfolding sub div of_int
one_over = refl

three_quarters : quarters 3 ≡ fin false 3 (negsuc 1)
unfolding div of_int
three_quarters = refl

a_quarter : quarters 1 ≡ fin false 1 (negsuc 1)
unfolding div of_int
a_quarter = refl

kept : ones ⊗ fin false 3 (negsuc 1) ≡ fin false 3 (negsuc 1)
unfolding mul of_bits
kept = refl

sixteenths : fin false 3 (negsuc 1) ⊗ fin false 1 (negsuc 1) ≡ fin false 3 (negsuc 3)
unfolding mul
sixteenths = refl

back : fin false 3 (negsuc 3) ⊘ fin false 1 (negsuc 1) ≡ fin false 3 (negsuc 1)
unfolding div
back = refl

across : ones ⊗ quarters 3 ⊗ un_of inwards centre ⊘ quarters 1 ≡ quarters 3
across = rw (one_over, three_quarters, a_quarter, kept, sixteenths) back

along : ones ⊗ quarters 3 ⊗ vn_of inwards centre ⊘ quarters 1 ≡ int 0
unfolding sub mul div of_bits of_int
along = refl

above : flag there ≡ true
unfolding lt div of_bits of_int
above = refl

unbent : found (quarters 1) there (Some (quarters 3)) ≡ Ok record { point = xy (quarters 3) (int 0); updates = 1; flag = true }
unbent = rw (upright, across, along, above) refl

pub bent_undistorted :
    (g : Float → Option Float) → g (halves 1) ≡ Some (quarters 3)
    → undistort g inwards centre ≡ Ok record { point = xy (quarters 3) (int 0); updates = 1; flag = true }
bent_undistorted g h =
    rw off_axis'
    (ap (λ (r : Float). found r (newton inwards r) (g (newton inwards r).th)) (ap root squared ∙ root_of_sixteenth)
    ∙ ap (λ (at : Reached). found (quarters 1) at (g at.th)) newton_ends
    ∙ ap (found (quarters 1) there) h
    ∙ unbent)
