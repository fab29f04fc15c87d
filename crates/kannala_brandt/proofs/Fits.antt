-- What Newton and undistort find is rounded to f64, whatever the parameters, the pixel and the tangent are. Assumes nothing.
use mathlib.Core.Bool.{Bool, true, false, cond}
use Rattle.std.specs.declared.result.Result.TheVariants.{Ok}
use Rattle.std.specs.declared.option.Option.{Option}
use Rattle.std.specs.declared.option.Option.TheVariants.{Some, None}
use Prim.Native.Nat.{ℕ, suc}
use lib.Ieee.{Float, binary64, le}
use lib.Ieee.Fits.{sub-fits, div-fits}
use Rattle.exact.specs.F64.{◌⊖◌, ◌⊗◌}
use Rattle.root.specs.Root.{root}
use Rattle.lens.specs.Constants.{eps}
use Rattle.lens.specs.Fits.{Fit, PointFits}
use Rattle.lens.specs.Passes.{passes}
use Rattle.lens.specs.Undistorted.{direct}
use Rattle.lens.specs.declared.Pixel.{Pixel}
use Rattle.lens.specs.Undistorted.{Undistorted}
use Rattle.lens.proofs.Passes.{passes_keep}
use Rattle.kannala_brandt.specs.KannalaBrandt.{step_from, pass, ended, start, newton, sign_of, outward, un_of, vn_of, rth2, undistort}
use Rattle.kannala_brandt.specs.declared.KannalaBrandtParams.{KannalaBrandtParams}
use Rattle.kannala_brandt.specs.declared.Reached.{Reached}

-- a pass ends with a difference
pass_fits : (params : KannalaBrandtParams) (rth : Float) (at : Reached) → Fit (pass params rth at).th
unfolding pass
pass_fits params rth at = sub-fits binary64 at.th (step_from params rth at.th)

-- and so do some passes, be it one
passes_fit : (params : KannalaBrandtParams) (rth : Float) (n : ℕ) (at : Reached) → Fit (passes (pass params rth) ended (suc n) at).th
unfolding passes
passes_fit params rth n at =
    let t = pass params rth at in
    go t.ended t _ (pass_fits params rth at) (passes_keep (pass params rth) ended (λ (s : Reached). Fit s.th) (λ s p. pass_fits params rth s) n t (pass_fits params rth at))
  where
    go : (b : Bool) (s t : Reached) → Fit s.th → Fit t.th → Fit (cond b s t).th
    go true s t p q = p
    go false s t p q = q

-- The angle where Newton ends is an f64.
pub angle_fits : (params : KannalaBrandtParams) (rth : Float) → Fit (newton params rth).th
unfolding newton
angle_fits params rth = passes_fit params rth 19 (start rth)

outward_fits : (slope : Option Float) (at : Reached) (rth un vn : Float) → PointFits (outward slope at rth un vn)
outward_fits None at rth un vn = tt
outward_fits (Some radius) at rth un vn = (div-fits binary64 (sign_of radius ⊗ radius ⊗ un) rth, div-fits binary64 (sign_of radius ⊗ radius ⊗ vn) rth)

-- The point that undistort finds is of two f64s.
pub undistort_fits : (tan : Float → Option Float) (params : KannalaBrandtParams) (pixel : Pixel) → PointFits (undistort tan params pixel)
undistort_fits tan params pixel = go (le (rth2 params pixel) eps)
  where
    rth : Float
    rth = root (rth2 params pixel)

    far : Undistorted
    far = outward (tan (newton params rth).th) (newton params rth) rth (un_of params pixel) (vn_of params pixel)

    go : (near : Bool) → PointFits (cond near (Ok (direct record { 0 = un_of params pixel; 1 = vn_of params pixel })) far)
    go true = (div-fits binary64 (pixel.0 ⊖ params.cx) params.fx, div-fits binary64 (pixel.1 ⊖ params.cy) params.fy)
    go false = outward_fits (tan (newton params rth).th) (newton params rth) rth (un_of params pixel) (vn_of params pixel)
