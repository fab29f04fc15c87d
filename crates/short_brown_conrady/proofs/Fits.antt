-- What undistort finds is rounded to f64, with at most 50 updates, whatever its parameters and pixel are: its search is brown_conrady's by other steps. Assumes nothing.
use mathlib.Core.Path.{sym, subst}
use mathlib.Core.Bool.{Bool, true, false, cond}
use Prim.Native.Nat.{◌≤◌}
use lib.Dec.{T}
use lib.Ieee.Scale.{finite}
use Rattle.exact.specs.F64.{◌⊕◌}
use Rattle.exact.proofs.Operations.{sum_finite}
use Rattle.lens.specs.Fits.{Fit}
use Rattle.lens.specs.Passes.{passes}
use Rattle.lens.specs.declared.Pixel.{Pixel}
use Rattle.lens.specs.declared.Point.{Point}
use Rattle.lens.specs.declared.Settled.{Settled}
use Rattle.affine.proofs.Fits as affine
use Rattle.brown_conrady.specs.BrownConrady as full
use Rattle.brown_conrady.specs.declared.BrownConradyParams.{BrownConradyParams}
use Rattle.brown_conrady.specs.declared.Search.{Search}
use Rattle.brown_conrady.proofs.Fits as full-fits
use Rattle.brown_conrady.proofs.Laws.{updates_limit}
use Rattle.brown_conrady.proofs.Steps as steps
use Rattle.short_brown_conrady.specs.ShortBrownConrady.{f_xy, by_step, start, newton, distorted_of, undistort}
use Rattle.short_brown_conrady.specs.declared.Tracked.{Tracked}
use Rattle.short_brown_conrady.proofs.Full.{search_is}

module _ (params : BrownConradyParams) (pixel : Pixel) where
  abbrev distorted : Point
  distorted = distorted_of params pixel

  abbrev at : Tracked
  at = newton params distorted

  abbrev tested : Bool
  tested = finite ((f_xy params distorted at.search.xy).0 ⊕ (f_xy params distorted at.search.xy).1 ⊕ at.last)

  -- what holds of where the search ends, if that is what the test asks for, and of the full answer
  by_search :
      (P : Settled → Type 0) → (T tested → P (record { point = at.search.xy; updates = at.search.updates; flag = full.small (f_xy params distorted at.search.xy) })) → P (full.undistort params pixel)
      → P (undistort params pixel)
  by_search P p q = go tested _ p
    where
      go : (b : Bool) (s : Settled) → (T b → P s) → P (cond b s (full.undistort params pixel))
      go true s p = p tt
      go false s p = q

  found : (Q : Search → Type 0) → Q (passes (full.pass_by (by_step params distorted)) full.ended full.limit (full.start distorted)) → T tested → Q at.search
  found Q q t = subst Q (sym (search_is params distorted full.limit (start distorted) (sum_finite _ _ t).1)) q

  -- The point that undistort finds is of two f64s,
  pub undistort_fits : Fit (undistort params pixel).point.0 × Fit (undistort params pixel).point.1
  undistort_fits =
      let from = affine.undistort_fits (full.affine_params params) pixel in
      by_search (λ (s : Settled). Fit s.point.0 × Fit s.point.1)
      (found (λ (s : Search). Fit s.xy.0 × Fit s.xy.1) (steps.found_fits (by_step params distorted) distorted from.0 from.1))
      (full-fits.undistort_fits params pixel)

  -- with at most 50 updates.
  pub most_updates : (undistort params pixel).updates ≤ 50
  most_updates =
      by_search (λ (s : Settled). s.updates ≤ 50) (found (λ (s : Search). s.updates ≤ 50) (steps.most_updates (by_step params distorted) distorted)) (updates_limit params pixel)
