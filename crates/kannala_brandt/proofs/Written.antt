-- The Rust's own lines of the derivatives are our definitions, but for factors of 1, the sides of one product, and a size taken of what has no sign. Assumes nothing.
use mathlib.Core.Path.{◌≡◌}
use lib.Ieee.{Float, binary64}
use lib.Ieee.Fits.{add-fits, mul-fits}
use Rattle.exact.specs.F64.{◌⊗◌}
use Rattle.exact.proofs.Swaps.{product_swapped, one_times, squares_unsigned}
use Rattle.root.specs.Root.{root}
use Rattle.lens.specs.Constants.{ones}
use Rattle.lens.specs.Radius.{squared_radius}
use Rattle.lens.specs.declared.Point.{Point}
use Rattle.kannala_brandt.specs.AsWritten.{dx_distort_x_as_written, dx_distort_params_as_written}
use Rattle.kannala_brandt.specs.KannalaBrandt.{powers, polynomial, terms_of, c13_of, c17_of, diagonal, off_axis, dx_distort_x, alpha_of, rows, dx_distort_params}
use Rattle.kannala_brandt.specs.declared.KannalaBrandtParams.{KannalaBrandtParams}

module _ (atan : Float → Float) (params : KannalaBrandtParams) (point : Point) where
  pub x_written : dx_distort_x_as_written atan params point ≡ dx_distort_x atan params point
  unfolding dx_distort_x_as_written off_axis diagonal terms_of c13_of c17_of powers
  x_written =
      let c2 = squared_radius point.0 point.1 in
      let c5 = atan (root c2) in
      let c6 = c5 ⊗ c5 in
      let c8 = c6 ⊗ c6 in
      rw (
        product_swapped c8 c6,
        one_times _ (add-fits binary64 c2 ones),
        one_times _ (mul-fits binary64 (c6 ⊗ c8) params.k2),
        one_times _ (mul-fits binary64 (c8 ⊗ c8) params.k3),
        one_times _ (mul-fits binary64 c6 params.k0),
        one_times _ (mul-fits binary64 c8 params.k1),
      )

  pub params_written : dx_distort_params_as_written atan params point ≡ dx_distort_params atan params point
  unfolding dx_distort_params_as_written rows alpha_of polynomial powers
  params_written = rw (squares_unsigned point.0 point.1)
