-- The Rust's second copy of the slopes is the first one, but for sides of a sum or a product, a factor of 1 and which factor has the minus. Assumes nothing.
use mathlib.Core.Path.{◌≡◌, ap, ◌∙◌, sym}
use lib.Ieee.{Float, binary64}
use lib.Ieee.Fits.{mul-fits}
use Rattle.exact.specs.F64.{minus, ◌⊕◌, ◌⊗◌}
use Rattle.exact.proofs.Swaps.{sum_swapped, product_swapped, minus_first, one_times}
use Rattle.lens.specs.Constants.{int}
use Rattle.lens.specs.Radius.{squared_radius}
use Rattle.lens.specs.declared.Point.{Point}
use Rattle.brown_conrady.specs.AsWritten.{dx_distort_x_as_written}
use Rattle.brown_conrady.specs.BrownConrady.{shared_at, slopes_at, dx_distort_x}
use Rattle.brown_conrady.specs.declared.BrownConradyParams.{BrownConradyParams}

minus_moved : (x y : Float) → minus x ⊗ y ≡ minus y ⊗ x
minus_moved x y = minus_first x y ∙ ap minus (product_swapped x y) ∙ sym (minus_first y x)

-- what stands in the brackets of the diagonal's entries
diagonal : (c14 c15 c16 c7 c2 w : Float) → minus c14 ⊗ c2 ⊕ c7 ⊗ (c15 ⊗ c2 ⊕ c16) ⊕ w ≡ minus c2 ⊗ c14 ⊕ c7 ⊗ (c2 ⊗ c15 ⊕ c16) ⊕ w
diagonal c14 c15 c16 c7 c2 w = rw (minus_moved c14 c2, product_swapped c15 c2)

pub same_copy : (params : BrownConradyParams) (point : Point) → dx_distort_x_as_written params point ≡ dx_distort_x params point
unfolding dx_distort_x_as_written slopes_at shared_at
same_copy params point =
    let c4 = squared_radius point.0 point.1 in
    let c5 = c4 ⊗ c4 in
    rw (
      sum_swapped (int 3 ⊗ c5 ⊗ params.k6) (int 2 ⊗ c4 ⊗ params.k5),
      sum_swapped (int 2 ⊗ (int 3 ⊗ c5) ⊗ params.k3) (int 2 ⊗ (int 2 ⊗ c4) ⊗ params.k2),
      one_times (c4 ⊗ params.k1) (mul-fits binary64 c4 params.k1),
      diagonal _ _ _ _ (point.0 ⊗ point.0) _,
      diagonal _ _ _ _ (point.1 ⊗ point.1) _,
    )
