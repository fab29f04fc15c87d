-- The Rust's dx_distort_x as brown_conrady.rs has it (lines 282 to 332), let by let. Its slopes are those of Newton
-- written a second time, with sides of sums and products swapped; the code works them out once.
-- proofs/Laws.antt, `second_copy`: not a bit differs. Definitions only.
use Rattle.std.specs.Prelude.{[], ◌∷◌}
use Rattle.exact.specs.F64.{minus, ◌⊕◌, ◌⊗◌, ◌⊘◌}
use Rattle.lens.specs.Constants.{ones, int}
use Rattle.lens.specs.Jacobian.{two_rows}
use Rattle.lens.specs.declared.Jacobian.{Jacobian}
use Rattle.lens.specs.declared.Point.{Point}
use Rattle.brown_conrady.specs.declared.BrownConradyParams.{BrownConradyParams}

unfoldable pub dx_distort_x_as_written : BrownConradyParams → Point → Jacobian
dx_distort_x_as_written params point =
    let fx = params.fx in
    let fy = params.fy in
    let d0 = params.k1 in
    let d1 = params.k2 in
    let d2 = params.p1 in
    let d3 = params.p2 in
    let d4 = params.k3 in
    let d5 = params.k4 in
    let d6 = params.k5 in
    let d7 = params.k6 in
    let one = ones in
    let a = point.0 in
    let b = point.1 in
    let c0 = a ⊗ d3 in
    let c1 = int 2 ⊗ d2 in
    let c2 = a ⊗ a in
    let c3 = b ⊗ b in
    let c4 = c2 ⊕ c3 in
    let c5 = c4 ⊗ c4 in
    let c6 = c5 ⊗ c4 in
    let c7 = c4 ⊗ d5 ⊕ c5 ⊗ d6 ⊕ c6 ⊗ d7 ⊕ one in
    let c8 = c7 ⊗ c7 in
    let c9 = int 2 ⊗ c4 in
    let c10 = int 3 ⊗ c5 in
    let c11 = c4 ⊗ d0 in
    let c12 = c5 ⊗ d1 in
    let c13 = c6 ⊗ d4 in
    let c14 = int 2 ⊗ (c10 ⊗ d7 ⊕ c9 ⊗ d6 ⊕ d5) ⊗ (c11 ⊕ c12 ⊕ c13 ⊕ one) in
    let c15 = int 2 ⊗ c10 ⊗ d4 ⊕ int 2 ⊗ c9 ⊗ d1 ⊕ int 2 ⊗ d0 in
    let c16 = one ⊗ c11 ⊕ c12 ⊕ c13 ⊕ one in
    let c17 = one ⊘ c8 in
    let c18 = c17 ⊗ fx in
    let c19 = b ⊗ d3 in
    let c20 = a ⊗ b in
    let c21 = minus c14 ⊗ c20 ⊕ c15 ⊗ c20 ⊗ c7 in
    let c22 = c17 ⊗ fy in
    let dfx-dfx = c18 ⊗ (minus c14 ⊗ c2 ⊕ c7 ⊗ (c15 ⊗ c2 ⊕ c16) ⊕ c8 ⊗ (b ⊗ c1 ⊕ int 6 ⊗ c0)) in
    let dfy-dfx = c22 ⊗ (c21 ⊕ c8 ⊗ (int 2 ⊗ a ⊗ d2 ⊕ int 2 ⊗ c19)) in
    let dfx-dfy = c18 ⊗ (c21 ⊕ c8 ⊗ (a ⊗ c1 ⊕ int 2 ⊗ c19)) in
    let dfy-dfy = c22 ⊗ (minus c14 ⊗ c3 ⊕ c7 ⊗ (c15 ⊗ c3 ⊕ c16) ⊕ c8 ⊗ (int 6 ⊗ b ⊗ d2 ⊕ int 2 ⊗ c0)) in
    two_rows (dfx-dfx ∷ dfx-dfy ∷ []) (dfy-dfx ∷ dfy-dfy ∷ [])
