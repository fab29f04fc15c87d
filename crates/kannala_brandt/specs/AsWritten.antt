-- The Rust's two derivatives as kannala_brandt.rs has them (lines 178 to 230 and 241 to 316), let by let: with its
-- factors of 1, with c8 * c6 for the sixth power, and with the size of the squared radius held to EPS.
-- proofs/Laws.antt, `as_written`: not a bit differs from the definitions that the code is held to. `atan` is any
-- function. Definitions only.
use Rattle.std.specs.Prelude.{cond, [], ◌∷◌, Float}
use Rattle.std.specs.Float.Ieee.{le}
use Rattle.exact.specs.F64.{minus, magnitude, ◌⊕◌, ◌⊗◌, ◌⊘◌}
use Rattle.root.specs.Root.{root}
use Rattle.lens.specs.Constants.{zeros, ones, eps, int}
use Rattle.lens.specs.Jacobian.{two_rows}
use Rattle.lens.specs.declared.Jacobian.{Jacobian}
use Rattle.lens.specs.declared.Point.{Point}
use Rattle.kannala_brandt.specs.declared.KannalaBrandtParams.{KannalaBrandtParams}

unfoldable pub dx_distort_x_as_written : (Float → Float) → KannalaBrandtParams → Point → Jacobian
dx_distort_x_as_written atan params point =
    let a = point.0 in
    let b = point.1 in
    let fx = params.fx in
    let fy = params.fy in
    let radius-sq = a ⊗ a ⊕ b ⊗ b in
    let near_zero = le radius-sq eps in
    let dx0 = two_rows (fx ∷ zeros ∷ []) (zeros ∷ fy ∷ []) in
    let c0 = a ⊗ a in
    let c1 = b ⊗ b in
    let c2 = c0 ⊕ c1 in
    let c2-sqrt = root c2 in
    let c3 = c2-sqrt ⊗ c2-sqrt ⊗ c2-sqrt ⊗ c2-sqrt ⊗ c2-sqrt in
    let c4 = c2 ⊕ ones in
    let c5 = atan c2-sqrt in
    let c6 = c5 ⊗ c5 in
    let c7 = c6 ⊗ params.k0 in
    let c8 = c6 ⊗ c6 in
    let c9 = c8 ⊗ params.k1 in
    let c10 = c8 ⊗ c6 in
    let c11 = c10 ⊗ params.k2 in
    let c12 = c8 ⊗ c8 ⊗ params.k3 in
    let c13 = ones ⊗ c4 ⊗ c5 ⊗ (c11 ⊕ c12 ⊕ c7 ⊕ c9 ⊕ ones) in
    let c14 = c13 ⊗ c3 in
    let c15 = c2-sqrt ⊗ c2-sqrt ⊗ c2-sqrt in
    let c16 = c13 ⊗ c15 in
    let c17 =
    ones ⊗ c11
    ⊕ ones ⊗ c12
    ⊕ int 2 ⊗ c6 ⊗ (int 4 ⊗ c10 ⊗ params.k3 ⊕ int 2 ⊗ c6 ⊗ params.k1 ⊕ int 3 ⊗ c8 ⊗ params.k2 ⊕ params.k0)
    ⊕ ones ⊗ c7
    ⊕ ones ⊗ c9
    ⊕ ones in
    let c18 = c17 ⊗ c2 ⊗ c2 in
    let c19 = ones ⊘ c4 in
    let c20 = c19 ⊘ (c2 ⊗ c2 ⊗ c2) in
    let c21 = a ⊗ b ⊗ c19 ⊗ (minus c13 ⊗ c2 ⊕ c15 ⊗ c17) ⊘ c3 in
    let dx =
    two_rows
    (c20 ⊗ fx ⊗ (minus c0 ⊗ c16 ⊕ c0 ⊗ c18 ⊕ c14) ∷ c21 ⊗ fx ∷ [])
    (c21 ⊗ fy ∷ c20 ⊗ fy ⊗ (minus c1 ⊗ c16 ⊕ c1 ⊗ c18 ⊕ c14) ∷ []) in
    cond near_zero dx0 dx

unfoldable pub dx_distort_params_as_written : (Float → Float) → KannalaBrandtParams → Point → Jacobian
dx_distort_params_as_written atan params point =
    let x = point.0 in
    let y = point.1 in
    let fx = params.fx in
    let fy = params.fy in
    let xx = x ⊗ x in
    let yy = y ⊗ y in
    let radius-sq = xx ⊕ yy in
    let radius = root radius-sq in
    let theta = atan radius in
    let theta2 = theta ⊗ theta in
    let theta4 = theta2 ⊗ theta2 in
    let theta6 = theta2 ⊗ theta4 in
    let theta8 = theta4 ⊗ theta4 in
    let r-near-zero = le (magnitude radius-sq) eps in
    let alpha = cond r-near-zero ones (theta ⊘ radius) in
    let alpha-x = x ⊗ alpha in
    let alpha-y = y ⊗ alpha in
    let scaling-by-theta =
    ones ⊕ params.k0 ⊗ theta2 ⊕ params.k1 ⊗ theta4 ⊕ params.k2 ⊗ theta6 ⊕ params.k3 ⊗ theta8 in
    let dx-dfx = alpha-x ⊗ scaling-by-theta in
    let dy-dfy = alpha-y ⊗ scaling-by-theta in
    let dx-dk0 = fx ⊗ alpha-x ⊗ theta2 in
    let dx-dk1 = fx ⊗ alpha-x ⊗ theta4 in
    let dx-dk2 = fx ⊗ alpha-x ⊗ theta6 in
    let dx-dk3 = fx ⊗ alpha-x ⊗ theta8 in
    let dy-dk0 = fy ⊗ alpha-y ⊗ theta2 in
    let dy-dk1 = fy ⊗ alpha-y ⊗ theta4 in
    let dy-dk2 = fy ⊗ alpha-y ⊗ theta6 in
    let dy-dk3 = fy ⊗ alpha-y ⊗ theta8 in
    two_rows
    (dx-dfx ∷ zeros ∷ ones ∷ zeros ∷ dx-dk0 ∷ dx-dk1 ∷ dx-dk2 ∷ dx-dk3 ∷ [])
    (zeros ∷ dy-dfy ∷ zeros ∷ ones ∷ dy-dk0 ∷ dy-dk1 ∷ dy-dk2 ∷ dy-dk3 ∷ [])
