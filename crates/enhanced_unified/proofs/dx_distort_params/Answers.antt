-- `enhanced_unified::dx_distort_params` meets its contract: each call gives its definition's number. Assumes nothing.
use mathlib.Core.Path.{refl}
use lib.Ieee.{of_bits, of_int}
use Rattle.enhanced_unified.proofs.dx_distort_params.Goals as goal

pub returns : goal.returns
unfolding of_bits of_int
returns c =
    let t4 = c in
    let t3 = t4 in
    let t2 = t3 in
    let t1 = t2 in
    let n = t1 in
    rw (t4.turned-4.ensures, t3.turned-3.ensures, t2.turned-2.ensures, t1.turned.ensures, n.norm_of-norm.ensures, n.rho_of-rho.ensures, n.squared_radius-r2.ensures) refl
