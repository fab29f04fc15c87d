-- `job::few` meets its contract. Assumes nothing.
use Prim.Native.Nat.{◌≤◌}
use native.Mathlib.Nat.{mul-le-mul}
use native.Mathlib.Omega.{arith}
use Rattle.job.proofs.few.Goals as goal

pub overflow_mul-result : goal.overflow_mul-result
overflow_mul-result c =
    let a = c.args in
    let m : a.samples ≤ a.samples = omega arith in
    omega (arith, mul-le-mul c.requires.0 m, c.requires.1)
