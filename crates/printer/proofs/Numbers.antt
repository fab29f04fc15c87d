-- Whatever unit of a table refuses, its number has two digits at most. Assumes nothing.
use mathlib.Core.Bool.{false}
use Prim.Native.Nat.{ℕ, ◌≤◌}
use native.Mathlib.Omega.{arith}
use lib.Ieee.{Float}
use Rattle.camera.specs.declared.Camera.{Camera}
use Rattle.turns.specs.Turns.{Said, finished, refused, running, turn}
use Rattle.plans.specs.Calls.{said_number}
use Rattle.plans.specs.Plan.{State, next}
use Rattle.plans.proofs.Numbers as units
use Rattle.table_plans.specs.Tables.{f32s, unit_numbers, f32_table}
use Rattle.table_plans.proofs.Numbers.{Known, by_each, turn_known}
use Rattle.table_plans.proofs.Sound.{f32_fit}

abbrev pub Told : Said → Type 0
Told said = said_number said ≤ 19

told_so : (said : Said) → units.Told (Known 12 false) said → Told said
told_so finished k = omega arith
told_so running k = omega arith
told_so (refused n) k = by_each (λ m. m ≤ 19) (unit_numbers 12 false) n k (omega arith, (omega arith, (omega arith, (omega arith, (omega arith, tt)))))

pub table_told : (camera : Camera) (width height a : ℕ) (s : State Float) → Told (turn (next (f32_table camera width height false)) a s).said
table_told camera width height a s = told_so (turn (next (f32_table camera width height false)) a s).said (turn_known f32s f32_fit camera width height false a s)
