-- `sweep::units` meets its contract. The loop's invariant: the units left from here meet what all of them meet. Assumes nothing.
use mathlib.Core.Path.{◌≡◌}
use Prim.Native.Nat.{◌+◌, ◌-◌, ◌*◌, ◌^◌, ◌<◌}
use Rattle.turns.specs.Turns.{turn, met}
use Rattle.plans.specs.Plan.{swept}
use Rattle.sweep.specs.Sweep.{by_mark}
use Rattle.sweep.proofs.units.Given as goal

abbrev pub invariant-loop-done : goal.invariant-loop-done
invariant-loop-done l =
    let left = l.count - l._done in
    let sweep = swept (by_mark l.camera l.short l.width l.height l.strict) in
    (l.at.done + left ≡ l.initial.at.done + l.count) × (l.at.updates + 50 * left < 2 ^ 32) × (l.at.unsettled + left < 2 ^ 32)
    × (met (turn sweep left l.at) ≡ met (turn sweep l.count l.initial.at))
