-- `sweep::sweep` meets its contract. Assumes nothing.
use mathlib.Core.Path.{◌≡◌, refl, sym, ap, ap₂, ◌∙◌}
use mathlib.Core.Bool.{Bool, true, ◌&&◌}
use Prim.Native.Nat.{ℕ, ◌-◌, ◌^◌, ◌≤◌, ◌<◌, min}
use native.Mathlib.Nat.{min-le_right}
use native.Mathlib.Omega.{arith}
use borrow.Author.Tests.{ltb-true}
use lib.Dec.{ltb}
use Rattle.region.specs.Size.{sized, Sized}
use Rattle.region.proofs.Size.{is_sized}
use Rattle.border.specs.Border.{samples}
use Rattle.border.proofs.Finite.{both}
use Rattle.turns.specs.Turns.{turn, met}
use Rattle.plans.specs.Plan.{Sweep, swept}
use Rattle.plans.specs.declared.Progress.{Progress}
use Rattle.sweep.specs.Sweep.{roomy, by_mark, run}
use Rattle.sweep.proofs.Runs.{run_is}
use Rattle.sweep.proofs.sweep.Goals as goal

-- what the test for room says
module _ (width height : ℕ) (from : Progress) (h : roomy width height from ≡ true) where
  parts : (sized width height ≡ true) × ((ltb from.updates (2 ^ 31) && ltb from.unsettled (2 ^ 31)) ≡ true)
  parts = both (sized width height) _ h

  few : (from.updates < 2 ^ 31) × (from.unsettled < 2 ^ 31)
  few = let b = both (ltb from.updates (2 ^ 31)) _ parts.1 in (ltb-true from.updates (2 ^ 31) b.0, ltb-true from.unsettled (2 ^ 31) b.1)

  size : Sized width height
  size = is_sized width height parts.0

pub overflow_cast-width : goal.overflow_cast-width
overflow_cast-width c = let a = c.args in omega (arith, (size a.width a.height a.from (sym c.roomy.ensures ∙ c.if-roomy.true)).not_wider)

pub overflow_cast-height : goal.overflow_cast-height
overflow_cast-height c = let a = c.args in omega (arith, (size a.width a.height a.from (sym c.roomy.ensures ∙ c.if-roomy.true)).not_higher)

pub units-requires : goal.units-requires
units-requires c =
    let d = c in
    let a = d.args in
    let roomy = sym d.roomy.ensures ∙ d.if-roomy.true in
    let s = size a.width a.height a.from roomy in
    let f = few a.width a.height a.from roomy in
    let n = d.samples-all.ensures in
    let room : d.due-count.result ≤ d.samples-all.result - a.from.done = omega (arith, d.due-count.ensures, min-le_right a.allowance (d.samples-all.result - a.from.done)) in (
      n,
      omega (arith, n, s.not_wider, s.not_higher),
      room,
      omega (arith, n, room, f.0, s.not_wider, s.not_higher),
      omega (arith, n, room, f.1, s.not_wider, s.not_higher),
    )

pub returns-then-roomy : goal.returns-then-roomy
returns-then-roomy c =
    let d = c in
    let a = d.args in
    let roomy = sym d.roomy.ensures ∙ d.if-roomy.true in
    let f = few a.width a.height a.from roomy in
    let count : d.due-count.result ≡ min a.allowance (samples a.width a.height - a.from.done) = rw (← d.samples-all.ensures) d.due-count.ensures in
    let is = ap (λ (mark : Bool). by_mark a.camera mark a.width a.height a.strict) c.short_for-short.ensures in
    c.units.ensures
    ∙ ap₂ (λ (s : Sweep) (n : ℕ). met (turn (swept s) n a.from)) is count
    ∙ sym (run_is a.camera a.width a.height a.strict a.allowance a.from (parts a.width a.height a.from roomy).0 f.0 f.1)

pub returns : goal.returns
unfolding run
returns c = rw (← c.roomy.ensures, c.if-roomy.false) refl
