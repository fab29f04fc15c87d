-- `root::digits` meets its contract. Assumes nothing.
use mathlib.Core.Path.{◌≡◌, refl, ap, ◌∙◌, subst}
use Prim.Native.Nat.{ℕ, zero, suc, ◌+◌, ◌*◌, ◌/◌, ◌^◌, ◌≤◌, ◌<◌}
use native.Mathlib.Omega.{arith}
use lib.Dec.{lit≤}
use Rattle.root.specs.Digits.{number, Finer}
use Rattle.root.specs.declared.Partial.{Partial}
use Rattle.root.proofs.digits.Invariants.{weight}
use Rattle.root.proofs.digits.Goals as goal

-- what a turn's weight is, and that it can be divided twice by 16
record Turn (k : ℕ) : Type 0 where
  shifted : 4503599627370496 / 2 ^ (8 * k) ≡ weight k
  first : weight k ≡ 16 * (weight k / 16)
  second : weight k / 16 ≡ 16 * (weight k / 16 / 16)
  next : weight k / 16 / 16 ≡ weight (k + 1)

turns : (k : ℕ) → k < 6 → Turn k
turns zero h = record { shifted = refl; first = refl; second = refl; next = refl }
turns (suc zero) h = record { shifted = refl; first = refl; second = refl; next = refl }
turns (suc (suc zero)) h = record { shifted = refl; first = refl; second = refl; next = refl }
turns (suc (suc (suc zero))) h = record { shifted = refl; first = refl; second = refl; next = refl }
turns (suc (suc (suc (suc zero)))) h = record { shifted = refl; first = refl; second = refl; next = refl }
turns (suc (suc (suc (suc (suc zero))))) h = record { shifted = refl; first = refl; second = refl; next = refl }
turns (suc (suc (suc (suc (suc (suc k)))))) h = absurd (omega arith)

pub loop-turn-init : goal.loop-turn-init
loop-turn-init c = record { found = record { even = refl; most = omega arith; room = lit≤ tt; lead = lit≤ tt }; same = refl }

pub four-mid-requires : goal.four-mid-requires
four-mid-requires c =
    let t = turns c.loop-turn.turn c.loop-turn-test.true in
    rw t.shifted (t.first, c.loop-turn.invariant.found)

pub four-p-requires : goal.four-p-requires
four-p-requires c =
    let t = turns c.loop-turn.turn c.loop-turn-test.true in
    (rw t.shifted t.second, c.four-mid.ensures.found)

pub loop-turn-preserved : goal.loop-turn-preserved
loop-turn-preserved c =
    let l = c.loop-turn in
    let n = c.args.rest * 2 ^ 52 + 2 ^ 52 * 2 ^ 52 in
    let from = 4503599627370496 / 2 ^ (8 * l.turn) in
    let t = turns l.turn c.loop-turn-test.true in
    subst (λ (w : ℕ). Finer w n c.four-p.result) (ap (λ (w : ℕ). w / 16 / 16) t.shifted ∙ t.next)
    (subst (λ (m : ℕ). Finer (from / 16 / 16) m c.four-p.result) (c.four-mid.ensures.same ∙ ap (λ (w : ℕ). number w l.p) t.shifted ∙ l.invariant.same) c.four-p.ensures)

-- after the last turn
last : (k n : ℕ) (p : Partial) → k ≤ 6 → 6 ≤ k → Finer (weight k) n p → Finer 16 n p
last k n p h l f =
    let e : k ≡ 6 = omega arith in
    subst (λ (j : ℕ). Finer (weight j) n p) e f

pub four-requires : goal.four-requires
four-requires c = let l = c.loop-turn in (refl, (last l.turn _ l.p l.auto.turn-end c.loop-turn-test.false l.invariant).found)

pub returns : goal.returns
returns c =
    let l = c.loop-turn in
    subst (λ (m : ℕ). Finer 1 m c.four.result) (last l.turn _ l.p l.auto.turn-end c.loop-turn-test.false l.invariant).same c.four.ensures
