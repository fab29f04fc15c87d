-- `arctan::refined` meets its contract. Assumes nothing.
use Rattle.std.proofs.Common.{◌≡◌, ℕ, suc, ◌+◌, ◌-◌, ◌<◌, ◌≤◌, refl, ap, ◌∙◌, le_trans, add-one, arith}
use Rattle.arctan.specs.Tangent.{nearer, rounds, refined}
use Rattle.arctan.proofs.Newton.{highs_few, start, next}
use Rattle.arctan.proofs.refined.Goals as goal

-- one round more
turn : (k n w : ℕ) → k < rounds → refined (rounds - k) n w ≡ refined rounds n n → refined (rounds - (k + 1)) n (nearer n w) ≡ refined rounds n n
unfolding refined
turn k n w h e =
    let s : rounds - k ≡ suc (rounds - (k + 1)) = omega arith in
    rw s at e

-- no round left
done : (k n w : ℕ) → rounds ≤ k → refined (rounds - k) n w ≡ refined rounds n n → w ≡ refined rounds n n
unfolding refined
done k n w h e =
    let s : rounds - k ≡ 0 = omega arith in
    rw s at e

pub loop-init : goal.loop-init
loop-init c = (refl, start c.args.n c.requires)

pub nearer-w-requires : goal.nearer-w-requires
nearer-w-requires c =
    let l = c.loop in
    (omega (arith, c.requires), le_trans l.invariant.1.most (highs_few l.counter))

pub loop-preserved : goal.loop-preserved
loop-preserved c =
    let l = c.loop in
    let k = l.counter in
    let left = c.loop-test.true in
    let e = c.nearer-w.ensures in (
      ap (λ (w : ℕ). refined (rounds - (k + 1)) c.args.n w) e ∙ turn k c.args.n l.w left l.invariant.0,
      rw (add-one k, e) (next k left l.invariant.1),
    )

pub returns : goal.returns
returns c = let l = c.loop in done l.counter c.args.n l.w c.loop-test.false l.invariant.0
