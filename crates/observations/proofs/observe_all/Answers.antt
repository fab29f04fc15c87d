-- `observations::observe_all` meets its contract. Assumes nothing.
use mathlib.Core.Path.{◌≡◌, ap, ◌∙◌}
use mathlib.Core.List.{List}
use Prim.Native.Nat.{ℕ, ◌+◌, ◌<◌}
use native.Mathlib.Numerals.{add-one}
use native.Mathlib.Omega.{arith}
use lib.ListN.{length, get_or, set}
use Rattle.observations.specs.Observations.{refusal_of, listed, rounds, seen}
use Rattle.observations.proofs.Pass.{upto, upto_next}
use Rattle.observations.proofs.Written.{rounds_most, written}
use Rattle.observations.proofs.observe_all.Goals as goal

-- a turn: record i of ys, of which the first i are seen, becomes r
one_more :
    {X : Type 0} (g : X → X) (d : X) (xs ys : List X) (i : ℕ) (r : X) →
    ys ≡ upto g i xs →
    r ≡ g (get_or ys i d) →
    i < length xs →
    set ys i r ≡ upto g (i + 1) xs
one_more g d xs ys i r so_far is inside = rw (is, so_far, add-one i) (upto_next g i xs d inside)

pub loop-i-preserved : goal.loop-i-preserved
loop-i-preserved c =
    let xs = c.args.list.now in
    let inside : c.loop-i.i < length xs = omega (arith, c.loop-i-test.true, c.rounds-n.ensures, rounds_most c.refusal_of-number.result (length xs)) in
    record { within = omega arith; so_far = one_more (seen c.args.camera) _ xs _ _ _ c.loop-i.invariant.so_far c.seen.ensures inside }

pub returns : goal.returns
returns c =
    let camera = c.args.camera in
    let xs = c.args.list.now in
    let at_end : c.loop-i.i ≡ c.rounds-n.result = omega arith in
    let turns = at_end ∙ c.rounds-n.ensures ∙ ap (λ (m : ℕ). rounds m (length xs)) c.refusal_of-number.ensures in
    let list = c.loop-i.invariant.so_far ∙ ap (λ (i : ℕ). upto (seen camera) i xs) turns ∙ written camera xs in
    ap (λ (m : ℕ). listed m c.loop-i.list) c.refusal_of-number.ensures ∙ ap (listed (refusal_of camera)) list
