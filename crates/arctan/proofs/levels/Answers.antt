-- `arctan::levels` meets its contract. h is at most 2 ^ 60, and y of it at most the coefficient before it (proofs/Bounds.antt). Assumes nothing.
use Rattle.std.proofs.Common.{◌≡◌, ℕ, suc, ◌+◌, ◌-◌, ◌^◌, ◌<◌, ◌≤◌, List, ◌∷◌, length, get_or, take, drop, reverse, ◌∙◌, ap, arith, lit≤, drop-cons}
use Rattle.std.proofs.lemmas.Iterator.Adapters.{YieldsList-from_rev_slice}
use Rattle.std.proofs.lemmas.Iterator.Consumers.{YieldsList-turn}
use Rattle.std.proofs.lemmas.List.{length_push, length-reverse, length-drop, length-take-le, get_or-reverse, get_or-take, get_or-drop, get_or_default}
use Rattle.arctan.specs.Whole.{product, nested, reciprocals}
use Rattle.arctan.proofs.Table.{from as from-on}
use Rattle.arctan.proofs.Bounds.{nested_one, taken}
use Rattle.arctan.proofs.levels.Goals as goal

enough : 24 ≤ length reciprocals
unfolding reciprocals
enough = lit≤ tt

-- the coefficients from one before the k-th on
before : (k : ℕ) → 0 < k → k ≤ 24 → drop (k - 1) reciprocals ≡ get_or reciprocals (k - 1) 0 ∷ drop k reciprocals
before k p q =
    let e : suc (k - 1) ≡ k = omega arith in
    rw e at (drop-cons reciprocals (k - 1) 0 (omega (arith, enough)))

-- the coefficients that the loop goes over, from the last one on
abbrev part : ℕ → ℕ → List ℕ
part to from = take (from - to) (drop to reciprocals)

-- and c, the n-th of them
module _ (to from n c : ℕ) (p : to ≤ from) (q : from ≤ 24) (t : (n < length (reverse (part to from))) × (c ≡ get_or (reverse (part to from)) n c)) where
  whole : length (part to from) ≡ from - to
  whole = length-take-le (from - to) (drop to reciprocals) (omega (arith, length-drop to reciprocals, enough))

  within : n < from - to
  within = omega (arith, t.0, length-reverse (part to from), whole)

  place : c ≡ get_or reciprocals (from - n - 1) 0
  place =
      let i : length (part to from) - 1 - n < from - to = omega (arith, whole, within) in
      let j : to + (length (part to from) - 1 - n) ≡ from - n - 1 = omega (arith, whole, within) in
      t.1
      ∙ get_or-reverse (part to from) n c (omega (arith, whole, within))
      ∙ get_or-take (from - to) (drop to reciprocals) (length (part to from) - 1 - n) c i
      ∙ get_or-drop to reciprocals (length (part to from) - 1 - n) c
      ∙ ap (λ (k : ℕ). get_or reciprocals k c) j
      ∙ get_or_default reciprocals (from - n - 1) c 0 (omega (arith, enough, within))

  here : drop (from - n - 1) reciprocals ≡ c ∷ drop (from - n) reciprocals
  here = rw place (before (from - n) (omega (arith, within)) (omega arith))

  module _ (y h : ℕ) (e : h ≡ nested y (drop (from - n) reciprocals)) where
    turn : c - product y h ≡ nested y (drop (from - (n + 1)) reciprocals)
    unfolding nested
    turn =
        let next : from - (n + 1) ≡ from - n - 1 = omega arith in
        rw (next, here, ← e)

    room : y ≤ 2 ^ 59 → product y h ≤ c
    room Y = rw e (taken y (omega (arith, within)) (rw here at (from-on (from - n - 1))))

pub product-requires : goal.product-requires
product-requires c =
    let l = c.loop-c in
    (c.requires.0, rw l.invariant.0 (nested_one c.args.y (from-on (c.args.from - length l.yielded))))

pub overflow_sub-h : goal.overflow_sub-h
unfolding reciprocals
overflow_sub-h c =
    let l = c.loop-c in
    let t = YieldsList-turn (YieldsList-from_rev_slice (part c.args.to c.args.from) cc) l.yielded _ l.yielded_by _ _ c.in-Some.c c.in-Some.is c.next.ensures.steps in
    rw c.product.ensures (room c.args.to c.args.from (length l.yielded) c.in-Some.c.now c.requires.1 c.requires.2 t c.args.y l.h l.invariant.0 c.requires.0)

-- the coefficient that the code reads is the definition's, so the turn gives the definition's next sum, and what it takes off is there
pub loop-c-preserved : goal.loop-c-preserved
unfolding reciprocals
loop-c-preserved c =
    let l = c.loop-c in
    let t = YieldsList-turn (YieldsList-from_rev_slice (part c.args.to c.args.from) cc) l.yielded _ l.yielded_by _ _ c.in-Some.c c.in-Some.is c.next.ensures.steps in
    (rw (length_push l.yielded c.in-Some.c, c.product.ensures) (turn c.args.to c.args.from (length l.yielded) c.in-Some.c.now c.requires.1 c.requires.2 t c.args.y l.h l.invariant.0), tt, tt)
