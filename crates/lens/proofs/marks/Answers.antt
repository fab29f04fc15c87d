-- `lens::marks` meets its contract. The loop's invariant: both sums are marks, and they and the numbers from i on decide. Assumes nothing.
use mathlib.Core.Path.{◌≡◌, refl, sym, ap, ◌∙◌}
use mathlib.Core.Bool.{Bool, true, false, ◌&&◌}
use mathlib.Core.List.{List}
use Prim.Native.Nat.{ℕ, ◌+◌, ◌≤◌, ◌<◌}
use native.Mathlib.Numerals.{add-one}
use native.Mathlib.Omega.{arith}
use borrow.Author.Rules.{rules}
use lib.Ieee.{Float, nan}
use lib.Ieee.Scale.{finite}
use lib.ListN.{length, get_or, drop, drop_of_length-le}
use lib.Seq.{drop-cons}
use Rattle.exact.specs.F64.{◌⊕◌, mark}
use Rattle.exact.proofs.Marks.{marks_add}
use Rattle.lens.specs.Finite.{all_finite}
use Rattle.lens.proofs.marks.Invariants.{Sums}
use Rattle.lens.proofs.marks.Goals as goal

-- a number's mark added to a sum
added : (a : Bool) (s r x : Float) → s ≡ mark a → r ≡ mark (finite x) → s ⊕ r ≡ mark (a && finite x)
added a s r x p q = rw (p, q) (marks_add a (finite x))

-- the numbers from i on are the i-th and those behind it
first : (l : List Float) (i j : ℕ) → i + 1 ≡ j → i < length l → all_finite (drop i l) ≡ (finite (get_or l i nan) && all_finite (drop j l))
unfolding all_finite
first l i j e h = rw (← e, add-one, drop-cons l i nan) refl

none : (l : List Float) (i : ℕ) → length l ≤ i → all_finite (drop i l) ≡ true
unfolding all_finite
none l i h = rw (drop_of_length-le l h) refl

crossed : (a b x y t : Bool) → (((a && x) && (b && y)) && t) ≡ ((a && b) && (x && (y && t)))
crossed true true true y t = refl
crossed true true false y t = refl
crossed true false true y t = refl
crossed true false false y t = refl
crossed false b x y t = refl

last : (a b x : Bool) → ((a && x) && b) ≡ ((a && b) && (x && true))
last true true true = refl
last true true false = refl
last true false true = refl
last true false false = refl
last false b x = refl

all : (a : Bool) → a ≡ (a && true)
all true = refl
all false = refl

begun : (l : List Float) → Sums l 0 (mark true) (mark true)
begun l = record { a = true; b = true; left_is = refl; right_is = refl; rest = refl }

two : (l : List Float) (i : ℕ) (s t p q : Float) → i + 1 < length l → p ≡ mark (finite (get_or l i nan)) → q ≡ mark (finite (get_or l (i + 1) nan)) → Sums l i s t → Sums l (i + 2) (s ⊕ p) (t ⊕ q)
two l i s t p q h e f v = record {
  a = v.a && finite (get_or l i nan);
  b = v.b && finite (get_or l (i + 1) nan);
  left_is = added v.a s p (get_or l i nan) v.left_is e;
  right_is = added v.b t q (get_or l (i + 1) nan) v.right_is f;
  rest =
      crossed v.a v.b (finite (get_or l i nan)) (finite (get_or l (i + 1) nan)) (all_finite (drop (i + 2) l))
      ∙ ap (λ (r : Bool). (v.a && v.b) && r) (sym (first l i (i + 1) refl (omega arith) ∙ ap (λ (r : Bool). finite (get_or l i nan) && r) (first l (i + 1) (i + 2) (omega arith) h)))
      ∙ v.rest;
}

ends : (l : List Float) (i : ℕ) (s t p : Float) → i < length l → length l ≤ i + 1 → p ≡ mark (finite (get_or l i nan)) → Sums l i s t → s ⊕ p ⊕ t ≡ mark (all_finite l)
ends l i s t p h k e v =
    let x = finite (get_or l i nan) in
    rw (added v.a s p (get_or l i nan) v.left_is e, v.right_is)
    (marks_add (v.a && x) v.b
    ∙ ap mark (last v.a v.b x ∙ ap (λ (r : Bool). (v.a && v.b) && (x && r)) (sym (none l (i + 1) k)) ∙ ap (λ (r : Bool). (v.a && v.b) && r) (sym (first l i (i + 1) refl h)) ∙ v.rest))

ends_even : (l : List Float) (i : ℕ) (s t : Float) → length l ≤ i → Sums l i s t → s ⊕ t ≡ mark (all_finite l)
ends_even l i s t k v =
    rw (v.left_is, v.right_is)
    (marks_add v.a v.b ∙ ap mark (all (v.a && v.b) ∙ ap (λ (r : Bool). (v.a && v.b) && r) (sym (none l i k)) ∙ v.rest))

pub loop-i-init : goal.loop-i-init
unfolding mark
loop-i-init c = (search rules, begun _)

pub loop-i-preserved : goal.loop-i-preserved
loop-i-preserved c =
    let l = c.loop-i in
    let numbers = c.args.numbers.now in
    (omega arith, two numbers l.i l.left l.right c.mark-left.result c.mark-right.result (omega arith) c.mark-left.ensures c.mark-right.ensures l.invariant.1)

pub returns-then-i-numbers : goal.returns-then-i-numbers
returns-then-i-numbers c =
    let l = c.loop-i in
    let numbers = c.args.numbers.now in
    ends numbers l.i l.left l.right c.mark.result (omega arith) (omega arith) c.mark.ensures l.invariant.1

pub returns : goal.returns
returns c =
    let l = c.loop-i in
    ends_even c.args.numbers.now l.i l.left l.right (omega arith) l.invariant.1
