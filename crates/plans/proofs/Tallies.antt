-- The count of unsettled samples and the position of the first: what the test of a record says, and each sample keeps. Assumes nothing.
use mathlib.Core.Path.{◌≡◌, refl, sym, ap, ◌∙◌}
use mathlib.Core.Bool.{Bool, true, false, cond, not, false≢true, ◌&&◌, ◌||◌}
use Prim.Native.Nat.{ℕ, ◌+◌, ◌≤◌}
use native.Mathlib.Omega.{arith}
use borrow.Author.Tests.{leb-true, le-leb, eqb-true, eqb-false, eq-eqb, ne_eqb}
use lib.Dec.{leb, eqb}
use Rattle.border.proofs.Finite.{both}
use Rattle.plans.specs.Plan.{one_no, first_after}
use Rattle.plans.specs.Calls.{both_or_neither, tallied}

pub record Tallied (strict : Bool) (samples unsettled first : ℕ) : Type 0 where
  pub count : unsettled ≤ samples
  pub position : first ≤ samples
  pub some_first : unsettled ≡ 0 → first ≡ 0
  pub first_some : first ≡ 0 → unsettled ≡ 0
  pub none_strict : strict ≡ true → unsettled ≡ 0

-- ---- the test

agrees : (u f : ℕ) → (u ≡ 0 → f ≡ 0) → (f ≡ 0 → u ≡ 0) → both_or_neither (eqb u 0) (eqb f 0) ≡ true
agrees u f a b = go (eqb u 0) refl
  where
    go : (x : Bool) → eqb u 0 ≡ x → both_or_neither x (eqb f 0) ≡ true
    go true e = eq-eqb f 0 (a (eqb-true u 0 e))
    go false e = ap not (ne_eqb f 0 (λ q. eqb-false u 0 e (b q)))

agreed : (u f : ℕ) → both_or_neither (eqb u 0) (eqb f 0) ≡ true → (u ≡ 0 → f ≡ 0) × (f ≡ 0 → u ≡ 0)
agreed u f h = go (eqb u 0) refl (eqb f 0) refl h
  where
    go : (x : Bool) → eqb u 0 ≡ x → (y : Bool) → eqb f 0 ≡ y → both_or_neither x y ≡ true → (u ≡ 0 → f ≡ 0) × (f ≡ 0 → u ≡ 0)
    go true e true g k = (λ q. eqb-true f 0 g, λ q. eqb-true u 0 e)
    go true e false g k = absurd (false≢true k)
    go false e true g k = absurd (false≢true k)
    go false e false g k = (λ q. absurd (eqb-false u 0 e q), λ q. absurd (eqb-false f 0 g q))

module _ (strict : Bool) (samples unsettled first : ℕ) where
  pub then_tallied : Tallied strict samples unsettled first → tallied strict samples unsettled first ≡ true
  then_tallied t =
      rw (le-leb unsettled samples t.count, le-leb first samples t.position, agrees unsettled first t.some_first t.first_some)
      (last strict refl)
    where
      last : (b : Bool) → strict ≡ b → (not b || eqb unsettled 0) ≡ true
      last true e = eq-eqb unsettled 0 (t.none_strict e)
      last false e = refl

  pub is_tallied : tallied strict samples unsettled first ≡ true → Tallied strict samples unsettled first
  is_tallied h =
      let a = both (leb unsettled samples) _ h in
      let b = both (leb first samples) _ a.1 in
      let c = both (both_or_neither (eqb unsettled 0) (eqb first 0)) _ b.1 in
      let d = agreed unsettled first c.0 in
      record {
        count = leb-true unsettled samples a.0;
        position = leb-true first samples b.0;
        some_first = d.0;
        first_some = d.1;
        none_strict = λ e. eqb-true unsettled 0 (sym (ap (λ (b : Bool). not b || eqb unsettled 0) e) ∙ c.1);
      }

  -- ---- one more sample

  lax : (b : Bool) → (b && true) ≡ false → b ≡ true → ⊥
  lax true h e = false≢true (sym h)
  lax false h e = false≢true e

  pub one_more_tallied :
      (flag : Bool) → (strict && not flag) ≡ false → Tallied strict samples unsettled first
      → Tallied strict (samples + 1) (unsettled + one_no flag) (first_after samples first flag)
  one_more_tallied true s t = go (eqb first 0) refl
    where
      go : (z : Bool) → eqb first 0 ≡ z → Tallied strict (samples + 1) (unsettled + 0) (cond z 0 first)
      go true e = record {
        count = omega (arith, t.count);
        position = omega arith;
        some_first = λ q. refl;
        first_some = λ q. omega (arith, t.first_some (eqb-true first 0 e));
        none_strict = λ q. omega (arith, t.none_strict q);
      }
      go false e = record {
        count = omega (arith, t.count);
        position = omega (arith, t.position);
        some_first = λ q. t.some_first (omega (arith, q));
        first_some = λ q. absurd (eqb-false first 0 e q);
        none_strict = λ q. omega (arith, t.none_strict q);
      }
  one_more_tallied false s t = go (eqb first 0) refl
    where
      go : (z : Bool) → eqb first 0 ≡ z → Tallied strict (samples + 1) (unsettled + 1) (cond z (samples + 1) first)
      go true e = record {
        count = omega (arith, t.count);
        position = omega arith;
        some_first = λ q. absurd (omega (arith, q));
        first_some = λ q. absurd (omega (arith, q));
        none_strict = λ q. absurd (lax strict s q);
      }
      go false e = record {
        count = omega (arith, t.count);
        position = omega (arith, t.position);
        some_first = λ q. absurd (omega (arith, q));
        first_some = λ q. absurd (eqb-false first 0 e q);
        none_strict = λ q. absurd (lax strict s q);
      }

pub at_most_one : (flag : Bool) → one_no flag ≤ 1
at_most_one true = omega arith
at_most_one false = omega arith
