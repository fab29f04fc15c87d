-- A guess that passes its test lies within 2 ^ -44 of the angle (`guess_leads`): between theta - 2 ^ -46 and theta + 2 ^ -46, each rounded once, lies its arctangent. Assumes nothing.
use Rattle.std.proofs.Common.{◌≡◌, zero, suc, ◌^◌, Bool, true, false, ◌&&◌, T, sym, refl, subst, lit≤}
use mathlib.Core.Bool.{false≢true}
use lib.Ieee.{Float, nan, inf, fin, binary64, fits, lt, le, eq, of_bits}
use lib.Ieee.Scale.{finite}
use Rattle.exact.specs.F64.{f64, ◌⊕◌, ◌⊖◌}
use Rattle.exact.specs.Fraction.{Fraction, Proper, Within, over, exactly, opposite, ◌≼◌, ◌≺◌, ◌⊞◌, ◌⊟◌}
use Rattle.exact.proofs.Fractions.{over_proper, exactly_proper, ⊞-proper, ⊟-proper, ≼_trans, ≼-≺-trans, ≺-≼-trans, ≺→≼, ≺-not-≼, ≼_refl, ⊞-mono, ⊟-mono, ⊞-assoc, ⊞-left-comm, move, lt-≺, le-≼, within_sym, within_trans, within_wider}
use Rattle.exact.proofs.Tests.{below_zero, plus_not_below, zero_not_below}
use Rattle.arctan.specs.Series.{A, tangent_bound, limit}
use Rattle.arctan.specs.Owed.{Leads}
use Rattle.arctan.specs.Arctangent.{arctangent}
use Rattle.arctan.specs.Tangent.{near, close, Between}
use Rattle.arctan.proofs.Rounds.{plain, plain_finite, plain_low, above_plain, over-≺, PlainNear, sum_near, difference_near}
use Rattle.arctan.proofs.Pieces.{u, unit_proper}
use Rattle.arctan.proofs.Near.{Good, at_zero, finite_zero, forward_finite, when_not_below, same_itself, not_below}

-- ---- the arctangent of a number that is not negative, more closely than the contract says
not_lt : (x : Float) → T (finite x) → T (le (f64 0) x) → lt x (f64 0) ≡ false
not_lt nan n h = absurd n
not_lt (inf s) n h = absurd n
not_lt (fin true zero e) n h = not_below (fin true 0 e) (zero_not_below e)
not_lt (fin true (suc m) e) n h = absurd (≺-not-≼ ((lt-≺ (fin true (suc m) e) (f64 0) tt finite_zero).0 (subst T (sym (below_zero m e)) tt)) ((le-≼ (f64 0) (fin true (suc m) e) finite_zero tt).0 h))
not_lt (fin false m e) n h = not_below (fin false m e) (plus_not_below m e)

itself : (x : Float) → T (finite x) → eq x x ≡ true
itself nan n = absurd n
itself (inf s) n = absurd n
itself (fin s m e) n = same_itself s m e

arctangent_good : (x : Float) → T (fits binary64 x) → T (finite x) → T (le (f64 0) x) → Good (A (exactly x)) (arctangent x)
arctangent_good x f n h =
    subst (λ (r : Float). Good (A (exactly x)) r) (sym (when_not_below x (not_lt x n h) (itself x n)))
    (forward_finite x f n (rw at_zero at ((le-≼ (f64 0) x finite_zero n).0 h)))

-- ---- what the test says
both_true : (b c : Bool) → (b && c) ≡ true → (b ≡ true) × (c ≡ true)
both_true true c h = (refl, h)
both_true false c h = absurd (false≢true h)

pub record Passed (t theta : Float) : Type 0 where
  pub number : T (finite t)
  pub side : T (le (f64 0) t)
  pub above : T (lt (theta ⊖ near) (arctangent t))
  pub under : T (lt (arctangent t) (theta ⊕ near))

holds : {b : Bool} → b ≡ true → T b
holds e = subst T (sym e) tt

pub passed : (t theta : Float) → close t theta ≡ true → Passed t theta
unfolding close
passed t theta h =
    let c = both_true (finite t && le (f64 0) t && lt (theta ⊖ near) (arctangent t)) (lt (arctangent t) (theta ⊕ near)) h in
    let b = both_true (finite t && le (f64 0) t) (lt (theta ⊖ near) (arctangent t)) c.0 in
    let a = both_true (finite t) (le (f64 0) t) b.0 in
    record { number = holds a.0; side = holds a.1; above = holds b.1; under = holds c.1 }

-- ---- where the tests stand
near_plain : T (plain near)
unfolding of_bits
near_plain = tt

pub limit_proper : Proper limit
unfolding over
limit_proper = record { above = lit≤ tt }

-- what the arctangent is off by is less than the tangent may be
pub bound : u 1129 ≼ tangent_bound
unfolding over
bound = record { holds = lit≤ tt }

-- what lies between a rounded sum and a rounded difference
around : {a s d : Fraction} (theta n e : Fraction) → Proper a → Proper theta → Proper e → a ≼ s → d ≼ a → Within e s (theta ⊞ n) → Within e d (theta ⊟ n) → Within (n ⊞ e) a theta
around {a} {s} {d} theta n e pa pt pe h l v w = record {
  left = pa;
  right = pt;
  not_above = (move a theta (n ⊞ e)).1 (rw (⊞-assoc theta n e) at (≼_trans v.left h ((move s (theta ⊞ n) e).0 v.not_above)));
  not_below = (move theta a (n ⊞ e)).1 (rw (⊞-left-comm n a e) at ((move theta n (a ⊞ e)).0 (≼_trans (⊞-proper w.left pe) ((move (theta ⊟ n) d e).0 w.not_below) (⊞-mono l (≼_refl e)))));
}

-- the bound covers the test, its rounding and the arctangent's own error
in_all : u 1129 ⊞ (exactly near ⊞ over (2 ^ 2) (2 ^ 55)) ≼ tangent_bound
unfolding of_bits exactly over ◌⊞◌
in_all = record { holds = lit≤ tt }

near_tiny : exactly near ≼ over 1 (2 ^ 20)
unfolding of_bits exactly over
near_tiny = record { holds = lit≤ tt }

step_proper : Proper (over (2 ^ 2) (2 ^ 55))
step_proper = over_proper (2 ^ 2) (2 ^ 55) (lit≤ tt)

more_under : {a : Fraction} → Proper a → a ≼ limit → a ⊞ exactly near ≺ over (2 ^ 2) 2
more_under p h = ≼-≺-trans (⊞-proper p (exactly_proper near)) (⊞-mono h (≼_refl (exactly near))) (unfold of_bits exactly over ◌⊞◌ in record { holds = lit≤ tt })

less_under : {a : Fraction} → Proper a → a ≼ limit → a ⊟ exactly near ≺ over (2 ^ 2) 2
less_under p h = ≼-≺-trans (⊟-proper p (exactly_proper near)) (⊟-mono h (plain_low near near_plain)) (unfold over ◌⊞◌ opposite in record { holds = lit≤ tt })

module _ (t theta : Float) (b : Between theta) (f : T (fits binary64 t)) (p : Passed t theta) where
  good : Good (A (exactly t)) (arctangent t)
  good = arctangent_good t f p.number p.side

  flat : T (plain theta)
  flat = above_plain theta b.number (≺-≼-trans (exactly_proper theta) ((over-≺ 0 1 1 (2 ^ 20)).1 (lit≤ tt)) b.low)

  sum : PlainNear (theta ⊕ near) (over (2 ^ 2) (2 ^ 55)) (exactly theta ⊞ exactly near)
  sum = sum_near theta near 2 flat near_plain (lit≤ tt) (more_under (exactly_proper theta) b.high)

  difference : PlainNear (theta ⊖ near) (over (2 ^ 2) (2 ^ 55)) (exactly theta ⊟ exactly near)
  difference = difference_near theta near 2 flat near_plain (lit≤ tt)
      (≼_trans (over_proper 1 (2 ^ 20) (lit≤ tt)) near_tiny b.low) (less_under (exactly_proper theta) b.high)

  pub guess_leads : Leads false (exactly theta) t
  guess_leads = record {
    number = p.number;
    side = rw at_zero at ((le-≼ (f64 0) t finite_zero p.number).0 p.side);
    within = within_wider (⊞-proper (unit_proper 1129) (⊞-proper (exactly_proper near) step_proper)) in_all (within_trans (within_sym good.1)
        (around (exactly theta) (exactly near) (over (2 ^ 2) (2 ^ 55)) (exactly_proper (arctangent t)) (exactly_proper theta) step_proper
        (≺→≼ ((lt-≺ (arctangent t) (theta ⊕ near) good.0 (plain_finite (theta ⊕ near) sum.plain)).0 p.under))
        (≺→≼ ((lt-≺ (theta ⊖ near) (arctangent t) (plain_finite (theta ⊖ near) difference.plain) good.0).0 p.above))
        sum.near difference.near));
  }
