-- What `forward` needs on its way: which definition's case each test chooses (`is_tiny` .. `is_far`), and that the series is asked of a number from 0 to 1/2 (`ready-..`). Assumes nothing.
use Rattle.std.proofs.Common.{◌≡◌, ◌+◌, ◌-◌, Bool, true, false, cond, not, T, sym, ap, ◌∙◌, subst}
use mathlib.Core.Bool.{false≢true}
use lib.Ieee.{Float, nan, inf, fin, binary64, fits, lt, le, of_bits}
use lib.Ieee.Scale.{finite}
use Rattle.exact.specs.F64.{f64, ◌⊕◌, ◌⊖◌, ◌⊘◌}
use Rattle.exact.specs.Fraction.{exactly, whole, ◌≼◌}
use Rattle.exact.proofs.Fractions.{le-≼}
use Rattle.arctan.specs.Whole.{quarter, half}
use Rattle.arctan.specs.Arctangent.{Countable, angle, back, one, forward, tiny, two_fifths, five_halves}
use Rattle.arctan.proofs.Near.{at_zero, finite_zero, itself, second, third, fourth}
use Rattle.arctan.proofs.Reduced.{infinite_near}
use Rattle.arctan.proofs.Pieces.{countable}

-- ---- a number, by a test
finite_lt : (x y : Float) → T (le (f64 0) x) → lt x y ≡ true → T (finite x)
unfolding lt le of_bits
finite_lt nan y h t = absurd h
finite_lt (inf true) y h t = absurd h
finite_lt (inf false) nan h t = absurd (false≢true t)
finite_lt (inf false) (inf s) h t = absurd (false≢true t)
finite_lt (inf false) (fin s m e) h t = absurd (false≢true t)
finite_lt (fin s m e) y h t = tt

finite_le_one : (x : Float) → T (le (f64 0) x) → le x one ≡ true → T (finite x)
unfolding le of_bits
finite_le_one nan h t = absurd h
finite_le_one (inf true) h t = absurd h
finite_le_one (inf false) h t = absurd (false≢true t)
finite_le_one (fin s m e) h t = tt

not_negative : (x : Float) → T (le (f64 0) x) → T (finite x) → whole 0 ≼ exactly x
not_negative x h n = rw at_zero at ((le-≼ (f64 0) x finite_zero n).0 h)

holds : {b : Bool} → b ≡ true → T b
holds e = subst T (sym e) tt

fails : {b : Bool} → b ≡ false → T (not b)
fails e = subst (λ (t : Bool). T (not t)) (sym e) tt

-- ---- by the tests, for an x that is not negative and no NaN
module _ (x : Float) (f : T (fits binary64 x)) (h : T (le (f64 0) x)) where
  pub ready_first : lt x two_fifths ≡ true → Countable x
  ready_first t = let n = finite_lt x two_fifths h t in countable (itself x f n (not_negative x h n) (holds t))

  pub ready_second : lt x two_fifths ≡ false → le x one ≡ true → Countable ((one ⊖ x) ⊘ (one ⊕ x))
  ready_second s t = let n = finite_le_one x h t in countable (second x f n (not_negative x h n) (fails s) (holds t))

  pub ready_fourth : le x one ≡ false → lt x five_halves ≡ true → Countable ((x ⊖ one) ⊘ (x ⊕ one))
  ready_fourth s t = let n = finite_lt x five_halves h t in countable (third x f n (not_negative x h n) (fails s) (holds t))

not_nan : T (le (f64 0) nan) → ⊥
unfolding le of_bits
not_nan h = h

not_minus : T (le (f64 0) (inf true)) → ⊥
unfolding le of_bits
not_minus h = h

pub ready_far : (x : Float) → T (fits binary64 x) → T (le (f64 0) x) → lt x five_halves ≡ false → Countable (one ⊘ x)
ready_far nan f h t = absurd (not_nan h)
ready_far (inf true) f h t = absurd (not_minus h)
ready_far (inf false) f h t = countable infinite_near
ready_far (fin b m e) f h t = countable (fourth (fin b m e) f tt (not_negative (fin b m e) h tt) (fails t))

-- ---- which case it is
module _ (x : Float) where
  abbrev z1 : Float
  z1 = back (quarter - angle ((one ⊖ x) ⊘ (one ⊕ x)))

  abbrev z2 : Float
  z2 = back (quarter + angle ((x ⊖ one) ⊘ (x ⊕ one)))

  abbrev z3 : Float
  z3 = back (half - angle (one ⊘ x))

  pub is_tiny : lt x tiny ≡ true → x ≡ forward x
  unfolding forward
  is_tiny a = sym (ap (λ (t : Bool). cond t x (cond (lt x two_fifths) (back (angle x)) (cond (le x one) z1 (cond (lt x five_halves) z2 z3)))) a)

  past_tiny : lt x tiny ≡ false → forward x ≡ cond (lt x two_fifths) (back (angle x)) (cond (le x one) z1 (cond (lt x five_halves) z2 z3))
  unfolding forward
  past_tiny a = ap (λ (t : Bool). cond t x (cond (lt x two_fifths) (back (angle x)) (cond (le x one) z1 (cond (lt x five_halves) z2 z3)))) a

  pub is_first : lt x tiny ≡ false → lt x two_fifths ≡ true → back (angle x) ≡ forward x
  is_first a b = sym (past_tiny a ∙ ap (λ (t : Bool). cond t (back (angle x)) (cond (le x one) z1 (cond (lt x five_halves) z2 z3))) b)

  past_first : lt x tiny ≡ false → lt x two_fifths ≡ false → forward x ≡ cond (le x one) z1 (cond (lt x five_halves) z2 z3)
  past_first a b = past_tiny a ∙ ap (λ (t : Bool). cond t (back (angle x)) (cond (le x one) z1 (cond (lt x five_halves) z2 z3))) b

  pub is_second : lt x tiny ≡ false → lt x two_fifths ≡ false → le x one ≡ true → z1 ≡ forward x
  is_second a b c = sym (past_first a b ∙ ap (λ (t : Bool). cond t z1 (cond (lt x five_halves) z2 z3)) c)

  past_second : lt x tiny ≡ false → lt x two_fifths ≡ false → le x one ≡ false → forward x ≡ cond (lt x five_halves) z2 z3
  past_second a b c = past_first a b ∙ ap (λ (t : Bool). cond t z1 (cond (lt x five_halves) z2 z3)) c

  pub is_fourth : lt x tiny ≡ false → lt x two_fifths ≡ false → le x one ≡ false → lt x five_halves ≡ true → z2 ≡ forward x
  is_fourth a b c d = sym (past_second a b c ∙ ap (λ (t : Bool). cond t z2 z3) d)

  pub is_far : lt x tiny ≡ false → lt x two_fifths ≡ false → le x one ≡ false → lt x five_halves ≡ false → z3 ≡ forward x
  is_far a b c d = sym (past_second a b c ∙ ap (λ (t : Bool). cond t z2 z3) d)
