-- Which f64s the tests of `root` part: above zero, below it, and neither. Assumes nothing.
use mathlib.Core.Path.{◌≡◌, refl, sym, ap, ◌∙◌}
use mathlib.Core.Logic.{inl, inr}
use mathlib.Core.Bool.{true, false, not, true≢false, false≢true}
use Prim.Native.Nat.{zero, suc, ◌≤◌, ◌<◌}
use native.Mathlib.Nat.{eq-zero-or-pos, not-le_of_lt}
use lib.Dec.{T}
use lib.Ieee.{Float, nan, inf, fin, binary64, lt, of_bits, to_bits, fits, is_nan}
use lib.Ieee.Bits.{of_bits-to_bits}
use Rattle.exact.specs.F64.{f64}
use Rattle.exact.proofs.Tests.{below_zero, above_zero, plus_not_below, zero_not_below}
use Rattle.exact.proofs.Pattern.{finite_bits}
use Rattle.root.specs.Root.{root}

pub above_no_nan : (x : Float) → lt (f64 0) x ≡ true → T (not (is_nan x))
unfolding lt of_bits is_nan
above_no_nan nan h = absurd (false≢true h)
above_no_nan (inf s) h = tt
above_no_nan (fin s m e) h = tt

not_itself : lt (f64 0) (f64 0) ≡ false
unfolding lt of_bits
not_itself = refl

-- a pattern of a number above zero is not 0
pub above_bits : (x : Float) → T (fits binary64 x) → lt (f64 0) x ≡ true → 0 < to_bits binary64 x
above_bits x f h = elim (eq-zero-or-pos (to_bits binary64 x)) [
  | inl z ↦ absurd (false≢true (sym not_itself ∙ ap (lt (f64 0)) (sym (ap (of_bits binary64) z) ∙ of_bits-to_bits binary64 x f) ∙ h))
  | inr p ↦ p
]

-- the root of a number above zero whose pattern is no finite number's: infinity
pub above_all : (x : Float) → T (fits binary64 x) → lt (f64 0) x ≡ true → 0x7ff0_0000_0000_0000 ≤ to_bits binary64 x → x ≡ root x
unfolding lt of_bits root
above_all nan f h g = absurd (false≢true h)
above_all (inf true) f h g = absurd (false≢true h)
above_all (inf false) f h g = refl
above_all (fin true m e) f h g = absurd (false≢true h)
above_all (fin false m e) f h g = absurd (not-le_of_lt (finite_bits binary64 m e f) g)

-- ---- below zero
pub below : (x : Float) → lt x (f64 0) ≡ true → nan ≡ root x
unfolding lt of_bits root
below nan h = absurd (false≢true h)
below (inf true) h = refl
below (inf false) h = absurd (false≢true h)
below (fin true zero e) h = absurd (zero_not_below e h)
below (fin true (suc m) e) h = refl
below (fin false zero e) h = absurd (plus_not_below zero e h)
below (fin false (suc m) e) h = absurd (plus_not_below (suc m) e h)

-- ---- neither
pub neither : (x : Float) → lt (f64 0) x ≡ false → lt x (f64 0) ≡ false → x ≡ root x
unfolding lt of_bits root
neither nan h g = refl
neither (inf true) h g = absurd (true≢false g)
neither (inf false) h g = absurd (true≢false h)
neither (fin s zero e) h g = refl
neither (fin true (suc m) e) h g = absurd (true≢false (sym (below_zero m e) ∙ g))
neither (fin false (suc m) e) h g = absurd (true≢false (sym (above_zero m e) ∙ h))
