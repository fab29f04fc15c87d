-- `brown_conrady::past` meets its contract: numbers are past the bound exactly where they aren't at most it, and a NaN is neither. Assumes nothing.
use mathlib.Core.Path.{◌≡◌, refl, sym, ap, ◌∙◌, subst}
use mathlib.Core.Logic.{inl, inr}
use mathlib.Core.Bool.{Bool, true, false, not, ◌&&◌}
use lib.Dec.{T}
use lib.Ieee.{Float, nan, inf, fin, lt, le, is_nan, of_bits}
use lib.Ieee.Scale.{finite}
use Rattle.exact.specs.F64.{f64}
use Rattle.exact.specs.Fraction.{exactly}
use Rattle.exact.proofs.Fractions.{≺-not-≼, ≼-or-≺, lt-≺, le-≼}
use Rattle.lens.specs.Radius.{squared_radius}
use Rattle.brown_conrady.proofs.NoRoot.{last_bits, no_root}
use Rattle.brown_conrady.proofs.past.Goals as goal

abbrev last : Float
last = f64 last_bits

last_finite : T (finite last)
unfolding of_bits
last_finite = tt

numbers : (x : Float) → T (finite x) → lt last x ≡ not (le x last)
numbers x p = go (lt last x) (le x last) refl refl
  where
    go : (a b : Bool) → lt last x ≡ a → le x last ≡ b → a ≡ not b
    go true false e f = refl
    go false true e f = refl
    go true true e f = absurd (≺-not-≼ ((lt-≺ last x last_finite p).0 (subst T (sym e) tt)) ((le-≼ x last p last_finite).0 (subst T (sym f) tt)))
    go false false e f = elim (≼-or-≺ (exactly x) (exactly last)) [
      | inl h ↦ absurd (subst T f ((le-≼ x last p last_finite).1 h))
      | inr h ↦ absurd (subst T e ((lt-≺ last x last_finite p).1 h))
    ]

apart : (x : Float) → lt last x ≡ (not (is_nan x) && not (le x last))
apart nan = unfold lt is_nan of_bits in refl
apart (inf true) = unfold lt le is_nan of_bits in refl
apart (inf false) = unfold lt le is_nan of_bits in refl
apart (fin s m e) = numbers (fin s m e) tt ∙ unfold is_nan in refl

pub returns : goal.returns
returns c =
    let o = c.args.offset in
    let norm = squared_radius o.0 o.1 in
    ap (lt last) c.squared_radius.ensures ∙ apart norm ∙ ap (λ (b : Bool). not (is_nan norm) && not b) (sym (no_root o.0 o.1))
