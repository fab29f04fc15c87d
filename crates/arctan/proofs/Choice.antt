-- Which way a definition goes, by its tests: the tests of `close`, `lower`, `solved`, `steep` and `tangent`. Assumes nothing.
use Rattle.std.proofs.Common.{◌≡◌, Bool, true, false, cond, not, ◌&&◌, T, sym, refl, ap, ◌∙◌, subst}
use lib.Ieee.{Float, nan, lt, le, neg}
use lib.Ieee.Scale.{finite}
use Rattle.exact.specs.F64.{f64, magnitude, ◌⊕◌, ◌⊖◌, ◌⊘◌}
use Rattle.arctan.specs.Arctangent.{one, counted, arctangent, tiny}
use Rattle.arctan.specs.Tangent.{near, close, sine, cosine, solution, ratio, leaving, seam, quarter_end, half_end, unity, two_fifths_cut, three_sevenths_cut, lower, solved, steep, limit_end, tangent}
use Rattle.std.specs.Prelude.{Option, Some, None}

pub yes_way : {X : Type 0} {b : Bool} (x y : X) → b ≡ true → cond b x y ≡ x
yes_way x y e = ap (λ (t : Bool). cond t x y) e

pub no_way : {X : Type 0} {b : Bool} (x y : X) → b ≡ false → cond b x y ≡ y
no_way x y e = ap (λ (t : Bool). cond t x y) e

pub so : {b : Bool} → b ≡ true → T b
so e = subst T (sym e) tt

pub so_not : {b : Bool} → b ≡ false → T (not b)
so_not e = subst (λ (c : Bool). T (not c)) (sym e) tt

-- ---- close
pub close_so : (t theta : Float) {n z l : Bool} {r : Float}
    → n ≡ finite t → z ≡ le (f64 0) t → r ≡ arctangent t → l ≡ lt (theta ⊖ near) r → (n && z && l && lt r (theta ⊕ near)) ≡ close t theta
unfolding close
close_so t theta n z r l = rw (l, n, z, r) refl

-- ---- lower and solved
pub lower_first : (x : Float) → lt x seam ≡ true → ratio (solution two_fifths_cut (counted x)) unity ≡ lower x
unfolding lower
lower_first x h = sym (yes_way (ratio (solution two_fifths_cut (counted x)) unity) (leaving (solution three_sevenths_cut (counted (quarter_end ⊖ x)))) h)

pub lower_second : (x : Float) → lt x seam ≡ false → leaving (solution three_sevenths_cut (counted (quarter_end ⊖ x))) ≡ lower x
unfolding lower
lower_second x h = sym (no_way (ratio (solution two_fifths_cut (counted x)) unity) (leaving (solution three_sevenths_cut (counted (quarter_end ⊖ x)))) h)

pub solved_first : (theta : Float) → le theta quarter_end ≡ true → lower theta ≡ solved theta
unfolding solved
solved_first theta h = sym (yes_way (lower theta) (one ⊘ lower (half_end ⊖ theta)) h)

pub solved_second : (theta : Float) → le theta quarter_end ≡ false → one ⊘ lower (half_end ⊖ theta) ≡ solved theta
unfolding solved
solved_second theta h = sym (no_way (lower theta) (one ⊘ lower (half_end ⊖ theta)) h)

-- ---- steep
pub steep_guess : (theta : Float) → close (sine theta ⊘ cosine theta) theta ≡ true → sine theta ⊘ cosine theta ≡ steep theta
unfolding steep
steep_guess theta h = sym (yes_way (sine theta ⊘ cosine theta) (solved theta) h)

pub steep_solved : (theta : Float) → close (sine theta ⊘ cosine theta) theta ≡ false → solved theta ≡ steep theta
unfolding steep
steep_solved theta h = sym (no_way (sine theta ⊘ cosine theta) (solved theta) h)

-- ---- tangent
module _ (theta : Float) where
  abbrev size : Float
  size = magnitude theta

  abbrev turned : Option Float
  turned = Some (cond (lt theta (f64 0)) (neg (steep size)) (steep size))

  abbrev past : Option Float
  past = cond (finite theta) None (Some nan)

  pub tangent_tiny : lt size tiny ≡ true → Some theta ≡ tangent theta
  unfolding tangent
  tangent_tiny h = sym (yes_way (Some theta) (cond (le size limit_end) turned past) h)

  later : lt size tiny ≡ false → tangent theta ≡ cond (le size limit_end) turned past
  unfolding tangent
  later h = no_way (Some theta) (cond (le size limit_end) turned past) h

  pub tangent_minus : lt size tiny ≡ false → le size limit_end ≡ true → lt theta (f64 0) ≡ true → Some (neg (steep size)) ≡ tangent theta
  tangent_minus h k s = sym (later h ∙ yes_way turned past k ∙ ap Some (yes_way (neg (steep size)) (steep size) s))

  pub tangent_plus : lt size tiny ≡ false → le size limit_end ≡ true → lt theta (f64 0) ≡ false → Some (steep size) ≡ tangent theta
  tangent_plus h k s = sym (later h ∙ yes_way turned past k ∙ ap Some (no_way (neg (steep size)) (steep size) s))

  pub tangent_refused : lt size tiny ≡ false → le size limit_end ≡ false → finite theta ≡ true → None ≡ tangent theta
  tangent_refused h k n = sym (later h ∙ no_way turned past k ∙ yes_way None (Some nan) n)

  pub tangent_none : lt size tiny ≡ false → le size limit_end ≡ false → finite theta ≡ false → Some nan ≡ tangent theta
  tangent_none h k n = sym (later h ∙ no_way turned past k ∙ no_way None (Some nan) n)
