-- Where r⁴ isn't finite, bc gives NaN: the quotient's numerator isn't finite, and over its denominator, which isn't either, 1 is a zero or NaN. Assumes nothing.
use mathlib.Core.Path.{◌≡◌, refl, ap, ◌∙◌}
use mathlib.Core.Bool.{true}
use mathlib.Core.Logic.{◌⊎◌, inl, inr}
use lib.Dec.{T}
use lib.Ieee.{Float, nan, inf, fin, add, mul, div, of_bits}
use lib.Ieee.Scale.{finite}
use Rattle.exact.specs.F64.{◌⊕◌, ◌⊗◌, ◌⊘◌, is_zero}
use Rattle.exact.proofs.Operations.{sum_finite, product_finite}
use Rattle.exact.proofs.Zeros.{zero_elim, zero_times}
use Rattle.lens.specs.Constants.{ones}
use Rattle.lens.specs.Radius.{squared_radius}
use Rattle.lens.specs.declared.Point.{Point}
use Rattle.brown_conrady.specs.BrownConrady.{distortion, shared_at, slopes_at}
use Rattle.brown_conrady.specs.declared.BrownConradyParams.{BrownConradyParams}
use Rattle.brown_conrady.specs.declared.Slopes.{Slopes}

abbrev Wild : Float → Type 0
Wild x = ¬ T (finite x)

-- a zero, or NaN
abbrev Gone : Float → Type 0
Gone x = (is_zero x ≡ true) ⊎ (x ≡ nan)

one_over : (y : Float) → Wild y → Gone (ones ⊘ y)
unfolding div is_zero of_bits
one_over nan w = inr refl
one_over (inf s) w = inl refl
one_over (fin s m e) w = absurd (w tt)

gone_times : (g x : Float) → Gone g → Gone (g ⊗ x)
gone_times g nan (inl z) = inr (zero_elim (λ (g : Float). g ⊗ nan ≡ nan) (λ s e. unfold mul in refl) g z)
gone_times g (inf t) (inl z) = inr (zero_elim (λ (g : Float). g ⊗ inf t ≡ nan) (λ s e. unfold mul in refl) g z)
gone_times g (fin t n d) (inl z) = inl (zero_times g (fin t n d) z tt)
gone_times g x (inr e) = inr (ap (λ (g : Float). g ⊗ x) e ∙ unfold mul in refl)

pub gone_wild : (g x : Float) → Gone g → Wild x → g ⊗ x ≡ nan
gone_wild g nan (inl z) w = zero_elim (λ (g : Float). g ⊗ nan ≡ nan) (λ s e. unfold mul in refl) g z
gone_wild g (inf t) (inl z) w = zero_elim (λ (g : Float). g ⊗ inf t ≡ nan) (λ s e. unfold mul in refl) g z
gone_wild g (fin t n d) (inl z) w = absurd (w tt)
gone_wild g x (inr e) w = ap (λ (g : Float). g ⊗ x) e ∙ unfold mul in refl

wild_gone : (x g : Float) → Wild x → Gone g → x ⊗ g ≡ nan
wild_gone nan g w (inl z) = zero_elim (λ (g : Float). nan ⊗ g ≡ nan) (λ s e. unfold mul in refl) g z
wild_gone (inf t) g w (inl z) = zero_elim (λ (g : Float). inf t ⊗ g ≡ nan) (λ s e. unfold mul in refl) g z
wild_gone (fin t n d) g w (inl z) = absurd (w tt)
wild_gone nan g w (inr e) = ap (λ (g : Float). nan ⊗ g) e ∙ unfold mul in refl
wild_gone (inf t) g w (inr e) = ap (λ (g : Float). inf t ⊗ g) e ∙ unfold mul in refl
wild_gone (fin t n d) g w (inr e) = absurd (w tt)

-- NaN stays
pub nan_plus : {x : Float} (y : Float) → x ≡ nan → x ⊕ y ≡ nan
nan_plus y e = ap (λ (x : Float). x ⊕ y) e ∙ unfold add in refl

-- ---- sums that r⁴ is in

module _ (k l m r2 r4 r6 : Float) (w : Wild r4) where
  first_wild : Wild (ones ⊕ k ⊗ r2 ⊕ l ⊗ r4 ⊕ m ⊗ r6)
  first_wild t = w (product_finite l r4 (sum_finite (ones ⊕ k ⊗ r2) (l ⊗ r4) (sum_finite (ones ⊕ k ⊗ r2 ⊕ l ⊗ r4) (m ⊗ r6) t).0).1).1

  last_wild : Wild (r2 ⊗ k ⊕ r4 ⊗ l ⊕ r6 ⊗ m ⊕ ones)
  last_wild t =
      w (product_finite r4 l (sum_finite (r2 ⊗ k) (r4 ⊗ l) (sum_finite (r2 ⊗ k ⊕ r4 ⊗ l) (r6 ⊗ m) (sum_finite (r2 ⊗ k ⊕ r4 ⊗ l ⊕ r6 ⊗ m) ones t).0).0).1).0

times_wild : (x y : Float) → Wild y → Wild (x ⊗ y)
times_wild x y w t = w (product_finite x y t).1

square_wild : (x : Float) → Wild x → Wild (x ⊗ x)
square_wild x w t = w (product_finite x x t).0

middle_wild : (a x b c : Float) → Wild x → Wild (a ⊕ x ⊗ b ⊕ c)
middle_wild a x b c w t = w (product_finite x b (sum_finite a (x ⊗ b) (sum_finite (a ⊕ x ⊗ b) c t).0).1).0

plus_wild : (a x b : Float) → Wild x → Wild (a ⊕ x ⊗ b)
plus_wild a x b w t = w (product_finite x b (sum_finite a (x ⊗ b) t).1).0

-- ---- the distorted point

module _ (x k1 k2 k3 k4 k5 k6 r2 r4 r6 : Float) (w : Wild r4) where
  quotient_nan : x ⊗ (ones ⊕ k1 ⊗ r2 ⊕ k2 ⊗ r4 ⊕ k3 ⊗ r6) ⊗ (ones ⊘ (ones ⊕ k4 ⊗ r2 ⊕ k5 ⊗ r4 ⊕ k6 ⊗ r6)) ≡ nan
  quotient_nan =
      wild_gone (x ⊗ (ones ⊕ k1 ⊗ r2 ⊕ k2 ⊗ r4 ⊕ k3 ⊗ r6)) (ones ⊘ (ones ⊕ k4 ⊗ r2 ⊕ k5 ⊗ r4 ⊕ k6 ⊗ r6))
      (times_wild x (ones ⊕ k1 ⊗ r2 ⊕ k2 ⊗ r4 ⊕ k3 ⊗ r6) (first_wild k1 k2 k3 r2 r4 r6 w))
      (one_over (ones ⊕ k4 ⊗ r2 ⊕ k5 ⊗ r4 ⊕ k6 ⊗ r6) (first_wild k4 k5 k6 r2 r4 r6 w))

abbrev r⁴ : Point → Float
r⁴ point = squared_radius point.0 point.1 ⊗ squared_radius point.0 point.1

pub distortion_nan : (params : BrownConradyParams) (point : Point) → ¬ T (finite (r⁴ point)) → ((distortion params point).0 ≡ nan) × ((distortion params point).1 ≡ nan)
unfolding distortion
distortion_nan params point w = (
  nan_plus _ (nan_plus _ (quotient_nan point.0 params.k1 params.k2 params.k3 params.k4 params.k5 params.k6 _ _ _ w)),
  nan_plus _ (nan_plus _ (quotient_nan point.1 params.k1 params.k2 params.k3 params.k4 params.k5 params.k6 _ _ _ w)),
)

-- ---- the slopes: c7 is gone, and the four that it multiplies aren't finite

pub record Lost (s : Slopes) : Type 0 where
  pub c7 : Gone s.c7
  pub ux : Wild s.ux
  pub uy : Wild s.uy
  pub vx : Wild s.vx
  pub vy : Wild s.vy

pub slopes_lost : (params : BrownConradyParams) (point : Point) → ¬ T (finite (r⁴ point)) → Lost (slopes_at params point)
unfolding slopes_at shared_at
slopes_lost params point w =
    let r2 : Float = squared_radius point.0 point.1 in
    let c5 = last_wild params.k4 params.k5 params.k6 r2 (r2 ⊗ r2) (r2 ⊗ r2 ⊗ r2) w in
    let c6 = square_wild _ c5 in
    record {
      c7 = one_over _ c6;
      ux = middle_wild _ _ _ _ c5;
      uy = plus_wild _ _ _ c6;
      vx = plus_wild _ _ _ c6;
      vy = middle_wild _ _ _ _ c5;
    }

-- so the matrix of a Newton step is NaN (`gone_wild`), and the derivative by the point
pub scaled_nan : (c7 f x : Float) → Gone c7 → Wild x → c7 ⊗ f ⊗ x ≡ nan
scaled_nan c7 f x g w = gone_wild (c7 ⊗ f) x (gone_times c7 f g) w
