-- bc12 with a prism of zeros is judged as bc is, before and behind, and its model's answers are alike. Assumes nothing.
use mathlib.Core.Path.{◌≡◌, refl, sym, ap, ap₂, ◌∙◌, subst}
use Rattle.std.specs.declared.result.Result.TheVariants.{Ok, Err}
use mathlib.Core.Bool.{Bool, true, false, cond, ◌&&◌, true≢false, false≢true}
use mathlib.Core.List.{List, [], ◌∷◌}
use lib.Dec.{T}
use lib.Ieee.{Float}
use lib.Ieee.Scale.{finite}
use Rattle.exact.specs.Alike.{AllAlike}
use Rattle.exact.specs.F64.{is_zero}
use Rattle.exact.proofs.Alike.{≐-finite}
use Rattle.exact.proofs.Zeros.{zero_elim}
use Rattle.lens.specs.Alike.{AlikePixels, AlikeJacobians, AlikeSettled}
use Rattle.lens.specs.Distorted.{told_pixel, finite_pixel}
use Rattle.lens.specs.Finite.{all_finite}
use Rattle.lens.specs.Judgement.{decided, accepted}
use Rattle.lens.specs.Undistorted.{told}
use Rattle.lens.specs.declared.Jacobian.{Jacobian}
use Rattle.lens.specs.Judgement.{Judgement}
use Rattle.lens.specs.declared.Pixel.{Pixel}
use Rattle.lens.specs.declared.Refusal.TheVariants.{NotFinite, ZeroFocalLength, AnswerNotFinite}
use Rattle.lens.specs.declared.Settled.{Settled}
use Rattle.thin_prism.specs.ThinPrism.{NoPrism}
use Rattle.thin_prism.specs.declared.ThinPrismParams.{ThinPrismParams}
use Rattle.camera.specs.Camera.{told_jacobian}
use Rattle.camera.specs.Camera.{parameters, zero_focal, judged, finite_point, finite_jacobian}
use Rattle.camera.specs.declared.Camera.TheVariants.{BrownConrady, ThinPrism}
use Rattle.camera.proofs.Known.{prism, prism_behind}
use Rattle.camera.proofs.Told.{none, pixel_number, point_number, slope_number}

-- ---- before

zero_finite : (x : Float) → is_zero x ≡ true → finite x ≡ true
zero_finite = zero_elim (λ x. finite x ≡ true) (λ s e. refl)

module _ (p : ThinPrismParams) (zs : NoPrism p) where
  prism_finite : all_finite (prism p) ≡ true
  unfolding all_finite
  prism_finite = rw (zero_finite p.s1 zs.s1, zero_finite p.s2 zs.s2, zero_finite p.s3 zs.s3, zero_finite p.s4 zs.s4) refl

  parameters_finite : all_finite (parameters (ThinPrism p)) ≡ all_finite (parameters (BrownConrady p.bc))
  parameters_finite = sym (prism_behind p refl) ∙ ap (λ (b : Bool). all_finite (parameters (BrownConrady p.bc)) && b) prism_finite ∙ and_true _
    where
      and_true : (b : Bool) → (b && true) ≡ b
      and_true true = refl
      and_true false = refl

  pub same_judged : (x y : Float) → judged (ThinPrism p) x y ≡ judged (BrownConrady p.bc) x y
  unfolding judged
  same_judged x y = rw parameters_finite refl

-- ---- behind

pub distort_alike :
    (j : Judgement) (a b : Pixel) → AlikePixels a b → pixel_number (decided j Err (finite_pixel a)) ≡ 0
    → (pixel_number (decided j Err (finite_pixel b)) ≡ 0)
    × AlikePixels (told_pixel (decided j Err (finite_pixel a))).pixel (told_pixel (decided j Err (finite_pixel b))).pixel
distort_alike (Err r) a b h e = absurd (none r e)
distort_alike (Ok _) a b h e =
    go (finite a.0 && finite a.1) (finite b.0 && finite b.1) (ap₂ ◌&&◌ (≐-finite h.u) (≐-finite h.v)) e
  where
    go :
        (f g : Bool) → f ≡ g → pixel_number (cond f (Ok a) (Err AnswerNotFinite)) ≡ 0
        → (pixel_number (cond g (Ok b) (Err AnswerNotFinite)) ≡ 0)
        × AlikePixels (told_pixel (cond f (Ok a) (Err AnswerNotFinite))).pixel (told_pixel (cond g (Ok b) (Err AnswerNotFinite))).pixel
    go true true i e = (refl, h)
    go true false i e = absurd (true≢false i)
    go false g i e = absurd (none AnswerNotFinite e)

pub undistort_alike :
    (j : Judgement) (a b : Settled) → (T (finite a.point.0) → AlikeSettled a b) → point_number (decided j Err (finite_point (Ok a))) ≡ 0
    → (point_number (decided j Err (finite_point (Ok b))) ≡ 0)
    × AlikeSettled (told (decided j Err (finite_point (Ok a)))).settled (told (decided j Err (finite_point (Ok b)))).settled
undistort_alike (Err r) a b h e = absurd (none r e)
undistort_alike (Ok _) a b h e = go (finite a.point.0) (finite a.point.1) refl refl e
  where
    go :
        (f g : Bool) → finite a.point.0 ≡ f → finite a.point.1 ≡ g
        → point_number (cond (f && g) (Ok a) (Err AnswerNotFinite)) ≡ 0
        → (point_number (finite_point (Ok b)) ≡ 0)
        × AlikeSettled (told (cond (f && g) (Ok a) (Err AnswerNotFinite))).settled (told (finite_point (Ok b))).settled
    go true true i k e =
        let s = h (subst T (sym i) tt) in
        rw (sym (≐-finite s.point.x) ∙ i, sym (≐-finite s.point.y) ∙ k) (refl, s)
    go true false i k e = absurd (none AnswerNotFinite e)
    go false g i k e = absurd (none AnswerNotFinite e)

all_alike_finite : (xs ys : List Float) → AllAlike xs ys → all_finite xs ≡ all_finite ys
unfolding all_finite
all_alike_finite [] [] h = refl
all_alike_finite [] (y ∷ ys) h = absurd h
all_alike_finite (x ∷ xs) [] h = absurd h
all_alike_finite (x ∷ xs) (y ∷ ys) h = ap₂ ◌&&◌ (≐-finite h.0) (all_alike_finite xs ys h.1)

pub jacobian_alike :
    (j : Judgement) (a b : Jacobian) → AlikeJacobians a b → slope_number (decided j Err (finite_jacobian a)) ≡ 0
    → (slope_number (decided j Err (finite_jacobian b)) ≡ 0)
    × AlikeJacobians (told_jacobian (decided j Err (finite_jacobian a))).jacobian (told_jacobian (decided j Err (finite_jacobian b))).jacobian
jacobian_alike (Err r) a b h e = absurd (none r e)
jacobian_alike (Ok _) a b h e = go (all_finite a.entries) (all_finite b.entries) (all_alike_finite a.entries b.entries h.entries) e
  where
    go :
        (f g : Bool) → f ≡ g → slope_number (cond f (Ok a) (Err AnswerNotFinite)) ≡ 0
        → (slope_number (cond g (Ok b) (Err AnswerNotFinite)) ≡ 0)
        × AlikeJacobians (told_jacobian (cond f (Ok a) (Err AnswerNotFinite))).jacobian (told_jacobian (cond g (Ok b) (Err AnswerNotFinite))).jacobian
    go true true i e = (refl, h)
    go true false i e = absurd (true≢false i)
    go false g i e = absurd (none AnswerNotFinite e)

-- ---- a call of bc's that isn't refused has finite focal lengths

and_both : (a b : Bool) → (a && b) ≡ true → (a ≡ true) × (b ≡ true)
and_both true b e = (refl, e)
and_both false b e = absurd (false≢true e)

pub focal_finite :
    (p : ThinPrismParams) (x y : Float) (a : Jacobian)
    → slope_number (decided (judged (BrownConrady p.bc) x y) Err (finite_jacobian a)) ≡ 0 → T (finite p.bc.fx) × T (finite p.bc.fy)
unfolding judged all_finite
focal_finite p x y a e =
    let all = (and_both (all_finite (parameters (BrownConrady p.bc))) (finite x && finite y) (go _ (zero_focal (BrownConrady p.bc)) e)).0 in
    let fx = and_both (finite p.bc.fx) _ all in
    (subst T (sym fx.0) tt, subst T (sym (and_both (finite p.bc.fy) _ fx.1).0) tt)
  where
    go : (g z : Bool) → slope_number (decided (cond g (cond z (Err ZeroFocalLength) accepted) (Err NotFinite)) Err (finite_jacobian a)) ≡ 0 → g ≡ true
    go true z e = refl
    go false z e = absurd (none NotFinite e)
